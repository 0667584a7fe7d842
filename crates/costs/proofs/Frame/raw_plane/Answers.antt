-- `Frame::raw_plane` meets its contract: after y turns the plane's first y rows are filled. Assumes nothing.
use Prim.Native.Nat.{◌+◌, ◌-◌, ◌*◌, ◌≤◌}
use mathlib.Core.Path.{◌≡◌, refl, ◌∙◌, subst}
use native.Mathlib.Nat.{zero-mul, mul_comm, le_antisymm}
use native.Mathlib.Omega.{arith}
use borrow.Author.Rules.{rules}
use borrow.Rule.Slice.PartMut.{same_len_mid}
use lib.IntN.{ℤ}
use mir.Syntax.{w64}
use mir.Val.{to_z, of_z}
use mir.ValLaws.{to_z-of_z}
use Rattle.options.specs.Limits.{side_most}
use Rattle.lists.specs.Lists.{list_of}
use Rattle.costs.specs.Rooms.{RoomOf}
use Rattle.costs.specs.Volume.{plane_cells}
use Rattle.lists.proofs.Lists.{filled-end}
use Rattle.costs.proofs.Planes.{part-fits, area-most, part_length, next-part, row-part}
use Rattle.costs.proofs.Frame.raw_plane.Goals.{In-loop-y, Start}
use Rattle.costs.proofs.Frame.raw_plane.Goals as goal

-- the shift that is passed on is read back from its bits
back : (z : Start) → to_z w64 (of_z w64 z.args.shift) ≡ z.args.shift
back z = to_z-of_z w64 z.args.shift z.ranges.shift

-- the row lies within the plane
spot : (c : In-loop-y)
    → (c.loop-y.y * c.args.self.w + c.args.self.w ≤ c.args.self.w * c.args.self.h) × (c.args.self.w * c.args.self.h ≤ side_most * side_most)
spot c =
    let f = c.requires.0.held.frame in
    (part-fits c.args.self.w c.args.self.h c.loop-y.y c.loop-y-test.true, area-most c.args.self.w c.args.self.h f.w-most f.h-most)

pub loop-y-init : goal.loop-y-init
unfolding list_of
loop-y-init c = (search rules, c.requires.2, λ a b o. rw zero-mul refl)

pub overflow_mul-first : goal.overflow_mul-first
overflow_mul-first c = omega (arith, spot c)

pub overflow_add-last : goal.overflow_add-last
overflow_add-last c = omega (arith, spot c)

pub slice_bounds-raw_row-end : goal.slice_bounds-raw_row-end
slice_bounds-raw_row-end c = omega (arith, spot c, c.loop-y.invariant.1)

pub raw_row-requires : goal.raw_row-requires
raw_row-requires c =
    let l = c.loop-y in
    rw (back (goal.at.raw_row-requires c).Start) (c.requires.0, c.requires.1, c.loop-y-test.true, part_length c.args.self.w l.y l.plane (omega (arith, spot (goal.at.raw_row-requires c).In-loop-y, l.invariant.1)))

pub loop-y-preserved : goal.loop-y-preserved
loop-y-preserved c =
    let l = c.loop-y in
    let w = c.args.self.w in (
      omega (arith, c.loop-y-test.true),
      same_len_mid (l.y * w) (l.y * w + w - l.y * w) l.plane c.raw_row.new.row c.raw_row.auto.row ∙ l.invariant.1,
      λ a b o. next-part _ _ _ _ _ _ (l.invariant.2 a b o) (c.raw_row.ensures a b o ∙ row-part _ _ _ a b _ _),
    )

pub returns : goal.returns
unfolding plane_cells
returns c = λ a b o.
    let l = c.loop-y in
    let last : l.y * c.args.self.w ≡ c.args.self.w * c.args.self.h = rw (le_antisymm l.invariant.0 c.loop-y-test.false) (mul_comm c.args.self.h c.args.self.w) in
    subst (λ (s : ℤ). RoomOf c.args.room.now c.args.self.w c.args.self.h c.args.self.r s a b → l.plane ≡ plane_cells c.args.self.w c.args.self.h c.args.self.r a b s)
    (back (goal.at.returns c).Start)
    (λ o'. l.invariant.2 a b o' ∙ filled-end _ _ _ _ last c.requires.2)
    o
