-- `Plan::fill_planes` meets its contract: after k turns k planes are filled, and the pictures' tables are as they were. Assumes nothing.
use Prim.Native.Nat.{ℕ, ◌+◌, ◌-◌, ◌*◌, ◌≤◌}
use mathlib.Core.Path.{◌≡◌, ◌∙◌, subst}
use native.Mathlib.Nat.{mul_comm, mul-le-mul}
use native.Mathlib.Omega.{arith}
use borrow.Author.Rules.{rules}
use borrow.Rule.Slice.PartMut.{put_mid}
use lib.IntN.{ℤ, nat_abs}
use mir.Syntax.{w64}
use mir.Val.{to_z, of_z}
use mir.ValLaws.{to_z-of_z}
use Rattle.options.specs.Limits.{side_most, most_count, first_most, shift_most}
use Rattle.costs.specs.Raw.{shift_of}
use Rattle.windows.specs.Window.{cells}
use Rattle.costs.specs.Rooms.{RoomOf}
use Rattle.costs.specs.Volume.{planes_of}
use Rattle.costs.proofs.Readings.{cells-most}
use Rattle.costs.proofs.Planes.{part-fits, area-most, part_length}
use Rattle.costs.proofs.Signed.{shift-most}
use Rattle.costs.proofs.Volumes.{planes-start, lent-size, five-parts, planes-again, planes-done}
use Rattle.costs.proofs.volume.Plan.fill_planes.Goals.{After-fill_cross, After-shift_at-shift, In-loop-k, Start}
use Rattle.costs.proofs.volume.Plan.fill_planes.Goals as goal

-- the first disparity, as the machine reads it back from its bits
back : (z : Start) → to_z w64 (of_z w64 z.args.self.first) ≡ z.args.self.first
back z = to_z-of_z w64 z.args.self.first (search (rules, z.well_formed))

first-most : (z : Start) → nat_abs (to_z w64 (of_z w64 z.args.self.first)) ≤ first_most
first-most z = rw (back z) z.requires.sizes.first-most

-- the shift, read back
shifted : (c : After-shift_at-shift)
    → to_z w64 (of_z w64 c.shift_at-shift.result) ≡ shift_of c.args.self.side (to_z w64 (of_z w64 c.args.self.first)) c.loop-k.k
shifted c = to_z-of_z w64 c.shift_at-shift.result (record { sfits = c.shift_at-shift.type_inv }) ∙ c.shift_at-shift.ensures

shift_small : (c : After-shift_at-shift) → nat_abs (to_z w64 (of_z w64 c.shift_at-shift.result)) ≤ shift_most
shift_small c =
    rw (shifted c) (shift-most _ _ (first-most (goal.at.After-shift_at-shift c).Start) (omega (arith, c.requires.sizes.count_most, c.loop-k-test.true)) c.args.self.side)

-- the room after the products are filled
room_of : (c : After-fill_cross)
    → RoomOf (put_mid (4 * cells c.args.self.frame.w c.args.self.frame.h) (5 * cells c.args.self.frame.w c.args.self.frame.h - 4 * cells c.args.self.frame.w c.args.self.frame.h) c.loop-k.room c.fill_cross.new.table)
    c.args.self.frame.w c.args.self.frame.h c.args.self.frame.r (to_z w64 (of_z w64 c.shift_at-shift.result)) c.args.a.now c.args.b.now
room_of c =
    five-parts c.loop-k.invariant c.requires.sizes.room-cells _ _ c.fill_cross.ensures c.requires.sizes.frame
    (record { bytes = c.requires.sizes.a-bytes; small = λ i. omega (arith, c.type_inv.a i) })
    (record { bytes = c.requires.sizes.b-bytes; small = λ i. omega (arith, c.type_inv.b i) })

-- sizes that fit
spots : (z : Start) → (z.args.self.frame.w * z.args.self.frame.h ≤ side_most * side_most) × (cells z.args.self.frame.w z.args.self.frame.h ≤ (side_most + 1) * (side_most + 1)) × (z.args.self.frame.w ≤ side_most) × (z.args.self.frame.h ≤ side_most)
spots z =
    let f = z.requires.sizes.frame in
    (area-most z.args.self.frame.w z.args.self.frame.h f.w-most f.h-most, cells-most z.args.self.frame.w z.args.self.frame.h f.w-most f.h-most, f.w-most, f.h-most)

-- plane k lies within the volume
plane-spot : (c : In-loop-k)
    → (c.loop-k.k * (c.args.self.frame.w * c.args.self.frame.h) + c.args.self.frame.w * c.args.self.frame.h ≤ c.args.self.count * (c.args.self.frame.w * c.args.self.frame.h))
    × (c.args.self.count * (c.args.self.frame.w * c.args.self.frame.h) ≤ most_count * (side_most * side_most))
plane-spot c =
    let area = c.args.self.frame.w * c.args.self.frame.h in (
      subst (λ (n : ℕ). c.loop-k.k * area + area ≤ n) (mul_comm area c.args.self.count) (part-fits area c.args.self.count c.loop-k.k c.loop-k-test.true),
      mul-le-mul c.requires.sizes.count_most (spots (goal.at.In-loop-k c).Start).0,
    )

pub loop-k-init : goal.loop-k-init
loop-k-init c = planes-start _ _ _ _ _ _ _ _ _ _ c.requires.sizes.out-cells c.requires.tables

pub shift_at-shift-requires : goal.shift_at-shift-requires
shift_at-shift-requires c = (first-most (goal.at.shift_at-shift-requires c).Start, omega (arith, c.requires.sizes.count_most, c.loop-k-test.true))

pub offset_bounds-room-four : goal.offset_bounds-room-four
offset_bounds-room-four c = omega (arith, spots (goal.at.offset_bounds-room-four c).Start)

pub slice_bounds-fill_cross-count : goal.slice_bounds-fill_cross-count
slice_bounds-fill_cross-count c = omega (arith, spots (goal.at.slice_bounds-fill_cross-count c).Start)

pub slice_bounds-fill_cross-start : goal.slice_bounds-fill_cross-start
slice_bounds-fill_cross-start c = omega (arith, spots (goal.at.slice_bounds-fill_cross-start c).Start)

pub slice_bounds-fill_cross-end : goal.slice_bounds-fill_cross-end
slice_bounds-fill_cross-end c = omega (arith, spots (goal.at.slice_bounds-fill_cross-end c).Start, c.requires.sizes.room-cells, c.loop-k.invariant.room-size)

pub fill_cross-requires : goal.fill_cross-requires
fill_cross-requires c =
    let f = c.requires.sizes.frame in (
      record {
        w-least = omega (arith, f.across);
        w-most = f.w-most;
        h-least = omega (arith, f.down);
        h-most = f.h-most;
        cells = lent-size c.loop-k.invariant c.requires.sizes.room-cells;
        bytes = c.requires.sizes.a-bytes;
      },
      c.requires.sizes.b-bytes,
      shift_small (goal.at.fill_cross-requires c).After-shift_at-shift,
    )

pub overflow_mul-from : goal.overflow_mul-from
overflow_mul-from c = omega (arith, plane-spot (goal.at.overflow_mul-from c).In-loop-k)

pub overflow_add-to : goal.overflow_add-to
overflow_add-to c = omega (arith, plane-spot (goal.at.overflow_add-to c).In-loop-k)

pub offset_bounds-out-from : goal.offset_bounds-out-from
offset_bounds-out-from c = omega (arith, plane-spot (goal.at.offset_bounds-out-from c).In-loop-k)

pub slice_bounds-raw_plane-count : goal.slice_bounds-raw_plane-count
slice_bounds-raw_plane-count c = omega (arith, plane-spot (goal.at.slice_bounds-raw_plane-count c).In-loop-k)

pub slice_bounds-raw_plane-start : goal.slice_bounds-raw_plane-start
slice_bounds-raw_plane-start c = omega (arith, plane-spot (goal.at.slice_bounds-raw_plane-start c).In-loop-k)

pub slice_bounds-raw_plane-end : goal.slice_bounds-raw_plane-end
slice_bounds-raw_plane-end c = omega (arith, plane-spot (goal.at.slice_bounds-raw_plane-end c).In-loop-k, c.loop-k.invariant.out-size)

pub raw_plane-requires : goal.raw_plane-requires
raw_plane-requires c =
    let l = c.loop-k in (
      record { a = c.args.a.now; b = c.args.b.now; held = room_of (goal.at.raw_plane-requires c).After-fill_cross },
      shift_small (goal.at.raw_plane-requires c).After-shift_at-shift,
      part_length (c.args.self.frame.w * c.args.self.frame.h) l.k l.out (omega (arith, plane-spot (goal.at.raw_plane-requires c).In-loop-k, l.invariant.out-size)),
    )

pub loop-k-preserved : goal.loop-k-preserved
loop-k-preserved c =
    let l = c.loop-k in
    planes-again l.invariant c.requires.sizes.room-cells _ _ c.fill_cross.ensures c.loop-k-test.true (shifted (goal.at.loop-k-preserved c).After-shift_at-shift)
    c.raw_plane.new.plane c.raw_plane.auto.plane (c.raw_plane.ensures _ _ (room_of (goal.at.loop-k-preserved c).After-fill_cross))

pub returns : goal.returns
returns c =
    let l = c.loop-k in (
      subst (λ (f : ℤ). l.out ≡ planes_of c.args.self.side c.args.self.frame.w c.args.self.frame.h c.args.self.frame.r f c.args.self.count c.args.a.now c.args.b.now) (back (goal.at.returns c).Start)
          (planes-done l.invariant c.requires.sizes.out-cells c.loop-k-test.false),
      l.invariant.rest,
    )
