-- `Check::sweep` meets its contract: after k turns the limit is the first pixel that is not fit or is beaten by an index below k. Assumes nothing.
use Prim.Native.Nat.{◌*◌, ◌≤◌}
use mathlib.Core.Path.{◌≡◌, ap, ◌∙◌}
use native.Mathlib.Omega.{arith}
use borrow.Author.Rules.{rules}
use lib.IntN.{ℤ}
use lib.ListN.{length}
use mir.Syntax.{w32, w64}
use mir.Val.{SFits, to_z, of_z}
use mir.ValLaws.{to_z-of_z}
use Rattle.options.specs.declared.Side.TheVariants.{Left}
use Rattle.lists.proofs.Sizes.{small-fits}
use Rattle.windows.specs.Window.{cells}
use Rattle.costs.specs.Raw.{shift_of}
use Rattle.vendor.specs.declared.cells.Question.TheVariants.{Fit}
use Rattle.lists.specs.Lists.{first_not}
use Rattle.vendor.specs.Tests.{holds_at, shift_at}
use Rattle.vendor.proofs.Targets.{standing}
use Rattle.vendor.proofs.Sweeping.{five-parts, sweep-start, limit-most, sweep-again, sweep-done}
use Rattle.vendor.proofs.Check.sweep.Goals.{After-shift_at-shift, At-loop-k, In-loop-k, Start}
use Rattle.vendor.proofs.Check.sweep.Goals as goal

-- the first disparity, as the machine reads it back from its bits
back-first : (z : Start) → to_z w32 (of_z w32 z.args.self.search.first) ≡ z.args.self.search.first
back-first z = to_z-of_z w32 z.args.self.search.first (search (rules, z.well_formed))

-- it fits the wider type
wide-first : (z : Start) → SFits w64 z.args.self.search.first
wide-first z = small-fits _ (omega (arith, z.requires.0.sized.searched.close))

-- and is read back from there
back-wide : (z : Start) → to_z w64 (of_z w64 (to_z w32 (of_z w32 z.args.self.search.first))) ≡ z.args.self.search.first
back-wide z = ap (λ (k : ℤ). to_z w64 (of_z w64 k)) (back-first z) ∙ to_z-of_z w64 _ (wide-first z)

-- the room is as long as it was
room_fits : (c : At-loop-k) → 5 * cells c.args.self.frame.w c.args.self.frame.h ≤ length c.loop-k.room
room_fits c = omega (arith, c.requires.0.room-cells, c.loop-k.invariant.room-size)

-- the shift, as it is read back
abbrev shift : After-shift_at-shift → ℤ
shift c = to_z w64 (of_z w64 c.shift_at-shift.result)

-- it is that of index k
shifted : (c : After-shift_at-shift) → shift c ≡ shift_at c.args.self c.loop-k.k
shifted c =
    to_z-of_z w64 c.shift_at-shift.result (record { sfits = c.shift_at-shift.type_inv })
    ∙ c.shift_at-shift.ensures
    ∙ ap (λ (f : ℤ). shift_of Left f c.loop-k.k) (back-wide (goal.at.After-shift_at-shift c).Start)

pub loop-k-init : goal.loop-k-init
loop-k-init c =
    sweep-start _ _ _ _ _ _ (standing c.requires.1) (c.first_failing-limit.ensures ∙ ap (λ n. first_not n (holds_at c.args.self c.args.left.now c.args.right.now Fit c.args.map.now)) c.requires.0.map-cells)

pub first_failing-limit-requires-in-loop-k : goal.first_failing-limit-requires-in-loop-k
first_failing-limit-requires-in-loop-k c =
    let held = five-parts c.loop-k.invariant.tables (room_fits (goal.at.first_failing-limit-requires-in-loop-k c).At-loop-k) (shift (goal.at.first_failing-limit-requires-in-loop-k c).After-shift_at-shift) c.fill_cross.new.table c.fill_cross.ensures in
    ((c.loop-k-test.true, rw (shifted (goal.at.first_failing-limit-requires-in-loop-k c).After-shift_at-shift) at held), c.requires.0.map-cells, limit-most c.loop-k.invariant)

pub loop-k-preserved : goal.loop-k-preserved
loop-k-preserved c =
    sweep-again c.loop-k.invariant (room_fits (goal.at.loop-k-preserved c).At-loop-k) (shift (goal.at.loop-k-preserved c).After-shift_at-shift) c.fill_cross.new.table c.fill_cross.ensures c.loop-k-test.true _ c.first_failing-limit-in-loop-k.ensures

pub returns : goal.returns
returns c =
    let t = c.requires.1 in
    (sweep-done c.loop-k.invariant t.sized t.first t.second c.loop-k-test.false, c.loop-k.invariant.rest)
