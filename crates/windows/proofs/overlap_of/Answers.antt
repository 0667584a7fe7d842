-- `windows::overlap_of` meets its contract. Assumes nothing.
use Rattle.std.proofs.Common.{w64}
use Rattle.std.proofs.lemmas.Int.{to_z-of_z}
use Rattle.windows.proofs.Shifts.{overlap-left, overlap-right}
use Rattle.windows.proofs.overlap_of.Goals as goal

pub returns-then-shift-lt0-clause-is : goal.returns-then-shift-lt0-clause-is
returns-then-shift-lt0-clause-is c =
    let back = to_z-of_z w64 c.args.shift c.ranges.shift in
    overlap-left _ _ c.args.shift (rw back at c.if-shift-lt0.true) _ _ _ (rw back at c.distance-apart.ensures) c.min-first.ensures c.min-count.ensures

pub returns-clause-is : goal.returns-clause-is
returns-clause-is c =
    let back = to_z-of_z w64 c.args.shift c.ranges.shift in
    overlap-right _ _ c.args.shift (rw back at c.if-shift-lt0.false) _ _ _ (rw back at c.distance-apart.ensures) c.min-other.ensures c.min-count-2.ensures
