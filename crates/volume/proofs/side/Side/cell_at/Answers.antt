-- `volume::side::Side::cell_at` meets its contract: what lies between near edges is near. Assumes nothing.
use mathlib.Core.Path.{sym, ◌∙◌}
use mir.Syntax.{w64}
use mir.ValLaws.{to_z-of_z}
use Rattle.volume.proofs.Differences.{near-back, near-between}
use Rattle.volume.proofs.side.Side.cell_at.Goals as goal

pub above_by-requires : goal.above_by-requires
above_by-requires c =
    let s = c.args.self in
    let inside = sym (rw (to_z-of_z w64 c.args.v c.ranges.v) at c.contains.ensures) ∙ c.if-contains.true in
    (near-back c.args.v (near-between s.low s.high c.args.v s.low_near s.high_near inside), near-back s.low s.low_near)
