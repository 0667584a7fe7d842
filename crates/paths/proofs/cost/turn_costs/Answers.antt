-- `paths::cost::turn_costs` meets its contract: after y turns the cells of y rows are made. Assumes nothing.
use Prim.Native.Nat.{◌*◌}
use mathlib.Core.Path.{◌∙◌, ap}
use native.Mathlib.Nat.{zero-mul}
use native.Mathlib.Omega.{arith}
use Rattle.paths.specs.Cost.{turned_row}
use Rattle.paths.specs.Room.{run}
use Rattle.paths.proofs.Blocks.{begun_none, begun_lent, same-part}
use Rattle.paths.proofs.Turning.{line-length, turned-costs-length, turns-turn, turns-done}
use Rattle.paths.proofs.cost.turn_costs.Goals as goal

pub loop-y-init : goal.loop-y-init
loop-y-init c = let k = c.args.turn in rw zero-mul (begun_none (omega (arith, turned-costs-length k.w k.h k.first k.count c.args.from.now, c.requires)))

pub loop-y-preserved : goal.loop-y-preserved
loop-y-preserved c =
    let k = c.args.turn in
    let l = c.loop-y in
    let line = k.w * k.count in
    let shift = c.shift-shift.result in
    let row = run line (l.y * line) c.args.from.now in
    begun_lent _ (l.y * line) _ l.to c.row.new.to (turned_row k.w k.count shift row) (c.row.ensures ∙ ap (turned_row k.w k.count shift) (same-part (l.y * line) line c.args.from.now))
    (omega (arith, line-length k.w k.count shift row))
    (turns-turn k.w k.h k.count k.first shift k.turnable.first-most c.shift-shift.ensures c.args.from.now l.to l.y c.loop-y-test.true l.invariant)

pub returns : goal.returns
returns c =
    let k = c.args.turn in
    turns-done k.w k.h k.count k.first c.shift-shift.result k.turnable.first-most c.shift-shift.ensures c.args.from.now c.loop-y-test.false c.loop-y.invariant
