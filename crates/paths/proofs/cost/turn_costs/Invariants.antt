-- `paths::cost::turn_costs` meets its contract: after y turns the cells of y rows are made. Assumes nothing.
use Rattle.std.proofs.Common.{◌*◌}
use Rattle.paths.specs.Cost.{turned_costs}
use Rattle.paths.proofs.Blocks.{Begun}
use Rattle.paths.proofs.cost.turn_costs.Given as goal

abbrev pub invariant-loop-y : goal.invariant-loop-y
invariant-loop-y l = Begun (turned_costs l.turn.w l.turn.h l.turn.first l.turn.count l.from) l.to (l.y * (l.turn.w * l.turn.count))
