-- `paths::cost::fill_costs` meets its contract: before the turn of pixel p the costs of the pixels below p are filled. Assumes nothing.
use Rattle.std.proofs.Common.{◌*◌}
use Rattle.paths.specs.Cost.{matching_costs}
use Rattle.paths.proofs.Blocks.{Begun}
use Rattle.paths.proofs.cost.fill_costs.Given as goal

abbrev pub invariant-loop-p : goal.invariant-loop-p
invariant-loop-p l = Begun (matching_costs l.area l.count l.raw) l.costs (l.p * l.count)
