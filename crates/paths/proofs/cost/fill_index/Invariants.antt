-- `paths::cost::fill_index` meets its contract: after d turns the costs of d pixels are filled. Assumes nothing.
use Rattle.std.proofs.Common.{◌≡◌}
use Rattle.paths.specs.Room.{spread}
use Rattle.paths.proofs.Costed.{cost_at}
use Rattle.paths.proofs.cost.fill_index.Given as goal

abbrev pub invariant-loop-d : goal.invariant-loop-d
invariant-loop-d l = l.costs ≡ spread l.d l.count l.k (cost_at l.raw) l.initial.costs
