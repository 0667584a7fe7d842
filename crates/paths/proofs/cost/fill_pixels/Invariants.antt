-- `paths::cost::fill_pixels` meets its contract: after k turns the costs with an index below k are filled. Assumes nothing.
use Rattle.std.proofs.Common.{◌+◌, ◌*◌}
use Rattle.paths.proofs.Blocks.{Made}
use Rattle.paths.proofs.Costed.{cost_at}
use Rattle.paths.proofs.cost.fill_pixels.Given as goal

abbrev pub invariant-loop-k : goal.invariant-loop-k
invariant-loop-k l = Made l.costs l.n l.count (λ d j. cost_at l.raw (j * l.area + (l.p + d))) l.k
