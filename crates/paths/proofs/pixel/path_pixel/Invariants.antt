-- `paths::pixel::path_pixel` meets its contract: before the turn of index k the path costs below k are made. Assumes nothing.
use Rattle.paths.specs.Path.{step_vec}
use Rattle.paths.proofs.Blocks.{Begun}
use Rattle.paths.proofs.pixel.path_pixel.Given as goal

abbrev pub invariant-loop-k : goal.invariant-loop-k
invariant-loop-k l = Begun (step_vec l.p1 l.p2 l.prev l.cost) l.path l.k
