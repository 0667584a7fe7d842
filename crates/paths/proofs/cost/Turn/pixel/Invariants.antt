-- `paths::cost::Turn::pixel` meets its contract: after k turns the first k cells are made. Assumes nothing.
use Rattle.lists.specs.Lists.{list_of}
use Rattle.paths.specs.Cost.{turned_at}
use Rattle.paths.proofs.Blocks.{Begun}
use Rattle.paths.proofs.cost.Turn.pixel.Given as goal

abbrev pub invariant-loop-k : goal.invariant-loop-k
invariant-loop-k l = Begun (list_of l.self.count (turned_at l.self.w l.self.count l.far l.row)) l.to l.k
