-- `points::points` meets its contract: the cells before i are seen, and n records of them are written. Assumes nothing.
use Rattle.points.proofs.Filling.{Filling}
use Rattle.points.proofs.points.Given as goal

abbrev pub invariant-loop-i : goal.invariant-loop-i
invariant-loop-i l = Filling l.map.width l.camera l.map.cells.now l.fn.list l.n l.i l.list
