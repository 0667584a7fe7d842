-- `maps::MapView::inner_valids` meets its contract: each turn counts the part of one row that lies within. Assumes nothing.
use Rattle.maps.proofs.Framed.{CountedRows}
use Rattle.maps.proofs.MapView.inner_valids.Given as goal

abbrev pub invariant-loop-y : goal.invariant-loop-y
invariant-loop-y l = CountedRows l.self.width l.self.height l.r l.self.cells.now l.n l.y
