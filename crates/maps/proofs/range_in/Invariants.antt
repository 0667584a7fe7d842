-- `maps::range_in` meets its contract: the ends so far are the range of the cells seen. Assumes nothing.
use Rattle.maps.proofs.Ends.{Seen}
use Rattle.maps.proofs.range_in.Given as goal

abbrev pub invariant-loop-x : goal.invariant-loop-x
invariant-loop-x l = Seen l.cells l.least l.greatest l.x-index
