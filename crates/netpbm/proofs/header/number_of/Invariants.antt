-- `netpbm::header::number_of` meets its contract: at each turn the digits left go on from the number of those passed. Assumes nothing.
use Rattle.netpbm.proofs.Headers.{NumberSoFar}
use Rattle.netpbm.proofs.header.number_of.Given as goal

abbrev pub invariant-loop-b : goal.invariant-loop-b
invariant-loop-b l = NumberSoFar l.digits l.n l.b-index
