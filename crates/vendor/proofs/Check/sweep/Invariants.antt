-- `Check::sweep` meets its contract: after k turns the limit is the first pixel that is not fit or is beaten by an index below k. Assumes nothing.
use Rattle.vendor.proofs.Sweeping.{SweepInv}
use Rattle.vendor.proofs.Check.sweep.Given as goal

abbrev pub invariant-loop-k : goal.invariant-loop-k
invariant-loop-k l = SweepInv l.self l.left l.right l.map l.initial.room l.room l.limit l.k
