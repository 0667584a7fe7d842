-- `paths::sums::aggregate_sgm` meets its contract: after so many turns so many directions are added. Assumes nothing.
use Rattle.paths.proofs.Added.{Added}
use Rattle.paths.proofs.sums.aggregate_sgm.Given as goal

abbrev pub invariant-loop-dx : goal.invariant-loop-dx
invariant-loop-dx l = Added l.w l.h l.count l.p1 l.p2 l.costs l.sums l.dx-index
