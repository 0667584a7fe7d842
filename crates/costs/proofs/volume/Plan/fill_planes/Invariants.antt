-- `Plan::fill_planes` meets its contract: after k turns k planes are filled, and the pictures' tables are as they were. Assumes nothing.
use Rattle.costs.proofs.Volumes.{PlanesInv}
use Rattle.costs.proofs.volume.Plan.fill_planes.Given as goal

abbrev pub invariant-loop-k : goal.invariant-loop-k
invariant-loop-k l = PlanesInv l.side l.w l.h l.frame.r l.first l.count l.a l.b l.initial.out l.initial.room l.out l.room l.k
