-- `volume::grid::drop_points` meets its contract. Assumes nothing.
use lib.ListN.{length}
use Rattle.volume.specs.Metres.{spots_in}
use Rattle.volume.proofs.Filling.{Falling}
use Rattle.volume.proofs.grid.drop_points.Given as goal

abbrev pub invariant-loop-x : goal.invariant-loop-x
invariant-loop-x l = Falling l.plan.site (spots_in l.fn.points) l.grid l.inside (length l.yielded)
