-- `volume::grid::settle` meets its contract. Assumes nothing.
use Rattle.volume.proofs.Settling.{Settling}
use Rattle.volume.proofs.grid.settle.Given as goal

abbrev pub invariant-loop-cell : goal.invariant-loop-cell
invariant-loop-cell l = Settling l.initial.grid l.grid l.height l.empty l.cell-index
