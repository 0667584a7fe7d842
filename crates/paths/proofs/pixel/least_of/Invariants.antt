-- `paths::pixel::least_of` meets its contract: the least of the rest and of what was found is that of all. Assumes nothing.
use Rattle.paths.proofs.Orders.{Lowest}
use Rattle.paths.proofs.pixel.least_of.Given as goal

abbrev pub invariant-loop-cell : goal.invariant-loop-cell
invariant-loop-cell l = Lowest l.lowest l.cell-index l.cells
