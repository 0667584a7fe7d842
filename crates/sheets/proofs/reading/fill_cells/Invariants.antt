-- `sheets::reading::fill_cells` meets its contract: at each turn the cells read and those left make all. Assumes nothing.
use Rattle.std.proofs.Common.{length}
use Rattle.sheets.proofs.Readings.{Filling}
use Rattle.sheets.proofs.reading.fill_cells.Given as goal

abbrev pub invariant-loop-cell : goal.invariant-loop-cell
invariant-loop-cell l = Filling l.kind l.s (length l.initial.out) l.out l.rest l.cell-index
