-- `sheets::reading::check_cells` meets its contract: at each turn the cells left are refused as all are. Assumes nothing.
use Rattle.sheets.proofs.Readings.{Checking}
use Rattle.sheets.proofs.reading.check_cells.Given as goal

abbrev pub invariant-loop : goal.invariant-loop
invariant-loop l = Checking l.kind l.count l.s l.rest l.counter
