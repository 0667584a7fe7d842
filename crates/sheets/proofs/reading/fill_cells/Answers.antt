-- `sheets::reading::fill_cells` meets its contract: at each turn the cells read and those left make all. Assumes nothing.
use Rattle.sheets.proofs.Readings.{filling-none, filling-next, filling-refused, filling-done}
use Rattle.sheets.proofs.reading.fill_cells.Goals as goal

pub loop-cell-init : goal.loop-cell-init
loop-cell-init c = filling-none _ _ _ c.requires

pub returns-in_default : goal.returns-in_default
returns-in_default c = filling-refused _ _ _ _ _ _ c.loop-cell.invariant c.loop-cell-test.true _ c.in_default.ensures

pub loop-cell-preserved : goal.loop-cell-preserved
loop-cell-preserved c = filling-next _ _ _ _ _ _ c.loop-cell.invariant c.loop-cell-test.true _ _ c.in-Ok.ensures

pub returns : goal.returns
returns c = filling-done _ _ _ _ _ _ c.loop-cell.invariant c.loop-cell-test.false
