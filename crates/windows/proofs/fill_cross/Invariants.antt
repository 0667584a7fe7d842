-- `windows::fill_cross` meets its contract: the rows are those of the two pictures' products. Assumes nothing.
use Rattle.windows.specs.Table.{cross_at}
use Rattle.windows.specs.contracts.fn.fill_cross.add_row as closure
use Rattle.windows.proofs.fill_cross.Given as goal

abbrev pub ghost-fill_rows : goal.ghost-fill_rows
ghost-fill_rows a = cross_at a.w (closure.captures a.add_row.now).a.now (closure.captures a.add_row.now).b.now (closure.captures a.add_row.now).shift
