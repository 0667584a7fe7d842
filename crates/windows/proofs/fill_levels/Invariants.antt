-- `windows::fill_levels` meets its contract: the rows are those of the picture's levels. Assumes nothing.
use Rattle.lists.specs.Rows.{level_at}
use Rattle.windows.specs.contracts.fn.fill_levels.add_row as closure
use Rattle.windows.proofs.fill_levels.Given as goal

abbrev pub ghost-fill_rows : goal.ghost-fill_rows
ghost-fill_rows a = level_at a.w (closure.captures a.add_row.now).pic.now
