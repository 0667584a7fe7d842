-- `sheets::reading::check_sheet` meets its contract. Assumes nothing.
use Rattle.std.proofs.Common.{sym, arith}
use Rattle.std.proofs.lemmas.Result.{err_from_is_err_and}
use Rattle.sheets.proofs.Readings.{head-sides, sides-fit, cells-refused, cells-fine}
use Rattle.sheets.proofs.reading.check_sheet.Goals as goal

pub overflow_mul-size : goal.overflow_mul-size
overflow_mul-size c = omega (arith, sides-fit _ _ (head-sides _ _ (sym c.in_ok-size.ensures)))

pub returns-in_err-check_cells : goal.returns-in_err-check_cells
returns-in_err-check_cells c =
    let p = err_from_is_err_and c.from_residual-in_err-check_cells.result c.from_residual-in_err-check_cells.ensures.1 in
    rw (p.1, p.2) (cells-refused _ _ c.in_ok-size.ensures _ c.in_err-check_cells.ensures)

pub returns : goal.returns
returns c = cells-fine _ _ c.in_ok-size.ensures _ c.in_ok-check_cells.ensures
