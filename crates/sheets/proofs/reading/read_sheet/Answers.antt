-- `sheets::reading::read_sheet` meets its contract. Assumes nothing.
use Rattle.std.proofs.Common.{sym, arith}
use Rattle.std.proofs.lemmas.Result.{err_from_is_err_and}
use Rattle.sheets.proofs.Readings.{head-sides, sides-fit, looked, read-refused, read-unfit, read-fine, read_done}
use Rattle.sheets.proofs.reading.read_sheet.Goals as goal

pub returns-in_err-size : goal.returns-in_err-size
returns-in_err-size c =
    let p = err_from_is_err_and c.from_residual.result c.from_residual.ensures.1 in
    rw (p.1, p.2) (read-refused _ _ _ (sym c.in_err-size.ensures))

pub overflow_mul-size : goal.overflow_mul-size
overflow_mul-size c = omega (arith, sides-fit _ _ (head-sides _ _ (looked _ _ (sym c.in_ok-size.ensures)).taken))

pub returns-then-out-size : goal.returns-then-out-size
returns-then-out-size c = read-unfit _ _ (sym c.in_ok-size.ensures) _ c.if-out-size.true

pub fill_cells-requires : goal.fill_cells-requires
fill_cells-requires c = read-fine _ _ (sym c.in_ok-size.ensures) c.args.out.now c.if-out-size.false

pub returns : goal.returns
returns c = read_done _ _ (sym c.in_ok-size.ensures) _ c.if-out-size.false _ c.fill_cells.ensures
