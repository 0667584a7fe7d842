-- `sheets::reading::sheet_size` meets its contract. Assumes nothing.
use Rattle.std.proofs.Common.{sym}
use Rattle.std.proofs.lemmas.Result.{err_from_is_err_and}
use Rattle.sheets.proofs.Readings.{looked, looked-refused}
use Rattle.sheets.proofs.reading.sheet_size.Goals as goal

pub returns-in_err-size : goal.returns-in_err-size
returns-in_err-size c =
    let p = err_from_is_err_and c.from_residual.result c.from_residual.ensures.1 in
    rw (p.1, p.2, looked-refused _ _ (sym c.in_err-size.ensures))

pub returns : goal.returns
returns c = rw (looked _ _ (sym c.in_ok-size.ensures)).says
