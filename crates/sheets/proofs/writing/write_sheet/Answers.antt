-- `sheets::writing::write_sheet` meets its contract. Assumes nothing.
use Rattle.std.proofs.Common.{sym}
use Rattle.std.proofs.lemmas.Result.{err_from_is_err_and}
use Rattle.maps.proofs.Facts.{size-tested}
use Rattle.refusals.proofs.Writes.{done_refused}
use Rattle.sheets.proofs.Writings.{sheet-of, sheet-23, sheet-35}
use Rattle.sheets.proofs.writing.write_sheet.Goals as goal

pub returns-in_err-check_size : goal.returns-in_err-check_size
returns-in_err-check_size c =
    let p = err_from_is_err_and c.from_residual.result c.from_residual.ensures.1 in
    rw (p.1, p.2) (done_refused _ (sheet-23 c.args.kind _ _ _ _ c.in_err-check_size.ensures))

pub returns-in_err-kind : goal.returns-in_err-kind
returns-in_err-kind c =
    let p = err_from_is_err_and c.from_residual-in_err-kind.result c.from_residual-in_err-kind.ensures.1 in
    rw (p.1, p.2) (done_refused _ (sheet-35 _ _ _ _ c.in_ok-check_size.ensures _ c.in_err-kind.ensures))

pub write_kind-requires : goal.write_kind-requires
write_kind-requires c = size-tested _ _ _ (sym c.in_ok-check_size.ensures)

pub returns : goal.returns
returns c = rw (sheet-of _ _ _ _ c.in_ok-check_size.ensures _ c.in_ok-kind.ensures) c.write_kind.ensures
