-- `sheets::writing::write_kind` meets its contract: the bytes are counted, and then the head and the cells are stored. Assumes nothing.
use Rattle.std.proofs.Common.{refl, arith}
use Rattle.std.proofs.lemmas.Result.{err_from_is_err_and}
use Rattle.lists.proofs.Stores.{wrote_then}
use Rattle.maps.proofs.Facts.{good}
use Rattle.refusals.proofs.Writes.{measured, count-refused, done_refused, done-short, done-wrote}
use Rattle.sheets.proofs.Writings.{sheet-counted, sheet-fits}
use Rattle.sheets.proofs.writing.write_kind.Goals as goal

pub returns-then-out-n : goal.returns-then-out-n
returns-then-out-n c = done-short _ refl (measured _ c.in_ok-n.ensures) c.if-out-n.true

pub put_head-at-requires : goal.put_head-at-requires
put_head-at-requires c =
    let d = good _ _ _ c.requires in
    let s = c.args in
    let sheet = sheet-counted s.kind s.width s.height s.cells.now c.in_ok-n.ensures in
    record { width_le_side_most = d.narrow; height_le_side_most = d.low; height_in_bounds = omega arith }

pub put_cells-requires : goal.put_cells-requires
put_cells-requires c =
    let s = c.args in
    let sheet = sheet-counted s.kind s.width s.height s.cells.now c.in_ok-n.ensures in
    record { not_refused = sheet.there; cells_in_bounds = omega arith }

pub returns : goal.returns
returns c =
    let sheet = sheet-counted _ _ _ _ c.in_ok-n.ensures in
    done-wrote sheet.whole (sheet-fits sheet c.if-out-n.false) (wrote_then c.put_head-at.ensures c.put_cells.ensures)

pub returns-in_err-n : goal.returns-in_err-n
returns-in_err-n c =
    let p = err_from_is_err_and c.from_residual.result c.from_residual.ensures.1 in
    rw (p.1, p.2) (done_refused _ (count-refused _ c.in_err-n.ensures))
