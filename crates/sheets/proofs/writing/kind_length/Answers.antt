-- `sheets::writing::kind_length` meets its contract. Assumes nothing.
use Rattle.std.proofs.Common.{sym, ap, arith}
use Rattle.maps.proofs.Facts.{good}
use Rattle.std.proofs.lemmas.Result.{err_from_is_err_and}
use Rattle.sheets.specs.Sheet.{cells_bytes}
use Rattle.refusals.specs.Writes.{byte_count}
use Rattle.refusals.proofs.Writes.{measured, count-refused}
use Rattle.sheets.proofs.Writings.{cells-few, sheet-count, sheet-refused, sheet-small}
use Rattle.sheets.proofs.writing.kind_length.Goals as goal

pub cells_length-requires : goal.cells_length-requires
cells_length-requires c = let s = c.args in cells-few s.kind s.width s.height s.cells.now c.requires

pub head_length-requires : goal.head_length-requires
head_length-requires c = let g = good _ _ _ c.requires in record { width_le_side_most = g.narrow; height_le_side_most = g.low }

pub overflow_add-result : goal.overflow_add-result
overflow_add-result c =
    let a = c.args in
    let count = measured (cells_bytes a.kind a.cells.now) c.in_ok-n.ensures in
    omega (arith, sheet-small a.kind a.width a.height a.cells.now c.requires c.head_length.ensures count)

pub returns : goal.returns
returns c = sheet-count _ _ _ _ c.head_length.ensures (measured _ c.in_ok-n.ensures)

pub returns-in_err-n : goal.returns-in_err-n
returns-in_err-n c =
    let p = err_from_is_err_and c.from_residual.result c.from_residual.ensures.1 in
    rw (p.1, p.2) (sym (ap byte_count (sheet-refused _ _ _ _ _ (count-refused _ c.in_err-n.ensures))))
