-- `rows::edit_cell` meets its contract: an edit that is not refused has its cell and its row in the map, and its record in the index. Assumes nothing.
use Rattle.std.proofs.Common.{length, length-set, sym, arith}
use Rattle.std.proofs.lemmas.Result.{err_from_is_err_and}
use lib.Dec.{lit<}
use Rattle.refusals.proofs.Cases.{after-refused}
use Rattle.refusals.proofs.Groups.{by_first}
use Rattle.refusals.proofs.Numbers.{some}
use Rattle.maps.specs.Map.{pixel_rows}
use Rattle.rows.specs.Index.{index_rows}
use Rattle.rows.proofs.Accepted.{EditFits, Placed, edit-tested, cell-there, row-there}
use Rattle.rows.proofs.edit_cell.Goals.{In_ok-check_index}
use Rattle.rows.proofs.edit_cell.Goals as goal

pub returns-in_err-check_pixel : goal.returns-in_err-check_pixel
returns-in_err-check_pixel c =
    let a = c.args in
    let p = err_from_is_err_and c.from_residual.result c.from_residual.ensures.1 in
    let e = c.in_err-check_pixel.field-0.0 in
    let first = by_first (pixel_rows a.width a.height (length a.cells.now) a.edit.x a.edit.y) (index_rows a.height (length a.index.now)) (lit< tt, (lit< tt, tt)) _ c.in_err-check_pixel.ensures (λ z. omega (arith, some e)) in
    rw (p.1, p.2) (record { answer = first; map = sym (after-refused e _ _ first); records = sym (after-refused e _ _ first) })

fits : (c : In_ok-check_index) → let a = c.args in EditFits a.width a.height (length a.cells.now) (length a.index.now) a.edit
fits c = edit-tested _ _ _ _ c.in_ok-check_index.ensures c.args.edit c.in_ok-check_pixel.ensures

place : (c : In_ok-check_index) → Placed c.args.width (length c.args.cells.now) c.args.edit
place c = cell-there _ _ _ _ _ (fits c)

pub overflow_mul-cells : goal.overflow_mul-cells
overflow_mul-cells c = let p = place (goal.at.overflow_mul-cells c).In_ok-check_index in record { fits = omega arith }

pub overflow_add-cells : goal.overflow_add-cells
overflow_add-cells c = let p = place (goal.at.overflow_add-cells c).In_ok-check_index in record { fits = omega arith }

pub offset_bounds-cells-edit : goal.offset_bounds-cells-edit
offset_bounds-cells-edit c = let p = place (goal.at.offset_bounds-cells-edit c).In_ok-check_index in record { fits = omega arith }

pub bounds-cells-edit : goal.bounds-cells-edit
bounds-cells-edit c = (place (goal.at.bounds-cells-edit c).In_ok-check_index).there

pub row_record-requires : goal.row_record-requires
row_record-requires c = rw length-set (row-there _ _ _ _ _ (fits (goal.at.row_record-requires c).In_ok-check_index))

pub offset_bounds-index-edit : goal.offset_bounds-index-edit
offset_bounds-index-edit c = let f = fits (goal.at.offset_bounds-index-edit c).In_ok-check_index in record { fits = omega (arith, f.down, f.both.size.low) }

pub bounds-index-edit : goal.bounds-index-edit
bounds-index-edit c = let f = fits (goal.at.bounds-index-edit c).In_ok-check_index in omega (arith, f.down, f.both.long)
