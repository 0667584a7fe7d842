-- `rows::fresh_index` meets its contract: each turn writes one record more, and an index that is not refused has one for each row. Assumes nothing.
use Rattle.std.proofs.Common.{length, arith, sym, ◌∙◌}
use Rattle.refusals.proofs.Cases.{after_none}
use Rattle.rows.proofs.Accepted.{Fits, fresh-none, fresh-tested}
use Rattle.rows.proofs.Writing.{none_yet, one_more, row-there, all_written}
use Rattle.rows.proofs.fresh_index.Goals.{In_ok-check_index}
use Rattle.rows.proofs.fresh_index.Goals as goal

fits : (c : In_ok-check_index) → let a = c.args in Fits a.map.width a.map.height (length a.map.cells.now) (length a.index.now)
fits c = fresh-tested _ _ _ _ c.in_ok-check_index.ensures c.in_ok-check_size.ensures

pub loop-y-init : goal.loop-y-init
loop-y-init c = none_yet c.args.map.width c.args.map.cells.now c.args.index.now

pub row_record-requires : goal.row_record-requires
row_record-requires c = row-there _ _ _ _ (fits (goal.at.row_record-requires c).In_ok-check_index) c.loop-y.y c.loop-y-test.true

pub loop-y-preserved : goal.loop-y-preserved
loop-y-preserved c =
    let a = c.args in
    rw c.loop-y.invariant (one_more a.map.width a.map.cells.now a.index.now c.loop-y.y c.row_record.result c.loop-y-test.true c.row_record.ensures)

pub returns : goal.returns
returns c =
    let a = c.args in
    let f = fits (goal.at.returns c).In_ok-check_index in
    let none = fresh-none a.map.width a.map.height (length a.map.cells.now) (length a.index.now) c.in_ok-check_index.ensures c.in_ok-check_size.ensures in
    let all = all_written a.map.width a.map.cells.now a.index.now a.map.height f c.loop-y.y (omega arith) in
    record { answer = sym none; records = c.loop-y.invariant ∙ all ∙ sym (after_none _ _ _ none) }
