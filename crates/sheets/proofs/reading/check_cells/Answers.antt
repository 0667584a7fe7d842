-- `sheets::reading::check_cells` meets its contract: at each turn the cells left are refused as all are. Assumes nothing.
use Rattle.std.proofs.Common.{sym, ◌∙◌, eqb-true}
use borrow.Author.Tests.{eqb-false}
use Rattle.std.proofs.lemmas.Result.{err_from_is_err_and}
use Rattle.sheets.proofs.Readings.{checking-none, checking-next, checking-refused, checking-more, checking-done}
use Rattle.sheets.proofs.reading.check_cells.Goals as goal

pub loop-init : goal.loop-init
loop-init c = checking-none _ _ _

pub returns-in_err-after : goal.returns-in_err-after
returns-in_err-after c =
    let p = err_from_is_err_and c.from_residual.result c.from_residual.ensures.1 in
    rw (p.1, p.2) (checking-refused _ _ _ _ _ c.loop.invariant c.loop-test.true _ c.in_err-after.ensures)

pub loop-preserved : goal.loop-preserved
loop-preserved c = checking-next _ _ _ _ _ c.loop.invariant c.loop-test.true _ _ c.in_ok-after.ensures

pub returns-then-is_empty : goal.returns-then-is_empty
returns-then-is_empty c = checking-done _ _ _ _ _ c.loop.invariant c.loop-test.false (eqb-true _ 0 (sym c.is_empty.ensures ∙ c.if-is_empty.true))

pub returns-else-is_empty : goal.returns-else-is_empty
returns-else-is_empty c = checking-more _ _ _ _ _ c.loop.invariant c.loop-test.false (eqb-false _ 0 (sym c.is_empty.ensures ∙ c.if-is_empty.false))
