-- `sheets::writing::cells_length` meets its contract: at each turn the total counts the bytes of the cells passed. Assumes nothing.
use Rattle.std.proofs.Common.{[], sym, refl, ap, ◌∙◌, arith, length-append}
use Rattle.std.proofs.lemmas.Result.{err_from_is_err_and}
use Rattle.sheets.specs.Number.{number_bytes}
use Rattle.refusals.specs.Steps.{is}
use Rattle.refusals.specs.Writes.{byte_count}
use Rattle.sheets.proofs.Numbers.{number-most}
use Rattle.sheets.proofs.Writings.{passed_none, passed-all, passed-more, passed-refused}
use Rattle.sheets.proofs.writing.cells_length.Goals as goal

pub loop-x-init : goal.loop-x-init
loop-x-init c = ([], passed_none _ _, refl)

pub number_length-total-requires : goal.number_length-total-requires
number_length-total-requires c = c.in_ok-code.ensures.small

pub overflow_add-total : goal.overflow_add-total
overflow_add-total c = omega (arith, number-most c.in_ok-code.code)

pub returns-in_err-code : goal.returns-in_err-code
returns-in_err-code c =
    let p = err_from_is_err_and c.from_residual.result c.from_residual.ensures.1 in
    rw (p.1, p.2) (sym (ap byte_count (passed-refused _ _ _ _ c.loop-x.invariant.1 _ c.loop-x-test.true (sym c.in_err-code.ensures.is))))

pub loop-x-preserved : goal.loop-x-preserved
loop-x-preserved c =
    let p = c.loop-x.invariant in
    let count = length-append p.0 (number_bytes c.in_ok-code.code) in
    (_, passed-more _ _ _ _ p.1 _ c.loop-x-test.true (sym c.in_ok-code.ensures.is), omega arith)

pub returns : goal.returns
returns c =
    let p = c.loop-x.invariant in
    sym (ap byte_count (passed-all _ _ _ _ p.1 c.loop-x-test.false) ∙ ap is p.2)
