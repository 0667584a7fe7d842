-- `sheets::number::number_length` meets its contract: the count is one more than the groups passed. Assumes nothing.
use Rattle.std.proofs.Common.{◌+◌, ◌%◌, [], ◌∷◌, ◌++◌, length, refl, ap, arith, length-append}
use Rattle.sheets.proofs.Numbers.{number-most, left-all, left-next, left-last, left-some}
use Rattle.sheets.proofs.number.number_length.Goals as goal

pub loop-left-init : goal.loop-left-init
loop-left-init c = ([], left-all c.args.n c.requires, refl)

pub overflow_add-length : goal.overflow_add-length
overflow_add-length c =
    let i = c.loop-left.invariant in
    omega (arith, i.2, left-some i.1, number-most c.args.n)

pub loop-left-preserved : goal.loop-left-preserved
loop-left-preserved c =
    let i = c.loop-left.invariant in
    let group = 128 + c.loop-left.left % 128 in
    (i.0 ++ group ∷ [], left-next i.1 c.loop-left-test.true, omega (arith, i.2, length-append i.0 (group ∷ [])))

pub returns : goal.returns
returns c =
    let i = c.loop-left.invariant in
    omega (arith, i.2, ap length (left-last i.1 (omega arith)), length-append i.0 (c.loop-left.left ∷ []))
