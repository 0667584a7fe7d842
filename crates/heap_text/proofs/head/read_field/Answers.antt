-- `heap_text::head::read_field` meets its contract: the stop that was found and the word before it make the field.
use Rattle.std.proofs.Common.{◌≡◌, ◌+◌, drop, sym, ap, ◌∙◌, arith}
use Rattle.heap_text.specs.Head.{with_place}
use Rattle.heap_text.proofs.Fields.{rest-is, field-outside, field-endless, field-closed}
use Rattle.heap_text.proofs.head.read_field.Goals.{In_ok-rest}
use Rattle.heap_text.proofs.head.read_field.Goals as goal

-- the bytes from the field's place on
rest : (c : In_ok-rest) → c.in_ok-rest.rest.now ≡ drop c.args.at c.args.s.now
rest c = c.in_ok-rest.ensures.lookup.0.2 ∙ rest-is c.args.s.now c.args.at

pub returns-in_err-rest : goal.returns-in_err-rest
returns-in_err-rest c =
    let a = c.args in
    rw c.from_residual.ensures (field-outside a.s.now a.at a.most a.stop (omega (arith, c.in_err-rest.ensures.lookup)))

pub returns-in_err-long : goal.returns-in_err-long
returns-in_err-long c =
    let a = c.args in
    let r = rest (goal.at.returns-in_err-long c).In_ok-rest in
    rw c.from_residual-in_err-long.ensures (field-endless a.s.now a.at a.most a.stop (rw r at (sym c.in_err-long.ensures)))

pub returns-in_err-value : goal.returns-in_err-value
returns-in_err-value c =
    let a = c.args in
    let r = rest (goal.at.returns-in_err-value c).In_ok-rest in
    rw c.from_residual-in_err-value.ensures (
    ap (with_place (a.at + c.in_ok-long.long + 1)) (rw r at c.in_err-value.ensures)
    ∙ field-closed a.s.now a.at a.most a.stop c.in_ok-long.long (rw r at (sym c.in_ok-long.ensures)))

pub returns : goal.returns
returns c =
    let a = c.args in
    let r = rest (goal.at.returns c).In_ok-rest in
    ap (with_place (a.at + c.in_ok-long.long + 1)) (rw r at c.in_ok-value.ensures)
    ∙ field-closed a.s.now a.at a.most a.stop c.in_ok-long.long (rw r at (sym c.in_ok-long.ensures))
