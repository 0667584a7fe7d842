-- `heap_print::put_match` meets its contract: what the matcher answered is what the text says.
use borrow.Author.Tests.{eq-eqb, ne_eqb}
use native.Mathlib.Omega.{arith}
use Rattle.refusals.specs.Numbers.{number_of}
use Rattle.refusals.proofs.Numbers.{some}
use Rattle.calls.specs.Refusals.{refusal}
use Rattle.heap_print.specs.Answer.{call_for, matched_text}
use Rattle.heap_print.proofs.put_match.Goals as goal

pub returns-in-Ok : goal.returns-in-Ok
unfolding matched_text
returns-in-Ok c =
    let s = c.args.input.now in
    let q = c.args.q in
    rw (eq-eqb (refusal (call_for s q)) 0 c.in-Ok.ensures.0, ← c.in-Ok.ensures.1, ← c.valids_in.ensures) c.put_map.ensures

pub returns-in-Err : goal.returns-in-Err
unfolding matched_text
returns-in-Err c =
    let one = some c.in-Err.refusal in
    rw (c.in-Err.ensures, ne_eqb (number_of c.in-Err.refusal) 0 (λ z. omega arith)) (rw (c.from.ensures, c.number.ensures) at c.put_refused.ensures)
