-- `heap_print::put_answer` meets its contract: each plan has its text.
use Rattle.std.proofs.Common.{sym, arith}
use Rattle.heap_text.proofs.Plans.{plan-bounds}
use Rattle.heap_print.specs.Answer.{answer_of}
use Rattle.heap_print.proofs.Counts.{plan-count}
use Rattle.heap_print.proofs.put_answer.Goals as goal

pub put_match-requires : goal.put_match-requires
put_match-requires c =
    let s = c.args.input.now in
    let q = c.in-Ok.q in
    let b = plan-bounds s q (sym c.in-Ok.ensures) in
    record {
      count_bound = plan-count s q (sym c.in-Ok.ensures);
      pixels = b.few;
      pictures = omega (arith, b.whole);
      room = omega (arith, b.few);
    }

pub returns-in-Ok : goal.returns-in-Ok
unfolding answer_of
returns-in-Ok c = rw (sym c.in-Ok.ensures) c.put_match.ensures

pub returns-in-Err-TooBig : goal.returns-in-Err-TooBig
unfolding answer_of
returns-in-Err-TooBig c = rw (sym c.in-Err-TooBig.ensures, c.in-Err-TooBig.field-0-is) c.put_too_big.ensures

pub returns-in-Err-BadInput : goal.returns-in-Err-BadInput
unfolding answer_of
returns-in-Err-BadInput c = rw (sym c.in-Err-BadInput.ensures, c.in-Err-BadInput.field-0-is) c.put_bad_input.ensures
