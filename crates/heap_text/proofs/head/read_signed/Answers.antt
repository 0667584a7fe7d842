-- `heap_text::head::read_signed` meets its contract: a field's number is below ten thousand, so that an `i32` holds it with either sign.
use Rattle.std.proofs.Common.{◌+◌, ◌<◌, sym, ◌∙◌}
use Rattle.heap_text.specs.Head.{signed_at}
use Rattle.heap_text.proofs.Fields.{field-bounds, pos-fits, neg-fits, pos-read, neg-read}
use Rattle.heap_text.proofs.head.read_signed.Goals.{In_ok-size, In_ok-size-2}
use Rattle.heap_text.proofs.head.read_signed.Goals as goal

-- the number that was read is small
below : (c : In_ok-size) → c.in_ok-size.size < 10000
below c = (field-bounds c.args.s.now (c.args.at + 1) 4 32 c.in_ok-size.size c.in_ok-size.next (sym c.in_ok-size.ensures)).small

below-2 : (c : In_ok-size-2) → c.in_ok-size-2.size < 10000
below-2 c = (field-bounds c.args.s.now c.args.at 4 32 c.in_ok-size-2.size c.in_ok-size-2.next (sym c.in_ok-size-2.ensures)).small

pub overflow_cast-result : goal.overflow_cast-result
overflow_cast-result c = pos-fits c.in_ok-size.size (below c)

pub overflow_sub-result : goal.overflow_sub-result
overflow_sub-result c = neg-fits c.in_ok-size.size (below c)

pub overflow_cast-result-else-has_minus : goal.overflow_cast-result-else-has_minus
overflow_cast-result-else-has_minus c = pos-fits c.in_ok-size-2.size (below-2 c)

pub returns-in_ok-size : goal.returns-in_ok-size
unfolding signed_at
returns-in_ok-size c =
    rw (neg-read c.in_ok-size.size (below c), sym c.has_minus.ensures ∙ c.if-has_minus.true, sym c.in_ok-size.ensures)

pub returns-in_ok-size-2 : goal.returns-in_ok-size-2
unfolding signed_at
returns-in_ok-size-2 c =
    rw (pos-read c.in_ok-size-2.size (below-2 c), sym c.has_minus.ensures ∙ c.if-has_minus.false, sym c.in_ok-size-2.ensures)
