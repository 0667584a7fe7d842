-- `choices::block::lead_part` meets its contract: after i numbers the two rows are led by those alone. Assumes nothing.
use Rattle.std.proofs.Common.{◌≡◌}
use Rattle.choices.specs.Leading.{led_most, led_at}
use Rattle.choices.proofs.Stepping.{up_to}
use Rattle.choices.proofs.block.lead_part.Given as goal

abbrev pub invariant-loop-i : goal.invariant-loop-i
invariant-loop-i l = record {
  most_is : l.most ≡ led_most (up_to l.lo l.part l.i) l.initial.most;
  at_is : l.at ≡ led_at l.k (up_to l.lo l.part l.i) l.initial.most l.initial.at;
}
