-- `choices::block::rival_part` meets its contract: after i numbers the row is rivalled by those alone. Assumes nothing.
use Rattle.std.proofs.Common.{◌≡◌}
use Rattle.choices.specs.Leading.{rivalled_by}
use Rattle.choices.proofs.Stepping.{up_to}
use Rattle.choices.proofs.block.rival_part.Given as goal

abbrev pub invariant-loop-i : goal.invariant-loop-i
invariant-loop-i l = l.most ≡ rivalled_by l.k (up_to l.lo l.part l.i) l.at l.initial.most
