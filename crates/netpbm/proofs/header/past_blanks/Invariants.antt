-- `netpbm::header::past_blanks` meets its contract: at each turn the blanks passed change nothing of what follows them. Assumes nothing.
use Rattle.std.proofs.Common.{◌≡◌, length}
use Rattle.netpbm.specs.Header.{after_blanks}
use Rattle.netpbm.proofs.header.past_blanks.Given as goal

abbrev pub invariant-loop-after : goal.invariant-loop-after
invariant-loop-after l = after_blanks l.s ≡ after_blanks l.rest

abbrev pub decreases-loop-after : goal.decreases-loop-after
decreases-loop-after l = length l.rest
