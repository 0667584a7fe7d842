-- `netpbm::header::past_line` meets its contract: at each turn the comment goes on. Assumes nothing.
use Rattle.std.proofs.Common.{◌≡◌, ◌≤◌, length}
use Rattle.netpbm.specs.Header.{after_comment}
use Rattle.netpbm.proofs.header.past_line.Given as goal

abbrev pub invariant-loop-b : goal.invariant-loop-b
invariant-loop-b l = (after_comment l.s ≡ after_comment l.rest) × (length l.rest ≤ length l.s)

abbrev pub decreases-loop-b : goal.decreases-loop-b
decreases-loop-b l = length l.rest
