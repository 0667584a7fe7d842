-- `replay::replay` is safe: each count and the bytes that are left are together no more than the bytes; what is left falls.
use Rattle.std.proofs.Common.{◌+◌, ◌≤◌, length}
use Rattle.replay.proofs.replay.Given as goal

abbrev pub invariant-loop-rest : goal.invariant-loop-rest
invariant-loop-rest l = record {
  maps : l.tally.maps + length l.rest ≤ 65536;
  cells : l.tally.cells + length l.rest ≤ 65536;
  differ : l.tally.differ + length l.rest ≤ 65536;
}

abbrev pub decreases-loop-rest : goal.decreases-loop-rest
decreases-loop-rest l = length l.rest
