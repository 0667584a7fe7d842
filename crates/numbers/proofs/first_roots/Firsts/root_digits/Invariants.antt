-- `numbers::first_roots::Firsts::root_digits` meets its contract. The loop's invariant is `Part` of proofs/Squares.antt. Assumes nothing.
use Rattle.std.proofs.Common.{◌≤◌}
use Rattle.numbers.proofs.Squares.{Part}
use Rattle.numbers.proofs.first_roots.Firsts.root_digits.Given as goal

abbrev pub invariant-loop-taken : goal.invariant-loop-taken
invariant-loop-taken l = (l._taken ≤ l.count) × Part l.m l.left l.root l.rest l._taken
