-- `points::points_in` meets its contract: at each turn the points among the cells so far are counted. Assumes nothing.
use Rattle.std.proofs.Common.{◌≡◌, count_by, take}
use Rattle.points.specs.Point.{is_positive}
use Rattle.points.proofs.points_in.Given as goal

abbrev pub invariant-loop-c : goal.invariant-loop-c
invariant-loop-c l = l.n ≡ count_by is_positive (take l.c-index l.cells)
