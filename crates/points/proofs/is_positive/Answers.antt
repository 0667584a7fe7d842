-- `points::is_positive` meets its contract: each test picks the definition's case. Assumes nothing.
use Rattle.std.proofs.Common.{arith}
use lib.Ieee.{of_bits}
use Rattle.points.specs.Point.{is_positive}
use Rattle.points.proofs.Facts.{finite_is}
use Rattle.points.proofs.is_positive.Goals as goal

pub returns-then-is_finite : goal.returns-then-is_finite
unfolding is_positive of_bits
returns-then-is_finite c = grind (arith, finite_is)

pub returns-else-is_finite : goal.returns-else-is_finite
unfolding is_positive
returns-else-is_finite c = grind (arith, finite_is)
