-- `points::is_point` meets its contract: each test picks the definition's case. Assumes nothing.
use mathlib.Core.Path.{refl, sym, ◌∙◌}
use lib.Ieee.{of_bits}
use Rattle.points.specs.Point.{is_positive}
use Rattle.points.proofs.is_point.Goals as goal

pub returns-then-is_finite : goal.returns-then-is_finite
unfolding is_positive of_bits
returns-then-is_finite c = rw (sym c.is_finite.ensures ∙ c.if-is_finite.true)

pub returns-else-is_finite : goal.returns-else-is_finite
unfolding is_positive
returns-else-is_finite c = c.if-is_finite.false ∙ rw (sym c.is_finite.ensures ∙ c.if-is_finite.false) refl
