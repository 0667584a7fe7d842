-- `Match::make_map` meets its contract. Assumes nothing.
use mathlib.Core.Path.{◌∙◌}
use Rattle.matching.specs.Maps.{map_of}
use Rattle.matching.proofs.Match.make_map.Goals as goal

pub returns-then-self-clause-made : goal.returns-then-self-clause-made
unfolding map_of
returns-then-self-clause-made c = c.solve_both.ensures.made ∙ rw c.if-self.true

pub returns-else-self-clause-made : goal.returns-else-self-clause-made
unfolding map_of
returns-else-self-clause-made c = c.solve_direction.ensures.map ∙ rw c.if-self.false
