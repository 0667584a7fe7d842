-- `options::is_inner` meets its contract: across, and then down. Assumes nothing.
use mathlib.Core.Path.{sym, ◌∙◌}
use Rattle.options.proofs.is_inner.Goals as goal

pub returns-then-is_within : goal.returns-then-is_within
returns-then-is_within c = c.is_within-then-is_within.ensures ∙ rw (sym c.is_within.ensures ∙ c.if-is_within.true)

pub returns-else-is_within : goal.returns-else-is_within
returns-else-is_within c = rw (sym c.is_within.ensures ∙ c.if-is_within.false)
