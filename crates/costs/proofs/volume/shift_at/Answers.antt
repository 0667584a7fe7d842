-- `costs::volume::shift_at` meets its contract: no step on the way leaves its type. Assumes nothing.
use mathlib.Core.Path.{sym, ap, ◌∙◌}
use Rattle.options.specs.declared.Side.{Side}
use Rattle.costs.specs.Raw.{shift_of}
use Rattle.costs.proofs.Signed.{add-fits, sum_back, minus-fits, minus-back}
use Rattle.costs.proofs.volume.shift_at.Goals as goal

pub overflow_add-d : goal.overflow_add-d
overflow_add-d c = add-fits _ _ c.requires.0 c.requires.1 c.ranges.first

pub overflow_sub-result : goal.overflow_sub-result
overflow_sub-result c = minus-fits _ _ c.requires.0 c.requires.1 c.ranges.first

pub returns-in-Left : goal.returns-in-Left
returns-in-Left c =
    minus-back _ _ c.requires.0 c.requires.1 c.ranges.first ∙ ap (λ (s : Side). shift_of s c.args.first c.args.k) (sym c.in-Left.is)

pub returns-in-Right : goal.returns-in-Right
returns-in-Right c =
    sum_back _ _ c.requires.0 c.requires.1 c.ranges.first ∙ ap (λ (s : Side). shift_of s c.args.first c.args.k) (sym c.in-Right.is)
