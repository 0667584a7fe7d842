-- `Frame::span_of` meets its contract: the sign of the shift says which of the two begins further right. Assumes nothing.
use mathlib.Core.Path.{◌≡◌, ap, ◌∙◌}
use lib.IntN.{nat_abs}
use mir.Syntax.{w64}
use mir.Val.{to_z, of_z}
use mir.ValLaws.{to_z-of_z}
use Rattle.costs.proofs.Spans.{span_left, span_right}
use Rattle.costs.proofs.Frame.span_of.Goals.{After-distance-apart, Start}
use Rattle.costs.proofs.Frame.span_of.Goals as goal

-- the shift is read back from its bits
back : (z : Start) → to_z w64 (of_z w64 z.args.shift) ≡ z.args.shift
back z = to_z-of_z w64 z.args.shift z.ranges.shift

apart : (c : After-distance-apart) → c.distance-apart.result ≡ nat_abs c.args.shift
apart c = c.distance-apart.ensures ∙ ap nat_abs (back (goal.at.After-distance-apart c).Start)

pub returns-then-shift-lt0 : goal.returns-then-shift-lt0
returns-then-shift-lt0 c = span_left _ _ _ (rw (back (goal.at.returns-then-shift-lt0 c).Start) at c.if-shift-lt0.true) _ _ (apart (goal.at.returns-then-shift-lt0 c).After-distance-apart) c.saturating_sub-count.ensures

pub returns : goal.returns
returns c = span_right _ _ _ (rw (back (goal.at.returns c).Start) at c.if-shift-lt0.false) _ _ (apart (goal.at.returns c).After-distance-apart) c.saturating_sub-count.ensures
