-- `Frame::raw_span` meets its contract: after i turns the first i cells are filled. Assumes nothing.
use Prim.Native.Nat.{◌<◌}
use mathlib.Core.Path.{refl, ap, ◌∙◌}
use native.Mathlib.Omega.{arith}
use lib.ListN.{length, length-set}
use Rattle.lists.specs.Lists.{list_of}
use Rattle.lists.proofs.Lists.{filled_next, filled-end}
use Rattle.options.specs.Costs.{stored}
use Rattle.costs.proofs.Frame.raw_span.Goals as goal

pub loop-i-init : goal.loop-i-init
unfolding list_of
loop-i-init c = (refl, λ s a b o. refl)

pub loop-i-preserved : goal.loop-i-preserved
loop-i-preserved c =
    let l = c.loop-i in
    let inside : l.i < length c.args.part.now = omega (arith, l.invariant.0, c.loop-i-test.true) in
    (simp length-set l.invariant.0, λ s a b o. rw (l.invariant.1 s a b o) (filled_next _ _ _ _ inside (c.from.ensures ∙ ap stored (c.pair_cost.ensures s a b o))))

pub returns : goal.returns
returns c = λ s a b o. let l = c.loop-i in l.invariant.1 s a b o ∙ filled-end _ _ _ _ (omega (arith, l.invariant)) refl
