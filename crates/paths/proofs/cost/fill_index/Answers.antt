-- `paths::cost::fill_index` meets its contract: after d turns the costs of d pixels are filled. Assumes nothing.
use Prim.Native.Nat.{◌+◌, ◌*◌}
use mathlib.Core.Path.{refl, ap, ◌∙◌}
use lib.ListN.{set}
use Rattle.paths.specs.Cost.{matching_cost}
use Rattle.paths.specs.Room.{spread}
use Rattle.paths.proofs.Costed.{index-turn}
use Rattle.paths.proofs.cost.fill_index.Goals as goal

pub loop-d-init : goal.loop-d-init
unfolding spread
loop-d-init c = refl

pub loop-d-preserved : goal.loop-d-preserved
loop-d-preserved c =
    let a = c.args in
    let l = c.loop-d in
    ap (set l.costs (l.d * a.count + a.k)) (c.matching_cost.ensures ∙ ap matching_cost c.from.ensures) ∙ index-turn a.count a.k a.raw.now a.costs.now l.costs l.d l.invariant
