-- `Tables::own_cost` meets its contract. Assumes nothing.
use mathlib.Core.Path.{sym, ap, ◌∙◌}
use Rattle.vendor.specs.Tests.{index_named, cost_if, own_cost}
use Rattle.vendor.proofs.Asking.{below}
use Rattle.vendor.proofs.cost.Tables.own_cost.Goals as goal

pub direct_cost-requires : goal.direct_cost-requires
unfolding index_named
direct_cost-requires c = (c.requires, below _ _ _ (sym c.in-Some.is ∙ c.index_named.ensures))

pub returns-in-Some : goal.returns-in-Some
unfolding own_cost
returns-in-Some c =
    let a = c.args in
    c.direct_cost.ensures ∙ ap (cost_if a.self.check a.self.left.now a.self.right.now a.x a.y) (sym c.in-Some.is ∙ c.index_named.ensures)

pub returns-in-None : goal.returns-in-None
unfolding own_cost
returns-in-None c =
    let a = c.args in
    ap (cost_if a.self.check a.self.left.now a.self.right.now a.x a.y) (sym c.in-None.is ∙ c.index_named.ensures)
