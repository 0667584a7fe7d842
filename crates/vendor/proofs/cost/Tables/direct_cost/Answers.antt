-- `Tables::direct_cost` meets its contract: blank where there is no target column, else the cost of the two windows. Assumes nothing.
use mathlib.Core.Path.{◌≡◌, sym, ◌∙◌}
use Rattle.windows.specs.Table.{cross_at}
use Rattle.windows.specs.Window.{window_sum}
use Rattle.vendor.specs.Tests.{shift_at}
use Rattle.vendor.proofs.Targets.{Aimed, aimed, missed, aimed-cost, aimed-summed, standing}
use Rattle.vendor.proofs.cost.Tables.direct_cost.Goals.{After-window_products-products, In-Some}
use Rattle.vendor.proofs.cost.Tables.direct_cost.Goals as goal

-- both windows lie within the pictures
aim : (c : In-Some) → let z = c.args in Aimed z.self.check z.x z.y z.k c.in-Some.other
aim c = aimed _ _ _ _ _ (sym c.in-Some.is ∙ c.target_column.ensures)

-- the sum of their products
sum_is : (c : After-window_products-products) →
    let z = c.args in
    c.window_products-products.result ≡ window_sum (cross_at z.self.check.frame.w z.self.left.now z.self.right.now (shift_at z.self.check z.k)) z.x z.y z.self.check.frame.r
sum_is c = let z = c.args in c.window_products-products.ensures (shift_at z.self.check z.k) (aim (goal.at.After-window_products-products c).In-Some).apart

pub returns-in_default : goal.returns-in_default
returns-in_default c = missed _ _ _ _ (sym c.in_default.is ∙ c.target_column.ensures) _ _

pub window_products-products-requires : goal.window_products-products-requires
window_products-products-requires c = let a = aim (goal.at.window_products-products-requires c).In-Some in (a.first, a.second)

pub summed_cost-requires : goal.summed_cost-requires
summed_cost-requires c =
    aimed-summed (aim (goal.at.summed_cost-requires c).In-Some) c.args.self.stand _ (sum_is (goal.at.summed_cost-requires c).After-window_products-products)

pub returns : goal.returns
returns c =
    c.summed_cost.ensures (shift_at c.args.self.check c.args.k) _ _ (standing c.args.self.stand) (sum_is (goal.at.returns c).After-window_products-products) ∙ aimed-cost (aim (goal.at.returns c).In-Some) _ _
