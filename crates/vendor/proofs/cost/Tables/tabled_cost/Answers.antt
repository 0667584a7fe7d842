-- `Tables::tabled_cost` meets its contract: blank where there is no target column, else the cost of the two windows. Assumes nothing.
use mathlib.Core.Path.{sym, ◌∙◌}
use Rattle.vendor.proofs.Targets.{Aimed, aimed, missed, aimed-cost, aimed-pair}
use Rattle.vendor.proofs.cost.Tables.tabled_cost.Goals.{In-Some}
use Rattle.vendor.proofs.cost.Tables.tabled_cost.Goals as goal

-- both windows lie within the pictures
aim : (c : In-Some) → let z = c.args in Aimed z.self.check z.x z.y z.k c.in-Some.other
aim c = aimed _ _ _ _ _ (sym c.in-Some.is ∙ c.target_column.ensures)

pub returns-in_default : goal.returns-in_default
returns-in_default c = missed _ _ _ _ (sym c.in_default.is ∙ c.target_column.ensures) _ _

pub pair_cost-requires : goal.pair_cost-requires
pair_cost-requires c = aimed-pair (aim (goal.at.pair_cost-requires c).In-Some) c.requires.0

pub returns : goal.returns
returns c = c.pair_cost.ensures _ _ _ c.requires.0 ∙ aimed-cost (aim (goal.at.returns c).In-Some) _ _
