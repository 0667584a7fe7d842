-- `Frame::pair_cost` meets its contract: the sum of products is read from its table, and the cost from the others. Assumes nothing.
use Rattle.costs.proofs.Readings.{tables-of}
use Rattle.costs.proofs.PairCosts.{corners-both, sum_both, summed}
use Rattle.costs.proofs.Frame.pair_cost.Goals as goal

pub window_sum-products-requires : goal.window_sum-products-requires
window_sum-products-requires c = corners-both c.requires

pub summed_cost-requires : goal.summed_cost-requires
summed_cost-requires c = summed c.requires _ c.window_sum-products.ensures

pub returns : goal.returns
returns c = λ s a b o. c.summed_cost.ensures s a b (tables-of o) (sum_both c.requires _ c.window_sum-products.ensures o)
