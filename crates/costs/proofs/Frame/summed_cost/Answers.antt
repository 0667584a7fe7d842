-- `Frame::summed_cost` meets its contract: each cell that is read is one that the tables of the two pictures have there. Assumes nothing.
use mathlib.Core.Path.{◌∙◌}
use native.Mathlib.Omega.{arith}
use Rattle.costs.proofs.PairCosts.{spots, sums-counted, cov-is, cost-is}
use Rattle.costs.proofs.Quotients.{divisible}
use Rattle.costs.proofs.Frame.summed_cost.Goals as goal

pub bounds-room-here : goal.bounds-room-here
bounds-room-here c = omega (arith, spots c.requires, c.well_formed)

pub bounds-room-cells : goal.bounds-room-cells
bounds-room-cells c = omega (arith, spots c.requires, c.well_formed)

pub covariance-cov-requires : goal.covariance-cov-requires
covariance-cov-requires c = sums-counted c.requires

pub bounds-room-cells-2 : goal.bounds-room-cells-2
bounds-room-cells-2 c = omega (arith, spots c.requires, c.well_formed)

pub bounds-room-cells-3 : goal.bounds-room-cells-3
bounds-room-cells-3 c = omega (arith, spots c.requires, c.well_formed)

pub quotient-requires : goal.quotient-requires
quotient-requires c = rw c.covariance-cov.ensures (divisible c.requires)

pub returns : goal.returns
returns c = λ s a b o e.
    let p = c.requires in
    c.quotient.ensures
    ∙ rw c.covariance-cov.ensures (cost-is p s o _ (cov-is p s o e))
