-- `paths::cost::matching_cost` meets its contract. Assumes nothing.
use lib.Ieee.{of_bits}
use Rattle.paths.proofs.cost.matching_cost.Goals as goal

pub returns-in-Blank : goal.returns-in-Blank
unfolding of_bits
returns-in-Blank c = rw c.in-Blank.is

pub returns-in-Corr : goal.returns-in-Corr
unfolding of_bits
returns-in-Corr c = rw c.in-Corr.is
