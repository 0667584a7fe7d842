-- `options::f32::from` meets its contract: -1 / 0 is negative infinity. Assumes nothing.
use lib.Ieee.{div, neg, of_bits}
use Rattle.options.proofs.F32FromRawCost.from.Goals as goal

pub returns-in-Blank : goal.returns-in-Blank
unfolding div neg of_bits
returns-in-Blank c = rw c.in-Blank.is
