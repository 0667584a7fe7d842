-- `maps::f32::from` meets its contract: 0 / 0 is a NaN. Assumes nothing.
use lib.Ieee.{div, of_bits}
use Rattle.maps.proofs.F32FromCell.from.Goals as goal

pub returns-in-Mark : goal.returns-in-Mark
unfolding div of_bits
returns-in-Mark c = rw c.in-Mark.is
