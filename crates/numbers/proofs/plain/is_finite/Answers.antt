-- `numbers::plain::is_finite` meets its contract. Assumes nothing.
use lib.Ieee.{binary32, of_bits}
use Rattle.numbers.proofs.Plainly.{less-itself}
use Rattle.numbers.proofs.plain.is_finite.Goals as goal

pub returns : goal.returns
unfolding of_bits
returns c = less-itself binary32 c.args.x
