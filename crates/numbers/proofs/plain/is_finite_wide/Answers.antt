-- `numbers::plain::is_finite_wide` meets its contract. Assumes nothing.
use lib.Ieee.{binary64, of_bits}
use Rattle.numbers.proofs.Plainly.{less-itself}
use Rattle.numbers.proofs.plain.is_finite_wide.Goals as goal

pub returns : goal.returns
unfolding of_bits
returns c = less-itself binary64 c.args.x
