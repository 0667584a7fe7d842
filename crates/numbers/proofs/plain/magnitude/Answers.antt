-- `numbers::plain::magnitude` meets its contract. Assumes nothing.
use lib.Ieee.{binary32, of_bits}
use Rattle.std.proofs.Common.{rules}
use Rattle.numbers.proofs.Plainly.{below-zero, at_zero, above_zero}
use Rattle.numbers.proofs.plain.magnitude.Goals as goal

pub returns-then-x : goal.returns-then-x
unfolding of_bits
returns-then-x c = below-zero c.args.x c.if-x.true

pub returns-then-x-2 : goal.returns-then-x-2
unfolding of_bits
returns-then-x-2 c = at_zero binary32 c.args.x (search rules) c.if-x-2.true

pub returns : goal.returns
unfolding of_bits
returns c = above_zero c.args.x c.if-x.false c.if-x-2.false
