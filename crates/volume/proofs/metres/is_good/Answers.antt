-- `volume::metres::is_good` meets its contract. Assumes nothing.
use lib.Ieee.{neg, of_bits}
use Rattle.volume.proofs.Coordinates.{between-good}
use Rattle.volume.proofs.metres.is_good.Goals as goal

pub returns-then-product : goal.returns-then-product
unfolding neg of_bits
returns-then-product c = rw (← between-good c.args.x, c.if-product.true)

pub returns-else-product : goal.returns-else-product
unfolding neg of_bits
returns-else-product c = rw (← between-good c.args.x, c.if-product.false)
