-- `paths::pixel::way_above` meets its contract. Assumes nothing.
use lib.Ieee.{of_bits}
use Rattle.paths.proofs.Steps.{above-some, above-none}
use Rattle.paths.proofs.pixel.way_above.Goals as goal

pub returns-then-k-prev : goal.returns-then-k-prev
returns-then-k-prev c = above-some c.args.p1 c.args.prev.now c.args.k c.if-k-prev.true

pub returns-else-k-prev : goal.returns-else-k-prev
unfolding of_bits
returns-else-k-prev c = above-none c.args.p1 c.args.prev.now c.args.k c.if-k-prev.false
