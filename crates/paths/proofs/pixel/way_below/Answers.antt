-- `paths::pixel::way_below` meets its contract. Assumes nothing.
use native.Mathlib.Omega.{arith}
use lib.Ieee.{of_bits}
use Rattle.paths.proofs.Steps.{below_none, below-some}
use Rattle.paths.proofs.pixel.way_below.Goals as goal

pub returns-then-k-eq0 : goal.returns-then-k-eq0
unfolding of_bits
returns-then-k-eq0 c = below_none c.args.p1 c.args.prev.now c.args.k c.if-k-eq0.true

pub returns-else-k-eq0 : goal.returns-else-k-eq0
returns-else-k-eq0 c = below-some c.args.p1 c.args.prev.now c.args.k (omega arith)
