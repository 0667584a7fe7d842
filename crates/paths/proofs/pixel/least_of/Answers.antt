-- `paths::pixel::least_of` meets its contract: the least of the rest and of what was found is that of all. Assumes nothing.
use native.Mathlib.Omega.{arith}
use lib.Ieee.{nan, of_bits, to_bits}
use Rattle.paths.proofs.Bounded.{all-at}
use Rattle.paths.specs.Bounds.{UpTo}
use Rattle.paths.proofs.Orders.{lowest-none, upto-number, lowest-turn, lowest-number, lowest-done}
use Rattle.paths.proofs.pixel.least_of.Goals as goal

pub loop-cell-init : goal.loop-cell-init
unfolding of_bits to_bits
loop-cell-init c = lowest-none c.args.cells.now

pub float_to_bits-cell : goal.float_to_bits-cell
float_to_bits-cell c = upto-number 1027 _ (all-at (UpTo 1027) c.args.cells.now c.loop-cell.cell-index nan c.requires c.loop-cell-test.true)

pub loop-cell-preserved : goal.loop-cell-preserved
loop-cell-preserved c =
    rw c.min-lowest.ensures (lowest-turn c.args.cells.now c.loop-cell.cell-index c.loop-cell.lowest c.requires c.loop-cell-test.true c.loop-cell.invariant)

pub float_from_bits-result : goal.float_from_bits-result
float_from_bits-result c = lowest-number c.loop-cell.lowest c.loop-cell.cell-index c.args.cells.now c.loop-cell.invariant

pub returns : goal.returns
returns c = lowest-done c.loop-cell.lowest c.loop-cell.cell-index c.args.cells.now (omega arith) c.loop-cell.invariant
