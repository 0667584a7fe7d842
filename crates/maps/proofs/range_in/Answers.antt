-- `maps::range_in` meets its contract: the ends so far are the range of the cells seen. Assumes nothing.
use Rattle.std.proofs.Common.{arith}
use lib.Ieee.{of_bits}
use Rattle.maps.proofs.Ends.{seen_none, seen_next}
use Rattle.maps.proofs.range_in.Goals as goal

pub loop-x-init : goal.loop-x-init
unfolding of_bits
loop-x-init c = seen_none _

pub loop-x-preserved : goal.loop-x-preserved
unfolding of_bits
loop-x-preserved c =
    let loop = c.loop-x in
    seen_next _ loop.least loop.greatest loop.x-index loop.invariant _ _ _ _ c.valid_or.ensures c.valid_or-in-loop-x.ensures c.lesser-least.ensures c.greater-greatest.ensures (omega arith)
