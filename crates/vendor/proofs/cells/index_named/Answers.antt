-- `vendor::cells::index_named` meets its contract: the number is none of the disparities passed. Assumes nothing.
use mathlib.Core.Path.{ap}
use mathlib.Core.Bool.{not}
use Rattle.vendor.specs.Tests.{index_named}
use Rattle.vendor.proofs.Asking.{found_here, found-none}
use Rattle.vendor.proofs.cells.index_named.Goals as goal

pub returns-then-v-disparity_at : goal.returns-then-v-disparity_at
unfolding index_named
returns-then-v-disparity_at c =
    found_here c.loop-k.invariant c.loop-k-test.true (ap not (rw c.disparity_at.ensures at c.if-v-disparity_at.true))

pub returns : goal.returns
unfolding index_named
returns c = found-none c.loop-k.invariant c.loop-k-test.false
