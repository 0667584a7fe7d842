-- `vendor::cells::index_named` meets its contract: the number is none of the disparities passed. Assumes nothing.
use mathlib.Core.Bool.{not}
use lib.Ieee.{eq}
use Rattle.choices.specs.Subpixel.{disparity}
use Rattle.vendor.proofs.Asking.{Passed}
use Rattle.vendor.proofs.cells.index_named.Given as goal

abbrev pub invariant-loop-k : goal.invariant-loop-k
invariant-loop-k l = Passed l.search.count (λ j. not (eq l.v (disparity l.search j))) l.k
