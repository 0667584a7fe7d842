-- `vendor::cost::row_products` meets its contract: `sum` is the sum of the products seen. Assumes nothing.
use mathlib.Core.Path.{◌≡◌}
use lib.ListN.{length}
use Rattle.lists.specs.Sums.{sum_to}
use Rattle.windows.specs.Parts.{product_in}
use Rattle.vendor.proofs.cost.row_products.Given as goal

abbrev pub invariant-loop-x : goal.invariant-loop-x
invariant-loop-x l = l.sum ≡ sum_to (length l.yielded) (product_in l.a l.b)
