-- `Tables::window_products` meets its contract: after j turns `sum` is that of the windows' first j rows. Assumes nothing.
use Prim.Native.Nat.{◌≤◌}
use mathlib.Core.Path.{◌≡◌}
use Rattle.lists.specs.Sums.{sum_to}
use Rattle.vendor.proofs.Products.{row_sum}
use Rattle.vendor.proofs.cost.Tables.window_products.Given as goal

abbrev pub invariant-loop-j : goal.invariant-loop-j
invariant-loop-j l = (l.j ≤ l.n) × (l.sum ≡ sum_to l.j (row_sum l.w l.self.left.now l.self.right.now l.r l.x l.other l.y))
