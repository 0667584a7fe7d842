-- `Tables::first_failing` meets its contract: the pixels passed hold. Assumes nothing.
use mathlib.Core.Path.{◌≡◌}
use Rattle.vendor.specs.Tests.{holds_at}
use Rattle.vendor.specs.Inner.{PixelPlaced}
use Rattle.vendor.proofs.Asking.{Passed}
use Rattle.vendor.proofs.cost.Tables.first_failing.Given as goal

abbrev pub invariant-loop-v : goal.invariant-loop-v
invariant-loop-v l =
    (l.at.p ≡ l.v-index) × PixelPlaced l.self.check.frame.w l.at × Passed l.limit (holds_at l.self.check l.self.left.now l.self.right.now l.question l.map) l.at.p
