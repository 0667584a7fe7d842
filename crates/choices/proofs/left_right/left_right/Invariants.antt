-- `choices::left_right::left_right` meets its contract: before pixel p the first p cells are tested. Assumes nothing.
use Rattle.std.proofs.Common.{◌≡◌, ℕ, List, ◌++◌, get_or, drop}
use lib.Ieee.{Float, nan}
use Rattle.choices.specs.LeftRight.{tested_cell}
use Rattle.lists.specs.Lists.{list_of}
use Rattle.choices.proofs.left_right.left_right.Given as goal

-- what `out` holds at each pixel the loop has passed
abbrev pub at-pixel : List Float → List Float → ℕ → Float → ℕ → Float
at-pixel left right w limit p = tested_cell w limit right p (get_or left p nan)

abbrev pub invariant-loop-p : goal.invariant-loop-p
invariant-loop-p l = l.out ≡ list_of l.p (at-pixel l.initial.out l.fn.right l.w l.limit) ++ drop l.p l.initial.out
