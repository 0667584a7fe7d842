-- `windows::add_values` meets its contract: after i turns the part's first i cells are filled, and `run` is the sum of the first i values. Assumes nothing.
use Rattle.std.proofs.Common.{◌≡◌, ℕ, ◌+◌, ◌*◌, ◌≤◌, ◌++◌, length, get_or, drop}
use Rattle.lists.specs.Lists.{list_of}
use Rattle.lists.specs.Sums.{sum_to}
use Rattle.windows.specs.Parts.{Gives}
use Rattle.windows.proofs.add_values.Given as goal

abbrev pub invariant-loop-i : goal.invariant-loop-i
invariant-loop-i g l =
    (l.run ≤ l.i * 65025)
    × ((f : ℕ → ℕ) → Gives (goal.F-post g l.value) (length l.above) f
    → (l.run ≡ sum_to l.i f) × (l.below ≡ list_of l.i (λ k. get_or l.above k 0 + sum_to k f) ++ drop l.i l.initial.below))
