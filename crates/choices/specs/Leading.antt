-- The best of each column of a row, index by index, as the loops over a row keep it: a row of numbers, and a row of their indices. Definitions only.
use Rattle.std.specs.Prelude.{ℕ, zero, suc, ◌+◌, ◌-◌, Bool, true, false, cond, ◌&&◌, ◌||◌, List, length, pos, slice_index_or, Float}
use Rattle.std.specs.Float.{nan, inf, binary32}
use Rattle.std.specs.Float.Ieee.{of_int, lt, sub}
use Rattle.lists.specs.Lists.{list_of}
use Rattle.options.specs.declared.RawCost.{RawCost}
use Rattle.options.specs.declared.RawCost.TheVariants.{Blank, Corr}
use Rattle.choices.specs.Block.{away}

-- an index as it stands in a row of floats
abbrev pub index_float : ℕ → Float
index_float k = of_int binary32 (pos k)

-- the largest of the first n numbers, from minus infinity
unfoldable pub most_of : (ℕ → Float) → ℕ → Float
most_of v zero = inf true
most_of v (suc n) = cond (lt (most_of v n) (v n)) (v n) (most_of v n)

-- the smallest index that has it, and 0 where all are minus infinity
unfoldable pub index_of : (ℕ → Float) → ℕ → ℕ
index_of v zero = 0
index_of v (suc n) = cond (lt (most_of v n) (v n)) n (index_of v n)

-- the largest of those more than 1 away from index j
unfoldable pub rival_of : ℕ → (ℕ → Float) → ℕ → Float
rival_of j v zero = inf true
rival_of j v (suc n) = cond (away j n && lt (rival_of j v n) (v n)) (v n) (rival_of j v n)

-- best minus a competitor whose index is not kept is below the ratio; there may be none
abbrev pub too_near : Float → RawCost → Float → Bool
too_near best Blank ratio = false
too_near best (Corr second) ratio = lt (sub binary32 best second) ratio

-- an index, as a float, is more than 1 away from k
abbrev pub far : Float → ℕ → Bool
far at k = lt (index_float (k + 1)) at || lt at (index_float (k - 1))

-- the largest so far, where one number more is v
abbrev pub larger : Float → Float → Float
larger most v = cond (lt most v) v most

-- its index, where that number has index k
abbrev pub larger_at : ℕ → Float → Float → Float → Float
larger_at k most at v = cond (lt most v) (index_float k) at

-- the competitor so far, where one number more is v, with index k, and `at` is the index of the best
abbrev pub rivalled : ℕ → Float → Float → Float → Float
rivalled k at most v = cond (far at k && lt most v) v most

-- the largest so far of every column of a row, where v has the columns' numbers one index further
unfoldable pub led_most : (ℕ → Float) → List Float → List Float
led_most v most = list_of (length most) (λ x. larger (slice_index_or most x nan) (v x))

-- their indices, where that index is k
unfoldable pub led_at : ℕ → (ℕ → Float) → List Float → List Float → List Float
led_at k v most at = list_of (length at) (λ x. larger_at k (slice_index_or most x nan) (slice_index_or at x nan) (v x))

-- the competitors so far, where `at` has the indices of the best
unfoldable pub rivalled_by : ℕ → (ℕ → Float) → List Float → List Float → List Float
rivalled_by k v at most = list_of (length most) (λ x. rivalled k (slice_index_or at x nan) (slice_index_or most x nan) (v x))
