-- What the walks along a pixel's raw costs and sums find, said without the walk
-- (docs/SPECIFICATION.md, "Block choice", "Semi-global choice"). Definitions only.
use Rattle.std.specs.Prelude.{◌≡◌, ℕ, ◌<◌, true, false, T, List, Option, Some, None, length, get_or, slice_index_or, Float}
use Rattle.std.specs.Float.{nan}
use Rattle.std.specs.Float.Ieee.{lt}
use Rattle.std.specs.Float.Ieee.Scale.{finite}
use Rattle.options.specs.declared.RawCost.{RawCost}
use Rattle.options.specs.declared.RawCost.TheVariants.{Blank, Corr}
use Rattle.options.specs.Costs.{InRange}
use Rattle.choices.specs.declared.block.Best.{Best}

-- every raw cost is blank or lies from -1 to 1
abbrev pub AllInRange : List RawCost → Type 0
AllInRange costs = (j : ℕ) → j < length costs → InRange (slice_index_or costs j Blank)

-- the largest raw cost among the indices that count wins, ties to the smaller k: none is above v, and those with an index below k are below v
pub record Largest (Counts : ℕ → Type 0) (costs : List RawCost) (k : ℕ) (v : Float) : Type 0 where
  pub counts : Counts k
  pub there : get_or costs k Blank ≡ Corr v
  pub none_above : (j : ℕ) (u : Float) → Counts j → slice_index_or costs j Blank ≡ Corr u → lt v u ≡ false
  pub first : (j : ℕ) (u : Float) → Counts j → j < k → slice_index_or costs j Blank ≡ Corr u → lt u v ≡ true

-- what is found among the indices that count: that, or nothing where every raw cost is blank
abbrev pub Finds : (ℕ → Type 0) → List RawCost → Option Best → Type 0
Finds Counts costs None = (j : ℕ) → Counts j → slice_index_or costs j Blank ≡ Blank
Finds Counts costs (Some best) = Largest Counts costs best.k best.cost

-- every sum is a number
abbrev pub AllFinite : List Float → Type 0
AllFinite sums = (j : ℕ) → j < length sums → T (finite (slice_index_or sums j nan))

-- the least sum, ties to the smaller k: none is below s, and those with an index below k are above s
pub record Smallest (sums : List Float) (k : ℕ) (s : Float) : Type 0 where
  pub counts : k < length sums
  pub there : get_or sums k nan ≡ s
  pub none_below : (j : ℕ) → j < length sums → lt (slice_index_or sums j nan) s ≡ false
  pub first : (j : ℕ) → j < k → lt s (slice_index_or sums j nan) ≡ true
