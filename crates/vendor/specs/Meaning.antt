-- What a verdict says, without the tests that it is made of (docs/SPECIFICATION.md, "Vendor's map"). Definitions only.
use Rattle.std.specs.Prelude.{ℕ, ◌/◌, ◌%◌, ◌<◌, ◌≡◌, true, false, List, get_or, Float}
use Rattle.std.specs.Float.{nan}
use Rattle.std.specs.Float.Ieee.{eq, lt}
use Rattle.std.specs.Float.Ieee.Scale.{finite}
use Rattle.options.specs.declared.RawCost.TheVariants.{Corr}
use Rattle.choices.specs.Subpixel.{disparity}
use Rattle.vendor.specs.declared.Check.{Check}
use Rattle.vendor.specs.Verdict.{cost_at}

-- v is a disparity of the searched range whose raw cost at (x, y) is not blank, isn't below the least correlation, and is not beaten by any other
pub record Choice (q : Check) (left right : List ℕ) (x y : ℕ) (v : Float) : Type 0 where
  pub k : ℕ
  pub searched : k < q.search.count
  pub is : eq v (disparity q.search k) ≡ true
  pub cost : Float
  pub there : cost_at q left right x y k ≡ Corr cost
  pub enough : lt cost q.least ≡ false
  pub unbeaten : (j : ℕ) (u : Float) → j < q.search.count → cost_at q left right x y j ≡ Corr u → lt cost u ≡ false

-- the cell of pixel p, where it is valid, is such a disparity
abbrev pub Good : Check → List ℕ → List ℕ → List Float → ℕ → Type 0
Good q left right map p = finite (get_or map p nan) ≡ true → Choice q left right (p % q.frame.w) (p / q.frame.w) (get_or map p nan)
