-- Ranges of binary32 numbers (docs/SPECIFICATION.md, "Path costs"). Definitions only.
use Rattle.std.specs.Prelude.{ℕ, ◌*◌, ◌≤◌, ◌≡◌, true, false, List, [], ◌∷◌, T, Float}
use Rattle.std.specs.Float.{nan, inf, fin, binary32}
use Rattle.std.specs.Float.Ieee.{up, down, fits}
use Rattle.options.specs.Limits.{is_penalty}

-- x is a number from 0 to n: no NaN, no infinity, not minus zero. (fin s m e is m * 2 ^ e, and 2 ^ e is up e / down e)
abbrev pub UpTo : ℕ → Float → Type 0
UpTo n nan = ⊥
UpTo n (inf s) = ⊥
UpTo n (fin true m e) = ⊥
UpTo n (fin false m e) = T (fits binary32 (fin false m e)) × (m * up e ≤ n * down e)

-- every cell of a list is such
abbrev pub All : (Float → Type 0) → List Float → Type 0
All P [] = Unit
All P (x ∷ xs) = P x × All P xs

-- penalties that are not refused and matching costs from 0 to 2: every path cost is then a number from 0 to 1027
pub record Bounded (p1 p2 : Float) (costs : List Float) : Type 0 where
  pub p1-in : is_penalty p1 ≡ true
  pub p2-in : is_penalty p2 ≡ true
  pub costs-in : All (UpTo 2) costs
