-- Rows of reasons to refuse, tested by their place, and what it means that a number is answered
-- (docs/SPECIFICATION.md, "Numbers given back"). Definitions only.
use Rattle.std.specs.Prelude.{ℕ, ◌<◌, ◌≡◌, Bool, true, false, cond, ◌↔◌, List, [], ◌∷◌, ◌++◌}

-- a row: its number, and whether its reason applies
pub record Row : Type 0 where
  pub number : ℕ
  pub applies : Bool

abbrev pub row : ℕ → Bool → Row
row n reason = record { number = n; applies = reason }

-- the number of the first row that applies, 0 where none does
unfoldable pub first_of : List Row → ℕ
first_of [] = 0
first_of (r ∷ rows) = cond r.applies r.number (first_of rows)

-- no row applies
abbrev pub NoneApplies : List Row → Type 0
NoneApplies [] = Unit {0}
NoneApplies (r ∷ rows) = (r.applies ≡ false) × NoneApplies rows

-- every number is above 0, which is no refusal
abbrev pub Numbered : List Row → Type 0
Numbered [] = Unit {0}
Numbered (r ∷ rows) = (0 < r.number) × Numbered rows

-- a row with number n applies, and no row that stands before it does
pub record FirstIs (rows : List Row) (n : ℕ) : Type 0 where
  pub before : List Row
  pub after : List Row
  pub split : rows ≡ before ++ (row n true ∷ after)
  pub none_before : NoneApplies before

-- THE LAW of an answer by its number: n exactly when its row applies and no row that stands before it does, 0 exactly when none applies
pub record ByPlace (rows : List Row) (answer : ℕ) : Type 0 where
  pub refused-with : (n : ℕ) → 0 < n → (answer ≡ n) ↔ FirstIs rows n
  pub accepted-when : (answer ≡ 0) ↔ NoneApplies rows
