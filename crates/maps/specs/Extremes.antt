-- What the walk along cells finds, said without the walk (docs/SPECIFICATION.md, "Map"). Definitions only.
use Rattle.std.specs.Prelude.{ℕ, ◌<◌, ◌≡◌, Bool, true, false, Option, None, Some, List, length, get_or, Float}
use Rattle.std.specs.Float.{nan}
use Rattle.std.specs.Float.Ieee.{lt}
use Rattle.std.specs.Float.Ieee.Scale.{finite}
use Rattle.maps.specs.declared.Span.{Span}

-- of the first n cells v is a valid one, no valid one goes before it, and it goes before every valid one to the left of it
pub record First (before : Float → Float → Bool) (cells : List Float) (n : ℕ) (v : Float) : Type 0 where
  pub place : ℕ
  pub within : place < n
  pub there : get_or cells place nan ≡ v
  pub valid : finite v ≡ true
  pub none_before : (j : ℕ) → j < n → finite (get_or cells j nan) ≡ true → before (get_or cells j nan) v ≡ false
  pub leftmost : (j : ℕ) → j < place → finite (get_or cells j nan) ≡ true → before v (get_or cells j nan) ≡ true

-- the least, and the greatest
abbrev pub Least : List Float → ℕ → Float → Type 0
Least = First (λ x y. lt x y)

abbrev pub Greatest : List Float → ℕ → Float → Type 0
Greatest = First (λ x y. lt y x)

-- what is found among the first n cells: none is valid, or these two
abbrev pub Found : List Float → ℕ → Option Span → Type 0
Found cells n None = (j : ℕ) → j < n → finite (get_or cells j nan) ≡ false
Found cells n (Some s) = Least cells n s.least × Greatest cells n s.greatest

-- of all of them
abbrev pub Finds : List Float → Option Span → Type 0
Finds cells r = Found cells (length cells) r
