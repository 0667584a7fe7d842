-- A match that is accepted, of bytes and of f32 options (docs/SPECIFICATION.md, "The three demands"). Definitions only.
use Rattle.std.specs.Prelude.{ℕ, ◌≤◌, ◌≡◌, List, T, get_or}
use Rattle.std.specs.Float.{binary32}
use Rattle.std.specs.Float.Ieee.{fits}
use Rattle.options.specs.declared.BlockMatchOptions.{BlockMatchOptions}
use Rattle.calls.specs.Refusals.{refusal}
use Rattle.matching.specs.Outcome.{match_call}

-- a picture's levels are 0 to 255
abbrev pub Levels : List ℕ → Type 0
Levels picture = (i : ℕ) → get_or picture i 0 ≤ 255

-- a pair of w by h pictures that is accepted with these options: for some lengths of what is lent, no row of the table applies
pub record AcceptedPair (w h : ℕ) (o : BlockMatchOptions) (left right : List ℕ) : Type 0 where
  pub out : ℕ
  pub whole : ℕ
  pub float : ℕ
  pub accepted : refusal (match_call left w h right w h o out whole float) ≡ 0
  pub left-levels : Levels left
  pub right-levels : Levels right

-- and the penalties are f32, as whatever a caller can hand over is
pub record AcceptedMatch (w h : ℕ) (o : BlockMatchOptions) (left right : List ℕ) : Type 0 where
  pub pair : AcceptedPair w h o left right
  pub p1-fits : T (fits binary32 o.sgm_p1)
  pub p2-fits : T (fits binary32 o.sgm_p2)
