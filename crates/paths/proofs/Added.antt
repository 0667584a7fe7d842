-- The eight directions, and the sums of their path costs. Assumes nothing.
use Prim.Native.Nat.{ℕ, zero, suc, ◌+◌, ◌*◌, ◌<◌}
use mathlib.Core.Path.{◌≡◌, refl, ap, ◌∙◌}
use mathlib.Core.Bool.{false}
use mathlib.Core.List.{List, [], ◌∷◌}
use mathlib.Core.Logic.{inl, inr}
use native.Mathlib.Nat.{not-suc-le-zero, le_of_suc-le-suc}
use native.Mathlib.Numerals.{add-one}
use native.Mathlib.Omega.{arith}
use lib.IntN.{ℤ, pos, negsuc}
use lib.ListN.{length, get_or, drop, length-replicate}
use lib.Seq.{drop-cons}
use lib.Ieee.{Float, fin}
use mir.Syntax.{w32}
use mir.Val.{of_z, to_z}
use Rattle.paths.specs.declared.direction.Walk.{Walk}
use Rattle.paths.specs.Path.{add_vec}
use Rattle.paths.specs.Walk.{UnitStep, Direction, directions, walk_along, add_paths, path_sums, path_volume, zeros}
use Rattle.paths.proofs.Steps.{length-sum}
use Rattle.paths.proofs.Places.{unit-same}

-- ---- the directions

abbrev pub AllDirections : List (List ℤ) → Type 0
AllDirections [] = Unit
AllDirections (d ∷ ds) = Direction (get_or d 0 (pos 0)) (get_or d 1 (pos 0)) × AllDirections ds

one_of : (ds : List (List ℤ)) → AllDirections ds → (k : ℕ) → k < length ds → Direction (get_or (get_or ds k []) 0 (pos 0)) (get_or (get_or ds k []) 1 (pos 0))
one_of [] a k h = absurd (not-suc-le-zero h)
one_of (d ∷ ds) a zero h = a.0
one_of (d ∷ ds) a (suc k) h = one_of ds a.1 k (le_of_suc-le-suc h)

up : UnitStep (pos 1)
up = inr (inl refl)

down : UnitStep (negsuc 0)
down = inr (inr refl)

none : UnitStep (pos 0)
none = inl refl

up-moves : pos 1 ≡ pos 0 → ⊥
up-moves e = let o : ◌≡◌ {A = ℕ} 1 0 = cc in omega arith

down-moves : negsuc 0 ≡ pos 0 → ⊥
down-moves e = let o : ◌≡◌ {A = ℕ} 1 0 = cc in omega arith

by-column : {dx dy : ℤ} → UnitStep dx → UnitStep dy → (dx ≡ pos 0 → ⊥) → Direction dx dy
by-column u v m = record { column = u; row = v; moves = λ a b. m a }

by_row : {dy : ℤ} → UnitStep dy → (dy ≡ pos 0 → ⊥) → Direction (pos 0) dy
by_row v m = record { column = none; row = v; moves = λ a b. m b }

pub all-directions : AllDirections directions
all-directions = (
  by-column up none up-moves,
  (
    by-column down none down-moves,
    (
      by_row up up-moves,
      (
        by_row down down-moves,
        (by-column up up up-moves, (by-column up down up-moves, (by-column down up down-moves, (by-column down down down-moves, tt)))),
      ),
    ),
  ),
)

pub is-direction : (k : ℕ) → k < 8 → Direction (get_or (get_or directions k []) 0 (pos 0)) (get_or (get_or directions k []) 1 (pos 0))
is-direction k h = one_of directions all-directions k h

-- the walk along a direction whose steps were read back from their bits
abbrev pub read_back : List ℤ → List ℤ
read_back d = to_z w32 (of_z w32 (get_or d 0 (pos 0))) ∷ to_z w32 (of_z w32 (get_or d 1 (pos 0))) ∷ []

module _ (k : ℕ) (l : k < 8) where
  -- such steps are those of a direction
  pub same-direction : let d = read_back (get_or directions k []) in Direction (get_or d 0 (pos 0)) (get_or d 1 (pos 0))
  same-direction = let dir = is-direction k l in rw (unit-same _ dir.column, unit-same _ dir.row) dir

  pub same-walk : (w h count : ℕ) (p1 p2 : Float) → walk_along w h count p1 p2 (read_back (get_or directions k [])) ≡ walk_along w h count p1 p2 (get_or directions k [])
  same-walk w h count p1 p2 = let dir = is-direction k l in rw (unit-same _ dir.column, unit-same _ dir.row)

-- ---- their path costs, added in one list

-- one more direction
add-one-path : (along : List ℤ → Walk) (c s : List Float) (k : ℕ) → k < 8
    → add_paths along c (add_vec s (path_volume (along (get_or directions k [])) c)) (drop (k + 1) directions) ≡ add_paths along c s (drop k directions)
unfolding add_paths
add-one-path along c s k h = rw (add-one, drop-cons directions k [] h)

-- after k directions, from no sums
pub record Added (w h count : ℕ) (p1 p2 : Float) (costs sums : List Float) (k : ℕ) : Type 0 where
  pub long : length sums ≡ w * h * count
  pub rest : add_paths (walk_along w h count p1 p2) costs sums (drop k directions) ≡ path_sums w h count p1 p2 costs

module _ (w h count : ℕ) (p1 p2 : Float) (costs : List Float) where
  pub added_none : (sums : List Float) → sums ≡ zeros (w * h * count) → Added w h count p1 p2 costs sums 0
  unfolding path_sums
  added_none sums e =
      record {
        long = ap length e ∙ length-replicate (w * h * count) (fin false 0 (pos 0));
        rest = ap (λ (z : List Float). add_paths (walk_along w h count p1 p2) costs z directions) e;
      }

  pub added_more : (sums : List Float) (k : ℕ) → Added w h count p1 p2 costs sums k → k < 8
      → Added w h count p1 p2 costs (add_vec sums (path_volume (walk_along w h count p1 p2 (get_or directions k [])) costs)) (k + 1)
  added_more sums k a h' =
      let along = walk_along w h count p1 p2 in
      record { long = length-sum sums (path_volume (along (get_or directions k [])) costs) ∙ a.long; rest = add-one-path along costs sums k h' ∙ a.rest }

  pub added-done : {sums : List Float} → Added w h count p1 p2 costs sums 8 → sums ≡ path_sums w h count p1 p2 costs
  unfolding add_paths
  added-done a = a.rest
