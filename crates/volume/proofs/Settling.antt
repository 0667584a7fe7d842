-- The grid while the levels become heights, from the first cell on, with the sums so far. Assumes nothing.
use Prim.Native.Nat.{ℕ, ◌+◌, ◌*◌, ◌-◌, ◌≤◌, ◌<◌}
use mathlib.Core.Path.{◌≡◌, refl, ap, ◌∙◌}
use mathlib.Core.Bool.{Bool, true, false, cond}
use mathlib.Core.List.{List, [], ◌∷◌, ◌++◌, map}
use native.Mathlib.Numerals.{add-one}
use native.Mathlib.Omega.{arith}
use lib.Dec.{eqb}
use lib.ListN.{length, get_or, set, drop, length-set}
use Rattle.lists.specs.Lists.{list_of}
use Rattle.lists.specs.Sums.{sum_to}
use Rattle.lists.proofs.Lists.{filled_next, filled-rest, filled-end}
use Rattle.lists.proofs.Sums.{sum_to-bound}
use Rattle.volume.specs.Rectangle.{cells_most}
use Rattle.volume.specs.Inner.{LevelsFit, height_most}

-- the height of cell i, and whether it is empty, by its level
abbrev pub height_under : List ℕ → ℕ → ℕ
height_under levels i = get_or levels i 0 - 1

abbrev pub empty_at : List ℕ → ℕ → ℕ
empty_at levels i = cond (eqb (get_or levels i 0) 0) 1 0

empty-most : (levels : List ℕ) (i : ℕ) → empty_at levels i ≤ 1
empty-most levels i = go (eqb (get_or levels i 0) 0)
  where
    go : (t : Bool) → cond t 1 0 ≤ 1
    go true = omega arith
    go false = omega arith

heights-map : (levels : List ℕ) → list_of (length levels) (height_under levels) ≡ map (λ v. v - 1) levels
unfolding list_of
heights-map [] = refl
heights-map (v ∷ levels) = ap (λ (t : List ℕ). (v - 1) ∷ t) (heights-map levels)

-- the first i levels are heights
pub record Settling (levels grid : List ℕ) (height empty i : ℕ) : Type 0 where
  pub within : i ≤ length levels
  pub long : length grid ≡ length levels
  pub is : grid ≡ list_of i (height_under levels) ++ drop i levels
  pub heights : height ≡ sum_to i (height_under levels)
  pub empties : empty ≡ sum_to i (empty_at levels)

-- the sums of one cell more are small
pub record Small (levels : List ℕ) (height empty i : ℕ) : Type 0 where
  pub heights : height + height_under levels i ≤ (cells_most + 1) * height_most
  pub empties : empty + empty_at levels i ≤ cells_most + 1

module _ (levels : List ℕ) where
  pub settling-none : Settling levels levels 0 0 0
  unfolding list_of sum_to
  settling-none = record { within = omega arith; long = refl; is = refl; heights = refl; empties = refl }

  -- the next cell still has its level
  pub settling-at : (grid : List ℕ) (height empty i : ℕ) → Settling levels grid height empty i → get_or grid i 0 ≡ get_or levels i 0
  settling-at grid height empty i s = rw s.is (filled-rest i (height_under levels) levels i 0 (omega arith))

  pub settling-more : (grid : List ℕ) (height empty i h e : ℕ) → Settling levels grid height empty i → i < length levels → h ≡ height_under levels i → e ≡ empty_at levels i
      → Settling levels (set grid i h) (height + h) (empty + e) (i + 1)
  unfolding sum_to
  settling-more grid height empty i h e s below under none =
      record {
        within = omega arith;
        long = simp length-set s.long;
        is = rw s.is (filled_next i (height_under levels) levels h below under);
        heights = rw (s.heights, under, add-one i);
        empties = rw (s.empties, none, add-one i);
      }

  pub settling-small : LevelsFit levels → length levels ≤ cells_most → (grid : List ℕ) (height empty i : ℕ) → Settling levels grid height empty i → Small levels height empty i
  settling-small fit few grid height empty i s =
      let tall : sum_to i (height_under levels) ≤ i * height_most = sum_to-bound height_most i (height_under levels) (λ k _. omega (arith, fit k)) in
      let many : sum_to i (empty_at levels) ≤ i * 1 = sum_to-bound 1 i (empty_at levels) (λ k _. empty-most levels k) in
      record { heights = omega (arith, s.within, s.heights, fit i); empties = omega (arith, s.within, s.empties, empty-most levels i) }

  pub settling-done : (grid : List ℕ) (height empty i : ℕ) → Settling levels grid height empty i → length levels ≤ i
      → (height ≡ sum_to (length levels) (height_under levels)) × ((empty ≡ sum_to (length levels) (empty_at levels)) × (grid ≡ map (λ v. v - 1) levels))
  settling-done grid height empty i s past =
      let last : i ≡ length levels = omega (arith, s.within) in
      (rw last at s.heights, (rw last at s.empties, s.is ∙ filled-end i (length levels) (height_under levels) levels last refl ∙ heights-map levels))
