-- The levels of the filled grid, lowered by one, are the heights, and those at 0 are the empty cells. Assumes nothing.
use Prim.Native.Nat.{ℕ, suc, ◌-◌, ◌*◌, ◌≤◌, ◌<◌}
use mathlib.Core.Path.{◌≡◌, refl, sym, ap, ◌∙◌}
use mathlib.Core.Bool.{Bool, true, false, cond}
use mathlib.Core.Logic.{⊎_elim}
use mathlib.Core.List.{List, map}
use native.Mathlib.Nat.{mul_comm}
use native.Mathlib.Omega.{arith}
use lib.Dec.{eqb, eqb-suc-zero}
use lib.ListN.{length, get_or, get_or-eq_default}
use Rattle.lists.specs.Sums.{sum_to}
use Rattle.lists.proofs.Lists.{list_of-length, list_of-at, list_of-same, map-list_of}
use Rattle.lists.proofs.Sums.{sum_to-same, sum_to-scale}
use Rattle.lists.proofs.Tests.{lt-or-le}
use Rattle.volume.specs.declared.site.Site.{Site}
use Rattle.volume.specs.declared.metres.Spot.{Spot}
use Rattle.volume.specs.Rectangle.{cells_of}
use Rattle.volume.specs.Heights.{height_at, is_empty, grid_of, empty_count, volume_of}
use Rattle.volume.specs.Inner.{height_most, level_of_cell, levels_of, LevelsFit}
use Rattle.volume.proofs.Greatest.{empty-zero}

module _ (s : Site) (ps : List Spot) where
  pub levels-length : length (levels_of s ps) ≡ cells_of s
  unfolding levels_of
  levels-length = list_of-length (cells_of s) (level_of_cell s ps)

  level-there : (c : ℕ) → c < cells_of s → get_or (levels_of s ps) c 0 ≡ level_of_cell s ps c
  unfolding levels_of
  level-there c below = list_of-at (cells_of s) (level_of_cell s ps) c 0 below

  level-lowered : (c : ℕ) → level_of_cell s ps c - 1 ≡ height_at s ps c
  unfolding level_of_cell
  level-lowered c = go (is_empty s ps c) refl
    where
      go : (t : Bool) → is_empty s ps c ≡ t → cond t 0 (suc (height_at s ps c)) - 1 ≡ height_at s ps c
      go true e = omega (arith, empty-zero s ps c e)
      go false e = omega arith

  level-zero : (c : ℕ) → eqb (level_of_cell s ps c) 0 ≡ is_empty s ps c
  unfolding level_of_cell
  level-zero c = go (is_empty s ps c)
    where
      go : (t : Bool) → eqb (cond t 0 (suc (height_at s ps c))) 0 ≡ t
      go true = refl
      go false = eqb-suc-zero (height_at s ps c)

  pub heights-sum : sum_to (length (levels_of s ps)) (λ c. get_or (levels_of s ps) c 0 - 1) * (s.cell * s.cell) ≡ volume_of s ps
  unfolding volume_of
  heights-sum =
      let cellArea = s.cell * s.cell in
      rw levels-length
      (ap (λ n. n * cellArea) (sum_to-same (cells_of s) _ (height_at s ps) (λ c below. ap (λ n. n - 1) (level-there c below) ∙ level-lowered c))
      ∙ mul_comm (sum_to (cells_of s) (height_at s ps)) cellArea
      ∙ sym (sum_to-scale (cells_of s) cellArea (height_at s ps))
      ∙ sum_to-same (cells_of s) _ _ (λ c _. mul_comm cellArea (height_at s ps c)))

  pub empties-sum : sum_to (length (levels_of s ps)) (λ c. cond (eqb (get_or (levels_of s ps) c 0) 0) 1 0) ≡ empty_count s ps
  unfolding empty_count
  empties-sum =
      rw levels-length
      (sum_to-same (cells_of s) _ _ (λ c below. ap (λ n. cond (eqb n 0) 1 0) (level-there c below) ∙ ap (λ t. cond t 1 0) (level-zero c)))

  pub levels-lowered : map (λ v. v - 1) (levels_of s ps) ≡ grid_of s ps
  unfolding levels_of grid_of
  levels-lowered = map-list_of (λ v. v - 1) (cells_of s) (level_of_cell s ps) ∙ list_of-same (cells_of s) _ _ (λ c _. level-lowered c)

  pub levels-fit : ((c : ℕ) → height_at s ps c ≤ height_most) → LevelsFit (levels_of s ps)
  levels-fit most c =
      ⊎_elim
      (λ (below : c < cells_of s). omega (arith, level-there c below, level-lowered c, most c))
      (λ (past : cells_of s ≤ c). omega (arith, get_or-eq_default (levels_of s ps) 0 {n = c} (omega (arith, levels-length))))
      (lt-or-le c (cells_of s))
