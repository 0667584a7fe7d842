-- The grid and the figures are the same for the points in any order. Assumes nothing.
use Prim.Native.Nat.{ℕ, ◌+◌, ◌*◌, max}
use mathlib.Core.Path.{◌≡◌, refl, sym, ap, ap₂, ◌∙◌}
use mathlib.Core.Bool.{Bool, true, false, not, cond, ◌&&◌}
use mathlib.Core.List.{List, ◌∷◌}
use native.Mathlib.Nat.{add_left_comm}
use native.Mathlib.Omega.{arith}
use lib.ListN.{length}
use lib.Ieee.{Float}
use Rattle.lists.proofs.Lists.{list_of-same}
use Rattle.lists.proofs.Sums.{sum_to-same}
use Rattle.refusals.specs.Answered.{first_of}
use Rattle.refusals.specs.Outcome.{answer_for, after}
use Rattle.volume.specs.declared.site.Site.{Site}
use Rattle.volume.specs.declared.metres.Spot.{Spot}
use Rattle.volume.specs.Metres.{good_points, spots_of}
use Rattle.volume.specs.Rectangle.{cells_of}
use Rattle.volume.specs.Heights.{is_inside, falls_in, height_of, height_at, is_empty, inside_count, outside_count, grid_of, empty_count, volume_of, figures_of}
use Rattle.volume.specs.Outcome.{heap_rows, heap_of, grid_after}
use Rattle.volume.specs.Orders.{Rearranged, same, behind, exchanged, further}

-- what is made of a list step by step does not know the order, where two steps may change places
module _ {A B : Type 0} (f : List A → B) (step : A → B → B) (made : (x : A) (xs : List A) → f (x ∷ xs) ≡ step x (f xs))
    (either : (x y : A) (b : B) → step x (step y b) ≡ step y (step x b)) where
  pub any_order : {xs ys : List A} → Rearranged xs ys → f xs ≡ f ys
  any_order (same xs) = refl
  any_order (behind x xs ys r) = made x xs ∙ ap (step x) (any_order r) ∙ sym (made x ys)
  any_order (exchanged x y xs) =
      made x (y ∷ xs) ∙ ap (step x) (made y xs) ∙ either x y (f xs) ∙ ap (step y) (sym (made x xs)) ∙ sym (made y (x ∷ xs))
  any_order (further xs ys zs r t) = any_order r ∙ any_order t

raise-either : (t u : Bool) (a b n : ℕ) → cond t (max a (cond u (max b n) n)) (cond u (max b n) n) ≡ cond u (max b (cond t (max a n) n)) (cond t (max a n) n)
raise-either true true a b n = omega arith
raise-either true false a b n = refl
raise-either false u a b n = refl

and-either : (t u v : Bool) → t && (u && v) ≡ u && (t && v)
and-either true u v = refl
and-either false true v = refl
and-either false false v = refl

module _ (s : Site) {ps qs : List Spot} (r : Rearranged ps qs) where
  pub heights-same : (c : ℕ) → height_at s ps c ≡ height_at s qs c
  unfolding height_at
  heights-same c =
      any_order
      (λ l. height_at s l c)
      (λ p n. cond (falls_in s c p) (max (height_of s p) n) n)
      (λ p l. refl)
      (λ p q n. raise-either (falls_in s c p) (falls_in s c q) (height_of s p) (height_of s q) n)
      r

  pub emptiness-same : (c : ℕ) → is_empty s ps c ≡ is_empty s qs c
  unfolding is_empty
  emptiness-same c =
      any_order
      (λ l. is_empty s l c)
      (λ p t. not (falls_in s c p) && t)
      (λ p l. refl)
      (λ p q t. and-either (not (falls_in s c p)) (not (falls_in s c q)) t)
      r

  pub inside-same : inside_count s ps ≡ inside_count s qs
  unfolding inside_count
  inside-same =
      any_order
      (inside_count s)
      (λ p n. cond (is_inside s p) 1 0 + n)
      (λ p l. refl)
      (λ p q n. add_left_comm (cond (is_inside s p) 1 0) (cond (is_inside s q) 1 0) n)
      r

  pub outside-same : outside_count s ps ≡ outside_count s qs
  unfolding outside_count
  outside-same =
      any_order
      (outside_count s)
      (λ p n. cond (is_inside s p) 0 1 + n)
      (λ p l. refl)
      (λ p q n. add_left_comm (cond (is_inside s p) 0 1) (cond (is_inside s q) 0 1) n)
      r

  -- THEOREM: nor does the grid
  pub grid-same : grid_of s ps ≡ grid_of s qs
  unfolding grid_of
  grid-same = list_of-same (cells_of s) (height_at s ps) (height_at s qs) (λ c _. heights-same c)

  pub empties-same : empty_count s ps ≡ empty_count s qs
  unfolding empty_count
  empties-same = sum_to-same (cells_of s) _ _ (λ c _. ap (λ t. cond t 1 0) (emptiness-same c))

  pub volume-same : volume_of s ps ≡ volume_of s qs
  unfolding volume_of
  volume-same = sum_to-same (cells_of s) _ _ (λ c _. ap (λ n. n * (s.cell * s.cell)) (heights-same c))

  -- THEOREM: the figures do not know the order of the points
  pub figures-same : figures_of s ps ≡ figures_of s qs
  unfolding figures_of
  figures-same = cc (volume-same, inside-same, outside-same, empties-same)

-- ---- of the call

-- THEOREM: good points given in another order have the same answer and the same grid
module _ (s : Site) (xs ys zs xs' ys' zs' : List Float) (good : good_points xs ys zs ≡ true) (good' : good_points xs' ys' zs' ≡ true)
    (r : Rearranged (spots_of xs ys zs) (spots_of xs' ys' zs')) where
  -- they have the same rows
  pub rows_same : (m : ℕ) → heap_rows s xs ys zs m ≡ heap_rows s xs' ys' zs' m
  rows_same m = rw (good, good')

  pub answer-same : (m : ℕ) → heap_of s xs ys zs m ≡ heap_of s xs' ys' zs' m
  unfolding heap_of
  answer-same m = ap₂ (λ rows f. answer_for (first_of rows) f) (rows_same m) (figures-same s r)

  pub grid-after-same : (grid : List ℕ) → grid_after s xs ys zs grid ≡ grid_after s xs' ys' zs' grid
  unfolding grid_after
  grid-after-same grid = ap₂ (λ rows made. after (first_of rows) made grid) (rows_same (length grid)) (grid-same s r)
