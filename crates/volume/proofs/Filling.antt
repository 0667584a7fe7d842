-- The grid while the points fall, one after the other: in the end each cell has the level of the points in it. Assumes nothing.
use Prim.Native.Nat.{ℕ, suc, ◌+◌, ◌≤◌, ◌<◌, max}
use mathlib.Core.Path.{◌≡◌, refl, sym, ap, ◌∙◌}
use mathlib.Core.Bool.{Bool, true, false, cond, not, ◌&&◌}
use mathlib.Core.List.{List, [], ◌∷◌}
use native.Mathlib.Nat.{max-zero, zero-max}
use native.Mathlib.Numerals.{add-one}
use native.Mathlib.Omega.{arith}
use borrow.Author.Tests.{eqb-true, eqb-false}
use lib.Dec.{eqb}
use lib.ListN.{length, get_or, set, drop, replicate, length-set, length-replicate, get_or-replicate, drop_of_length-le}
use lib.Seq.{get_or-set_same, get_or-set_other, ext_get_or}
use Rattle.lists.proofs.Lists.{list_of-length, list_of-at}
use Rattle.volume.specs.declared.site.Site.{Site}
use Rattle.std.specs.Prelude.{Option, Some, None}
use Rattle.volume.specs.declared.metres.Spot.{Spot}
use Rattle.volume.specs.Rectangle.{good_cell, good_sides, cells_of}
use Rattle.volume.specs.Heights.{is_inside, falls_in, height_of, height_at, is_empty, inside_count}
use Rattle.volume.specs.Inner.{SiteFits, cell_at, fall_of, level_of_cell, levels_of, raised_at}
use Rattle.volume.proofs.Cells.{cell_below, falls-inside, falls-outside}
use Rattle.volume.proofs.Greatest.{empty-zero}

-- the grid after one point fell, and after all of them
abbrev pub dropped : Site → Spot → List ℕ → List ℕ
dropped s p grid = raised_at (fall_of s p) (height_of s p) grid

unfoldable pub fallen : Site → List Spot → List ℕ → List ℕ
fallen s [] grid = grid
fallen s (p ∷ ps) grid = fallen s ps (dropped s p grid)

-- a point that falls in a cell lies inside, and one that falls in none outside
pub falls-cell : (s : Site) (p : Spot) (c : ℕ) → fall_of s p ≡ Some c → (is_inside s p ≡ true) × (c ≡ cell_at s p)
unfolding fall_of
falls-cell s p c e = go (is_inside s p) refl
  where
    go : (t : Bool) → is_inside s p ≡ t → (is_inside s p ≡ true) × (c ≡ cell_at s p)
    go true t = (t, let f : Some (cell_at s p) ≡ Some c = rw t at e in cc)
    go false t = let f : None ≡ Some c = rw t at e in let z : ◌≡◌ {A = ℕ} 0 1 = cc in absurd (omega arith)

pub falls-none : (s : Site) (p : Spot) → fall_of s p ≡ None → is_inside s p ≡ false
unfolding fall_of
falls-none s p e = go (is_inside s p) refl
  where
    go : (t : Bool) → is_inside s p ≡ t → is_inside s p ≡ false
    go true t = let f : Some (cell_at s p) ≡ None = rw t at e in let z : ◌≡◌ {A = ℕ} 0 1 = cc in absurd (omega arith)
    go false t = t

-- its cell is one of the grid's
pub falls-below : (s : Site) → SiteFits s → (p : Spot) (c : ℕ) → fall_of s p ≡ Some c → c < cells_of s
falls-below s fit p c e =
    let here = falls-cell s p c e in
    omega (arith, here.1, cell_below s fit.cell fit.sides p here.0)

raised-length : (f : Option ℕ) (h : ℕ) (grid : List ℕ) → length (raised_at f h grid) ≡ length grid
raised-length (Some c) h grid = length-set grid c _
raised-length None h grid = refl

fallen-length : (s : Site) (ps : List Spot) (grid : List ℕ) → length (fallen s ps grid) ≡ length grid
unfolding fallen
fallen-length s [] grid = refl
fallen-length s (p ∷ ps) grid = fallen-length s ps (dropped s p grid) ∙ raised-length (fall_of s p) (height_of s p) grid

-- one point more: the level of its height, or what the others reach
level-more : (s : Site) (p : Spot) (ps : List Spot) (c : ℕ) → level_of_cell s (p ∷ ps) c ≡ cond (falls_in s c p) (max (suc (height_of s p)) (level_of_cell s ps c)) (level_of_cell s ps c)
unfolding level_of_cell is_empty height_at
level-more s p ps c = go (falls_in s c p) (is_empty s ps c) (height_of s p) (height_at s ps c) (empty-zero s ps c)
  where
    go : (t e : Bool) (h m : ℕ) → (e ≡ true → m ≡ 0) → cond (not t && e) 0 (suc (cond t (max h m) m)) ≡ cond t (max (suc h) (cond e 0 (suc m))) (cond e 0 (suc m))
    go true true h m none = omega (arith, none refl)
    go true false h m none = omega arith
    go false e h m none = refl

module _ (s : Site) (cell : good_cell s ≡ true) (sides : good_sides s ≡ true) where
  -- a cell after one point fell
  dropped-at : (p : Spot) (grid : List ℕ) (c : ℕ) → length grid ≡ cells_of s → c < cells_of s
      → get_or (dropped s p grid) c 0 ≡ cond (falls_in s c p) (max (get_or grid c 0) (suc (height_of s p))) (get_or grid c 0)
  unfolding fall_of
  dropped-at p grid c long below = go (is_inside s p) refl
    where
      level : ℕ
      level = max (get_or grid (cell_at s p) 0) (suc (height_of s p))

      one : (t : Bool) → eqb c (cell_at s p) ≡ t → get_or (set grid (cell_at s p) level) c 0 ≡ cond t (max (get_or grid c 0) (suc (height_of s p))) (get_or grid c 0)
      one true t =
          let here : c ≡ cell_at s p = eqb-true c (cell_at s p) t in
          rw here (get_or-set_same grid (cell_at s p) level 0 (omega arith))
      one false t = get_or-set_other grid (cell_at s p) c level 0 (eqb-false c (cell_at s p) t)

      go : (t : Bool) → is_inside s p ≡ t → get_or (dropped s p grid) c 0 ≡ cond (falls_in s c p) (max (get_or grid c 0) (suc (height_of s p))) (get_or grid c 0)
      go true t = rw (t, falls-inside s cell sides p t c below) (one (eqb c (cell_at s p)) refl)
      go false t = rw (t, falls-outside s cell sides p t c below)

  fallen-at : (ps : List Spot) (grid : List ℕ) (c : ℕ) → length grid ≡ cells_of s → c < cells_of s → get_or (fallen s ps grid) c 0 ≡ max (get_or grid c 0) (level_of_cell s ps c)
  unfolding fallen
  fallen-at [] grid c long below = unfold level_of_cell is_empty in sym (max-zero (get_or grid c 0))
  fallen-at (p ∷ ps) grid c long below =
      fallen-at ps (dropped s p grid) c (raised-length (fall_of s p) (height_of s p) grid ∙ long) below
      ∙ rw (dropped-at p grid c long below, level-more s p ps c) (go (falls_in s c p) (get_or grid c 0) (suc (height_of s p)) (level_of_cell s ps c))
    where
      go : (t : Bool) (a b l : ℕ) → max (cond t (max a b) a) l ≡ max a (cond t (max b l) l)
      go true a b l = omega arith
      go false a b l = refl

  -- all points, on a grid of zeros
  fallen-levels : (ps : List Spot) → fallen s ps (replicate (cells_of s) 0) ≡ levels_of s ps
  unfolding levels_of
  fallen-levels ps =
      let zeros : length {A = ℕ} (replicate (cells_of s) 0) ≡ cells_of s = length-replicate (cells_of s) 0 in
      let long : length (fallen s ps (replicate (cells_of s) 0)) ≡ cells_of s = fallen-length s ps (replicate (cells_of s) 0) ∙ zeros in
      ext_get_or 0 _ _ (long ∙ sym (list_of-length (cells_of s) (level_of_cell s ps)))
      (λ i l.
      let below : i < cells_of s = omega arith in
      fallen-at ps (replicate (cells_of s) 0) i zeros below
      ∙ rw (get_or-replicate {A = ℕ} (cells_of s) i 0 0 below, list_of-at (cells_of s) (level_of_cell s ps) i 0 below) (zero-max (level_of_cell s ps i)))

-- while the points fall: the first i of them have fallen, and so many of these lie inside
pub record Falling (s : Site) (ps : List Spot) (grid : List ℕ) (inside i : ℕ) : Type 0 where
  pub few : inside ≤ i
  pub long : length grid ≡ cells_of s
  pub counted : inside + inside_count s (drop i ps) ≡ inside_count s ps
  pub reached : fallen s (drop i ps) grid ≡ levels_of s ps

module _ (s : Site) (ps : List Spot) where
  pub falling-none : good_cell s ≡ true → good_sides s ≡ true → (grid : List ℕ) → grid ≡ replicate (cells_of s) 0 → Falling s ps grid 0 0
  falling-none cell sides grid zeros =
      record {
        few = omega arith;
        long = ap length zeros ∙ length-replicate (cells_of s) 0;
        counted = omega arith;
        reached = rw zeros (fallen-levels s cell sides ps);
      }

  pub falling-more : (grid : List ℕ) (inside i : ℕ) (p : Spot) → Falling s ps grid inside i → drop i ps ≡ p ∷ drop (suc i) ps
      → Falling s ps (dropped s p grid) (inside + cond (is_inside s p) 1 0) (i + 1)
  unfolding inside_count fallen
  falling-more grid inside i p f cut =
      record {
        few = go (is_inside s p);
        long = raised-length (fall_of s p) (height_of s p) grid ∙ f.long;
        counted = rw add-one (omega (arith, rw cut at f.counted));
        reached = rw add-one (rw cut at f.reached);
      }
    where
      go : (t : Bool) → inside + cond t 1 0 ≤ i + 1
      go true = omega (arith, f.few)
      go false = omega (arith, f.few)

  pub falling-done : (grid : List ℕ) (inside i : ℕ) → Falling s ps grid inside i → length ps ≤ i → (inside ≡ inside_count s ps) × (grid ≡ levels_of s ps)
  unfolding inside_count fallen
  falling-done grid inside i f past =
      let none : drop i ps ≡ [] = drop_of_length-le ps past in
      (omega (arith, rw none at f.counted), rw none at f.reached)
