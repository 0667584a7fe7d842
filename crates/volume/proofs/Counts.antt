-- Each point is counted once, as inside or as outside; one inside falls in one cell and in no other, one outside in none. Assumes nothing.
use Prim.Native.Nat.{ℕ, suc, ◌+◌, ◌<◌}
use mathlib.Core.Path.{◌≡◌, refl, sym, ◌∙◌}
use mathlib.Core.Bool.{Bool, true, false, cond}
use mathlib.Core.List.{List, [], ◌∷◌}
use native.Mathlib.Omega.{arith}
use borrow.Author.Tests.{eqb-true, eq-eqb}
use lib.ListN.{length}
use lib.Ieee.{Float}
use Rattle.volume.specs.declared.site.Site.{Site}
use Rattle.volume.specs.declared.metres.Spot.{Spot}
use Rattle.volume.specs.Metres.{good_points, spots_of}
use Rattle.volume.specs.Rectangle.{good_cell, good_sides, cells_of}
use Rattle.volume.specs.Heights.{is_inside, falls_in, inside_count, outside_count}
use Rattle.volume.specs.Inner.{cell_at}
use Rattle.volume.proofs.Cells.{cell_below, falls-inside, falls-outside}
use Rattle.volume.proofs.Spots.{good, spots-length}

count-one : (t : Bool) (a b n : ℕ) → a + b ≡ n → cond t 1 0 + a + (cond t 0 1 + b) ≡ suc n
count-one true a b n e = omega arith
count-one false a b n e = omega arith

-- THEOREM: the two counts add to the points
pub counts-add : (s : Site) (ps : List Spot) → inside_count s ps + outside_count s ps ≡ length ps
unfolding inside_count outside_count
counts-add s [] = refl
counts-add s (p ∷ ps) = count-one (is_inside s p) (inside_count s ps) (outside_count s ps) (length ps) (counts-add s ps)

-- THEOREM: of good points, they add to the coordinates in each list
pub counts-given : (s : Site) (xs ys zs : List Float) → good_points xs ys zs ≡ true
    → inside_count s (spots_of xs ys zs) + outside_count s (spots_of xs ys zs) ≡ length xs
counts-given s xs ys zs e = counts-add s (spots_of xs ys zs) ∙ spots-length xs ys zs (good xs ys zs e)

-- the point falls in one cell of the grid, and in no other
pub record OneCell (s : Site) (p : Spot) : Type 0 where
  pub cell : ℕ
  pub below : cell < cells_of s
  pub falls : falls_in s cell p ≡ true
  pub only : (c : ℕ) → c < cells_of s → falls_in s c p ≡ true → c ≡ cell

module _ (s : Site) (fair : good_cell s ≡ true) (sides : good_sides s ≡ true) (p : Spot) where
  -- THEOREM: a point in the rectangle falls in one cell
  pub one_cell : is_inside s p ≡ true → OneCell s p
  one_cell inside =
      let here = cell_at s p in
      let within = cell_below s fair sides p inside in
      record {
        cell = here;
        below = within;
        falls = falls-inside s fair sides p inside here within ∙ eq-eqb here here refl;
        only = λ c below falls. eqb-true c here (sym (falls-inside s fair sides p inside c below) ∙ falls);
      }

  -- THEOREM: a point outside falls in none
  pub no_cell : is_inside s p ≡ false → (c : ℕ) → c < cells_of s → falls_in s c p ≡ false
  no_cell = falls-outside s fair sides p
