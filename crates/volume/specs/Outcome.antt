-- The calls' refusals in their order, their answers, and the lent grid afterwards. A refusal changes nothing
-- (docs/SPECIFICATION.md, "Volume of a heap"). Definitions only.
use Rattle.std.specs.Prelude.{ℕ, ◌≡◌, Result, Bool, true, not, ◌&&◌, List, [], ◌∷◌, ◌++◌, length, ltb, eqb, Float}
use Rattle.refusals.specs.Answered.{Row, row, first_of}
use Rattle.refusals.specs.declared.Refusal.{Refusal}
use Rattle.refusals.specs.Steps.{Or}
use Rattle.refusals.specs.Given.{given_back}
use Rattle.refusals.specs.Outcome.{answer_for, after}
use Rattle.volume.specs.declared.site.Site.{Site}
use Rattle.volume.specs.declared.site.Shape.{Shape}
use Rattle.volume.specs.declared.heap.Figures.{Figures}
use Rattle.volume.specs.Metres.{good_points, spots_of}
use Rattle.volume.specs.Rectangle.{good_cell, near_site, good_sides, shape_of, cells_of, cells_most}
use Rattle.volume.specs.Heights.{grid_of, figures_of}

-- 51 the cell side, 52 the points and the edges, 53 the sides, 54 the number of cells; `good` says whether the points are good
abbrev pub site_rows : Bool → Site → List Row
site_rows good s =
    row 51 (not (good_cell s)) ∷ row 52 (not (good && near_site s)) ∷ row 53 (not (good_sides s)) ∷ row 54 (ltb cells_most (cells_of s)) ∷ []

-- the shape of a site's grid, whatever the points
unfoldable pub grid_shape : Site → Or Shape
grid_shape s = answer_for (first_of (site_rows true s)) (shape_of s)

-- and then 55 where the grid has not a cell for each of the site's; it has m
abbrev pub heap_rows : Site → List Float → List Float → List Float → ℕ → List Row
heap_rows s xs ys zs m = site_rows (good_points xs ys zs) s ++ row 55 (not (eqb m (cells_of s))) ∷ []

-- the answer for a grid of m cells and the points whose coordinates are given
unfoldable pub heap_of : Site → List Float → List Float → List Float → ℕ → Or Figures
heap_of s xs ys zs m = answer_for (first_of (heap_rows s xs ys zs m)) (figures_of s (spots_of xs ys zs))

-- the grid afterwards: the heights
unfoldable pub grid_after : Site → List Float → List Float → List Float → List ℕ → List ℕ
grid_after s xs ys zs grid = after (first_of (heap_rows s xs ys zs (length grid))) (grid_of s (spots_of xs ys zs)) grid

-- what a call of `heap_volume` answers and leaves
pub record HeapOutcome (r : Result Figures Refusal) (s : Site) (xs ys zs : List Float) (grid grid' : List ℕ) : Type 0 where
  pub answer : given_back r ≡ heap_of s xs ys zs (length grid)
  pub grids : grid' ≡ grid_after s xs ys zs grid
