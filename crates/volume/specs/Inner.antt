-- What the functions inside answer, and the grid while it is filled. Definitions only.
use Rattle.std.specs.Prelude.{ℕ, suc, ◌+◌, ◌*◌, ◌/◌, ◌≤◌, max, ◌≡◌, true, cond, Option, Some, None, List, get_or, set, ℤ, nat_abs}
use Rattle.lists.specs.Lists.{list_of}
use Rattle.volume.specs.declared.site.Site.{Site}
use Rattle.volume.specs.declared.metres.Spot.{Spot}
use Rattle.volume.specs.Metres.{size_most}
use Rattle.volume.specs.Rectangle.{above, good_cell, near_site, good_sides, columns_of, cells_of, cells_most}
use Rattle.volume.specs.Heights.{is_inside, height_at, is_empty}

-- a number of millimetres that is not over 100,000 in size
abbrev pub Near : ℤ → Type 0
Near v = nat_abs v ≤ size_most

-- a site that no test refuses
pub record SiteFits (s : Site) : Type 0 where
  pub cell : good_cell s ≡ true
  pub near : near_site s ≡ true
  pub sides : good_sides s ≡ true
  pub few : cells_of s ≤ cells_most

-- the number of the cell of a point in the rectangle
unfoldable pub cell_at : Site → Spot → ℕ
cell_at s p = above p.y s.top / s.cell * columns_of s + above p.x s.left / s.cell

-- the cell that a point falls in, if one
unfoldable pub fall_of : Site → Spot → Option ℕ
fall_of s p = cond (is_inside s p) (Some (cell_at s p)) None

-- the largest height
abbrev pub height_most : ℕ
height_most = size_most + size_most

-- a cell while the grid is filled: 0 without points, else one more than the greatest height
unfoldable pub level_of_cell : Site → List Spot → ℕ → ℕ
level_of_cell s ps c = cond (is_empty s ps c) 0 (suc (height_at s ps c))

-- the grid when all points have fallen
unfoldable pub levels_of : Site → List Spot → List ℕ
levels_of s ps = list_of (cells_of s) (level_of_cell s ps)

-- the grid after a point of height h fell there
abbrev pub raised_at : Option ℕ → ℕ → List ℕ → List ℕ
raised_at (Some c) h grid = set grid c (max (get_or grid c 0) (suc h))
raised_at None h grid = grid

-- no cell is higher than a height can be
abbrev pub LevelsFit : List ℕ → Type 0
LevelsFit grid = (i : ℕ) → get_or grid i 0 ≤ suc height_most
