-- What stands in the cells, the counts and the volume, from the points in whole millimetres
-- (docs/SPECIFICATION.md, "Volume of a heap"). Definitions only.
use Rattle.std.specs.Prelude.{ℕ, suc, ◌+◌, ◌*◌, ◌/◌, ◌%◌, max, Bool, true, not, cond, ◌&&◌, List, [], ◌∷◌, ℤ, pos, ◌+ℤ◌}
use Rattle.std.specs.Int.Signed.{le_z, lt_z}
use Rattle.lists.specs.Lists.{list_of}
use Rattle.lists.specs.Sums.{sum_to}
use Rattle.volume.specs.declared.site.Site.{Site}
use Rattle.volume.specs.declared.metres.Spot.{Spot}
use Rattle.volume.specs.declared.heap.Figures.{Figures}
use Rattle.volume.specs.Rectangle.{above, columns_of, cells_of}

-- from a low edge to a high one: the low edge inside, the high edge outside
unfoldable pub is_between : ℤ → ℤ → ℤ → Bool
is_between low high v = le_z low v && lt_z v high

-- the point lies in the rectangle
unfoldable pub is_inside : Site → Spot → Bool
is_inside s p = is_between s.left s.right p.x && is_between s.top s.bottom p.y

-- the low edge of the i-th column or row of cells, from the rectangle's own low edge on
abbrev pub edge : Site → ℤ → ℕ → ℤ
edge s low i = low +ℤ pos (i * s.cell)

-- v lies in the i-th of them
abbrev pub in_strip : Site → ℤ → ℕ → ℤ → Bool
in_strip s low i v = is_between (edge s low i) (edge s low (suc i)) v

-- the point falls in cell c; the cells are numbered by rows
unfoldable pub falls_in : Site → ℕ → Spot → Bool
falls_in s c p = in_strip s s.left (c % columns_of s) p.x && in_strip s s.top (c / columns_of s) p.y

-- a point's height: the floor depth less z, and 0 below the floor
unfoldable pub height_of : Site → Spot → ℕ
height_of s p = above s.floor p.z

-- the greatest height of the points in cell c, and 0 without points
unfoldable pub height_at : Site → List Spot → ℕ → ℕ
height_at s [] c = 0
height_at s (p ∷ ps) c = cond (falls_in s c p) (max (height_of s p) (height_at s ps c)) (height_at s ps c)

-- no point falls in cell c
unfoldable pub is_empty : Site → List Spot → ℕ → Bool
is_empty s [] c = true
is_empty s (p ∷ ps) c = not (falls_in s c p) && is_empty s ps c

-- how many points lie in the rectangle, and how many outside
unfoldable pub inside_count : Site → List Spot → ℕ
inside_count s [] = 0
inside_count s (p ∷ ps) = cond (is_inside s p) 1 0 + inside_count s ps

unfoldable pub outside_count : Site → List Spot → ℕ
outside_count s [] = 0
outside_count s (p ∷ ps) = cond (is_inside s p) 0 1 + outside_count s ps

-- the heights of the cells, by rows
unfoldable pub grid_of : Site → List Spot → List ℕ
grid_of s ps = list_of (cells_of s) (height_at s ps)

-- how many cells have no point
unfoldable pub empty_count : Site → List Spot → ℕ
empty_count s ps = sum_to (cells_of s) (λ c. cond (is_empty s ps c) 1 0)

-- the sum of height times cell area, in cubic millimetres
unfoldable pub volume_of : Site → List Spot → ℕ
volume_of s ps = sum_to (cells_of s) (λ c. height_at s ps c * (s.cell * s.cell))

-- the four figures of a heap
unfoldable pub figures_of : Site → List Spot → Figures
figures_of s ps = record { volume = volume_of s ps; inside = inside_count s ps; outside = outside_count s ps; empty = empty_count s ps }
