-- The rectangle, its cells, and the tests of a site (docs/SPECIFICATION.md, "Volume of a heap"). Definitions only.
use Rattle.std.specs.Prelude.{ℕ, ◌*◌, ◌/◌, ◌%◌, Bool, ◌&&◌, leb, ltb, eqb, ℤ, pos, negsuc, ◌-ℤ◌}
use Rattle.volume.specs.declared.site.Site.{Site}
use Rattle.volume.specs.declared.site.Shape.{Shape}
use Rattle.volume.specs.Metres.{is_near}

-- a whole number, and 0 in place of one below zero
abbrev pub or_zero : ℤ → ℕ
or_zero (pos n) = n
or_zero (negsuc n) = 0

-- a less b: how far a lies above b, and 0 where it lies below
unfoldable pub above : ℤ → ℤ → ℕ
above a b = or_zero (a -ℤ b)

-- the rectangle's sides
abbrev pub wide_of : Site → ℕ
wide_of s = above s.right s.left

abbrev pub long_of : Site → ℕ
long_of s = above s.bottom s.top

-- the cells of a row, the rows, both, and all cells
abbrev pub columns_of : Site → ℕ
columns_of s = wide_of s / s.cell

abbrev pub rows_of : Site → ℕ
rows_of s = long_of s / s.cell

abbrev pub shape_of : Site → Shape
shape_of s = record { columns = columns_of s; rows = rows_of s }

abbrev pub cells_of : Site → ℕ
cells_of s = columns_of s * rows_of s

-- the cell side is from 10 to 10,000 mm
unfoldable pub good_cell : Site → Bool
good_cell s = leb 10 s.cell && leb s.cell 10000

-- no edge is over 100,000 mm in size, nor the floor depth
unfoldable pub near_site : Site → Bool
near_site s = is_near s.left && is_near s.right && is_near s.top && is_near s.bottom && is_near s.floor

-- a positive number and a whole multiple of the cell side
unfoldable pub multiple : ℕ → ℕ → Bool
multiple n side = ltb 0 n && eqb (n % side) 0

-- the rectangle has positive sides that are whole multiples of the cell
unfoldable pub good_sides : Site → Bool
good_sides s = multiple (wide_of s) s.cell && multiple (long_of s) s.cell

-- the most cells
abbrev pub cells_most : ℕ
cells_most = 65536
