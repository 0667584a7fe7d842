-- Summed-area tables of a picture (docs/SPECIFICATION.md, "Window sums"). Definitions only.
use Rattle.std.specs.Prelude.{ℕ, zero, suc, ◌+◌, ◌*◌, ◌^◌, ◌≤◌, ◌<◌, ◌≡◌, List, [], ◌++◌, ℤ, pos, negsuc, ◌+ℤ◌, length, get_or}
use Rattle.options.specs.Limits.{side_most}
use Rattle.lists.specs.Lists.{list_of}
use Rattle.lists.specs.Rows.{row_of, level_at}
use Rattle.lists.specs.Sums.{sum_to, sum_rect}

-- the sizes of a picture and of its table
pub record Sizes (w h : ℕ) (table pic : List ℕ) : Type 0 where
  pub w-least : 1 ≤ w
  pub w-most : w ≤ side_most
  pub h-least : 1 ≤ h
  pub h-most : h ≤ side_most
  pub cells : length table ≡ (w + 1) * (h + 1)
  pub bytes : length pic ≡ w * h

-- the level at column x of a row
abbrev pub level_in : List ℕ → ℕ → ℕ
level_in row x = get_or row x 0

-- the square of the level at column x of row y
abbrev pub square_at : ℕ → List ℕ → ℕ → ℕ → ℕ
square_at w pic x y = level_at w pic x y * level_at w pic x y

-- the level at a column that may lie outside the row, where it is 0
abbrev pub column_at : List ℕ → ℤ → ℕ
column_at row (pos x) = level_in row x
column_at row (negsuc x) = 0

-- the level at column x of row a by that at column x + shift of row b, and of row y of two pictures
abbrev pub cross_in : List ℕ → List ℕ → ℤ → ℕ → ℕ
cross_in a b shift x = level_in a x * column_at b (pos x +ℤ shift)

abbrev pub cross_at : ℕ → List ℕ → List ℕ → ℤ → ℕ → ℕ → ℕ
cross_at w a b shift x y = cross_in (row_of w a y) (row_of w b y) shift x

-- the first n rows of a table over f: cell x of row y is the sum of f over columns < x and rows < y
unfoldable pub table_rows : ℕ → ℕ → (ℕ → ℕ → ℕ) → List ℕ
table_rows w zero f = []
table_rows w (suc y) f = table_rows w y f ++ list_of (w + 1) (λ x. sum_rect x y f)

-- the whole table of a picture of w columns and h rows: (w + 1)(h + 1) cells
unfoldable pub table_of : ℕ → ℕ → (ℕ → ℕ → ℕ) → List ℕ
table_of w h f = table_rows w (h + 1) f

-- a row of a table that is filled from the row above it: cell x is the one above plus the row's sum over columns < x
unfoldable pub next_row : ℕ → (ℕ → ℕ) → List ℕ → List ℕ
next_row w g above = list_of (w + 1) (λ x. get_or above x 0 + sum_to x g)

-- a row of a table of a picture of w columns, with room for another row's sum in each cell
pub record RowReady (w : ℕ) (above : List ℕ) : Type 0 where
  pub width : w ≤ side_most
  pub size : length above ≡ w + 1
  pub room : (x : ℕ) → get_or above x 0 < 2 ^ 52
