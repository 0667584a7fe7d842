-- Sums over a window of a picture (docs/SPECIFICATION.md, "Window sums"). Definitions only.
use Rattle.std.specs.Prelude.{ℕ, ◌+◌, ◌*◌, ◌-◌, ◌≤◌, ◌<◌, ◌≡◌, List, length, get_or}
use Rattle.lists.specs.Sums.{sum_rect}
use Rattle.windows.specs.Table.{table_of}

-- the sum of f over the window of (2r + 1)² pixels centred at (x, y)
unfoldable pub window_sum : (ℕ → ℕ → ℕ) → ℕ → ℕ → ℕ → ℕ
window_sum f x y r = sum_rect (2 * r + 1) (2 * r + 1) (λ i j. f (x - r + i) (y - r + j))

-- the window centred at (x, y) lies in a picture of w columns and h rows
pub record Inside (w h x y r : ℕ) : Type 0 where
  pub left : r ≤ x
  pub right : x + r < w
  pub top : r ≤ y
  pub bottom : y + r < h

-- the cells of one table
abbrev pub cells : ℕ → ℕ → ℕ
cells w h = (w + 1) * (h + 1)

-- the index of the top left corner of the window centred at (x, y)
abbrev pub corner_at : ℕ → ℕ → ℕ → ℕ → ℕ
corner_at w x y r = (y - r) * (w + 1) + (x - r)

-- from its cell i on, the table of f stands in a room, beginning at `off`
pub record TableFrom (room : List ℕ) (off i w h : ℕ) (f : ℕ → ℕ → ℕ) : Type 0 where
  pub long : off + cells w h ≤ length room
  pub same : (j : ℕ) → i ≤ j → j < cells w h → get_or room (off + j) 0 ≡ get_or (table_of w h f) j 0

-- the sum over a square of n · n pixels from a table's four corners, the first at index i, in rows of `side` cells
unfoldable pub corner_sum : List ℕ → ℕ → ℕ → ℕ → ℕ
corner_sum table side i n =
    get_or table (i + n * side + n) 0 - get_or table (i + n) 0 - (get_or table (i + n * side) 0 - get_or table i 0)

-- the four corners are there, and nothing is cut in their differences
pub record Corners (table : List ℕ) (side i n : ℕ) : Type 0 where
  pub last : i + n * side + n < length table
  pub right : get_or table (i + n) 0 ≤ get_or table (i + n * side + n) 0
  pub left : get_or table i 0 ≤ get_or table (i + n * side) 0
  pub both : get_or table (i + n * side) 0 - get_or table i 0 ≤ get_or table (i + n * side + n) 0 - get_or table (i + n) 0
