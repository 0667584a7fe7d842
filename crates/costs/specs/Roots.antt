-- The tables of a picture: the sum of each window's levels and the root of its variance, at the index of the window's top left corner. Definitions only.
use Rattle.std.specs.Prelude.{ℕ, ◌+◌, ◌*◌, ◌/◌, ◌%◌, cond, ◌&&◌, List, ◌++◌, ltb, eqb}
use Rattle.std.specs.Float.{binary64}
use Rattle.std.specs.Float.Ieee.{to_bits}
use Rattle.numbers.specs.Root.{root_of}
use Rattle.lists.specs.Lists.{list_of}
use Rattle.lists.specs.Rows.{level_at}
use Rattle.windows.specs.Window.{window_sum}
use Rattle.costs.specs.Raw.{window_var}

-- the bits of the root of a variance, 0 for 0
unfoldable pub root_bits : ℕ → ℕ
root_bits v = cond (eqb v 0) 0 (to_bits binary64 (root_of v))

-- f of the window whose first pixel is in column c and row t, and 0 where none fits; f takes the window's centre
unfoldable pub window_at : ℕ → ℕ → ℕ → (ℕ → ℕ → ℕ) → ℕ → ℕ → ℕ
window_at w h r f c t = cond (ltb (c + 2 * r) w && ltb (t + 2 * r) h) (f (c + r) (t + r)) 0

-- the cell i of a table of w + 1 columns
abbrev pub window_cell : ℕ → ℕ → ℕ → (ℕ → ℕ → ℕ) → ℕ → ℕ
window_cell w h r f i = window_at w h r f (i % (w + 1)) (i / (w + 1))

-- all of them: as many cells as a table has
unfoldable pub window_table : ℕ → ℕ → ℕ → (ℕ → ℕ → ℕ) → List ℕ
window_table w h r f = list_of ((w + 1) * (h + 1)) (window_cell w h r f)

-- the sum of a window's levels
abbrev pub sum_in : ℕ → ℕ → List ℕ → ℕ → ℕ → ℕ
sum_in w r pic x y = window_sum (level_at w pic) x y r

-- the bits of the root of a window's variance
abbrev pub root_in : ℕ → ℕ → List ℕ → ℕ → ℕ → ℕ
root_in w r pic x y = root_bits (window_var w pic x y r)

-- what the room holds of a picture: its sums, and its roots
unfoldable pub picture_tables : ℕ → ℕ → ℕ → List ℕ → List ℕ
picture_tables w h r pic = window_table w h r (sum_in w r pic) ++ window_table w h r (root_in w r pic)
