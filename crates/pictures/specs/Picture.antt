-- A grey picture is a list of bytes, row by row: what refuses it, and the level of one pixel
-- (docs/SPECIFICATION.md, "Grey picture"). Definitions only.
use Rattle.std.specs.Prelude.{ℕ, ◌*◌, ◌<◌, not, ◌&&◌, List, [], ◌∷◌, ◌++◌, length, ◌==◌, nat_lt, slice_index}
use Rattle.lists.specs.Rows.{level_at}
use Rattle.options.specs.Limits.{is_side}
use Rattle.refusals.specs.Answered.{Row, row, first_of}
use Rattle.refusals.specs.Steps.{Or}
use Rattle.refusals.specs.Outcome.{answer_for}

-- each number of the list is a byte
abbrev pub Bytes : List ℕ → Type 0
Bytes pic = (i : ℕ) → slice_index pic i < 256

-- of a picture: 1 a width or height outside its range, then 2 a byte count that is not w · h
abbrev pub shape_rows : ℕ → ℕ → ℕ → List Row
shape_rows bytes w h = row 1 (not (is_side w && is_side h)) ∷ row 2 (not (bytes == w * h)) ∷ []

-- of one pixel of it: after those 26 the pixel lies outside
abbrev pub level_rows : ℕ → ℕ → ℕ → ℕ → ℕ → List Row
level_rows bytes w h x y = shape_rows bytes w h ++ (row 26 (not (nat_lt x w && nat_lt y h)) ∷ [])

-- what `pixel` answers
unfoldable pub pixel_of : List ℕ → ℕ → ℕ → ℕ → ℕ → Or ℕ
pixel_of pic w h x y = answer_for (first_of (level_rows (length pic) w h x y)) (level_at w pic x y)
