-- The sizes allowed (docs/SPECIFICATION.md, "Sizes"). Definitions only.
use Rattle.std.specs.Prelude.{ℕ, ◌+◌, ◌%◌, Bool, false, ◌&&◌, ◌||◌, leb, ltb, eqb, pos, Float}
use Rattle.std.specs.Float.{fin}
use Rattle.std.specs.Float.Ieee.{le}

-- width and height
abbrev pub side_most : ℕ
side_most = 2048

-- a width or a height from 1 to that
abbrev pub is_side : ℕ → Bool
is_side n = leb 1 n && leb n side_most

-- the block's side
abbrev pub block_most : ℕ
block_most = 31

-- a block side that is zero or even
abbrev pub block_even : ℕ → Bool
block_even block = eqb (block % 2) 0

-- a block side over its limit
abbrev pub block_large : ℕ → Bool
block_large block = ltb block_most block

-- a picture, or a map, narrower or lower than the block
abbrev pub too_small : ℕ → ℕ → ℕ → Bool
too_small w h block = ltb w block || ltb h block

-- disparities searched
abbrev pub most_count : ℕ
most_count = 256

-- the first disparity, either sign
abbrev pub first_most : ℕ
first_most = 4096

-- a penalty: 1,024 as an f32
abbrev pub penalty_most : Float
penalty_most = fin false 1 (pos 10)

-- a penalty is a number from 0 to that; minus zero is one
abbrev pub is_penalty : Float → Bool
is_penalty p = le (fin false 0 (pos 0)) p && le p penalty_most

-- how far a target column can lie from the reference, either way: first + count
abbrev pub shift_most : ℕ
shift_most = first_most + most_count
