-- The left-right test, in f32 (docs/SPECIFICATION.md, "Left-right test"). Definitions only.
use Rattle.std.specs.Prelude.{ℕ, ◌+◌, ◌*◌, ◌/◌, ◌%◌, Bool, false, cond, not, ◌&&◌, ◌||◌, List, length, pos, from_bits, slice_index_or, Float}
use Rattle.std.specs.Float.{nan, binary32}
use Rattle.std.specs.Float.Ieee.{of_int, sub, lt, le, to_unsigned}
use Rattle.std.specs.Float.Ieee.Scale.{finite}
use Rattle.lists.specs.Lists.{list_of}
use Rattle.numbers.specs.Plain.{magnitude_of}
use Rattle.numbers.specs.Away.{rounded_away}
use Rattle.maps.specs.declared.Cell.{Cell}
use Rattle.maps.specs.declared.Cell.TheVariants.{Mark, At}
use Rattle.maps.specs.Cells.{cell_of}

-- xr = round(x - d)
abbrev pub column : ℕ → Float → Float
column x d = rounded_away binary32 (sub binary32 (of_int binary32 (pos x)) d)

-- xr < 0 or xr ≥ w; minus zero is not below zero
abbrev pub outside : ℕ → Float → Bool
outside w xr = lt xr (from_bits binary32 0) || le (of_int binary32 (pos w)) xr

-- the right cell is valid, and not |d - dr| > limit
abbrev pub near : Float → Float → Cell → Bool
near limit d Mark = false
near limit d (At dr) = finite dr && not (lt limit (magnitude_of (sub binary32 d dr)))

-- the right map confirms d at pixel p: xr lies within the row, and its cell is near
unfoldable pub confirms : ℕ → Float → List Float → ℕ → Float → Bool
confirms w limit right p d =
    cond (outside w (column (p % w) d)) false
    (near limit d (cell_of (slice_index_or right (p / w * w + to_unsigned 64 (column (p % w) d)) nan)))

-- a valid cell that the right map does not confirm becomes the mark
unfoldable pub tested_cell : ℕ → Float → List Float → ℕ → Float → Float
tested_cell w limit right p d = cond (finite d && not (confirms w limit right p d)) nan d

-- the left map after the test
unfoldable pub left_right : ℕ → Float → List Float → List Float → List Float
left_right w limit left right = list_of (length left) (λ p. tested_cell w limit right p (slice_index_or left p nan))
