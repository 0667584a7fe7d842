-- A grey picture read between its pixels, step by step as the Rust has it, each operation in binary64
-- (docs/SPECIFICATION.md, "Grey picture"). Definitions only.
use Rattle.std.specs.Prelude.{ℕ, ◌+◌, ◌-◌, ◌*◌, ◌^◌, min, true, false, cond, ◌||◌, T, List, [], ◌∷◌, ◌++◌, length, pos, negsuc, is_nan, Float}
use Rattle.std.specs.Float.{fin}
use Rattle.std.specs.Float.Ieee.{lt, le, to_unsigned}
use Rattle.lists.specs.Rows.{level_at}
use Rattle.numbers.specs.Operators.{◌⊕◌, ◌⊖◌, ◌⊗◌, float}
use Rattle.refusals.specs.Answered.{Row, row, first_of}
use Rattle.refusals.specs.Steps.{Or}
use Rattle.refusals.specs.Outcome.{answer_for}
use Rattle.pictures.specs.declared.Place.{Place}
use Rattle.pictures.specs.Picture.{shape_rows}

-- 0.0 and 1.0
abbrev pub plus_zero : Float
plus_zero = fin false 0 (pos 0)

abbrev pub one : Float
one = fin false 1 (pos 0)

-- Rust's `x.clamp(low, high)`
unfoldable pub clamped : Float → Float → Float → Float
clamped x low high = let y = cond (lt x low) low x in cond (lt high y) high y

-- along a side of n pixels: the clamped coordinate's whole part, the next pixel but not past the last, and the next one's share
unfoldable pub place_of : ℕ → Float → Place
place_of n t =
    let c = clamped t plus_zero (float n ⊖ one) in
    let first = to_unsigned 64 c in
    record { first = first; next = min (first + 1) (n - 1); share = c ⊖ float first }

-- the four levels, each times its shares: products and sums go from left to right
unfoldable pub blended : Float → Float → Float → Float → Float → Float → Float
blended p00 p10 p01 p11 dx dy =
    p00 ⊗ (one ⊖ dx) ⊗ (one ⊖ dy)
    ⊕ p10 ⊗ dx ⊗ (one ⊖ dy)
    ⊕ p01 ⊗ (one ⊖ dx) ⊗ dy
    ⊕ p11 ⊗ dx ⊗ dy

-- the value at (xf, yf) of a picture that is not refused
unfoldable pub value_at : List ℕ → ℕ → ℕ → Float → Float → Float
value_at pic w h xf yf =
    let x = place_of w xf in
    let y = place_of h yf in
    let p : ℕ → ℕ → Float = λ (i j : ℕ). float (level_at w pic i j) in
    blended (p x.first y.first) (p x.next y.first) (p x.first y.next) (p x.next y.next) x.share y.share

-- of a reading: after the picture's rows 25 a coordinate is a NaN
abbrev pub reading_rows : ℕ → ℕ → ℕ → Float → Float → List Row
reading_rows bytes w h xf yf = shape_rows bytes w h ++ (row 25 (is_nan xf || is_nan yf) ∷ [])

-- what `bilinear` answers
unfoldable pub sample_of : List ℕ → ℕ → ℕ → Float → Float → Or Float
sample_of pic w h xf yf = answer_for (first_of (reading_rows (length pic) w h xf yf)) (value_at pic w h xf yf)

-- a coordinate that is the whole number x; minus zero is zero
pub data WholeAt : Float → ℕ → Type 0 where
  plain : (x : ℕ) → WholeAt (float x) x
  minus-zero : WholeAt (fin true 0 (pos 0)) 0

-- 255 and 2 ^ -31
abbrev pub most : Float
most = fin false (255 * 2 ^ 31 + 1) (negsuc 30)

-- the range of a reading: rounding can carry it a little above 255
pub record ReadingRange (v : Float) : Type 0 where
  pub low : T (le plus_zero v)
  pub high : T (le v most)
