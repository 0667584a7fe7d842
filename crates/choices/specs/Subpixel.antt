-- Sub-pixel, all in f32 (docs/SPECIFICATION.md, "Sub-pixel"). Definitions only.
use Rattle.std.specs.Prelude.{ℕ, ◌+◌, ◌-◌, Bool, cond, ◌&&◌, List, pos, ◌+ℤ◌, from_bits, nat_lt, slice_index_or, Float}
use Rattle.std.specs.Float.{nan, binary32}
use Rattle.std.specs.Float.Ieee.{of_int, add, sub, mul, div, lt}
use Rattle.std.specs.Float.Ieee.Scale.{finite}
use Rattle.numbers.specs.Plain.{magnitude_of}
use Rattle.choices.specs.declared.subpixel.Search.{Search}

abbrev pub one_half : Float
one_half = from_bits binary32 0x3f00_0000

abbrev pub one : Float
one = from_bits binary32 0x3f80_0000

abbrev pub two : Float
two = from_bits binary32 0x4000_0000

-- 1e-6
abbrev pub millionth : Float
millionth = from_bits binary32 0x3586_37bd

-- (cm + cp) - 2 best
unfoldable pub denom : Float → Float → Float → Float
denom cm best cp = sub binary32 (add binary32 cm cp) (mul binary32 two best)

-- (0.5 (cm - cp)) / denom
unfoldable pub delta : Float → Float → Float → Float
delta cm best cp = div binary32 (mul binary32 one_half (sub binary32 cm cp)) (denom cm best cp)

-- delta is added to d where both neighbours are finite, |denom| > 1e-6 and |delta| < 1
unfoldable pub refined : Float → Float → Float → Float → Float
refined d cm best cp =
    cond
    (finite cm && finite cp && lt millionth (magnitude_of (denom cm best cp)) && lt (magnitude_of (delta cm best cp)) one)
    (add binary32 d (delta cm best cp))
    d

-- first + k
abbrev pub disparity : Search → ℕ → Float
disparity search k = of_int binary32 (search.first +ℤ pos k)

-- sub-pixel is on, and 0 < k < count - 1
abbrev pub has_sides : Search → ℕ → Bool
has_sides search k = search.subpixel && nat_lt 0 k && nat_lt (k + 1) search.count

-- the disparity with index k, whose number is `best`, by the numbers of all indices, raw costs or sums, as they lie in a buffer
unfoldable pub placed : Search → List Float → ℕ → Float → Float
placed search numbers k best =
    cond (has_sides search k)
    (refined (disparity search k) (slice_index_or numbers (k - 1) nan) best (slice_index_or numbers (k + 1) nan))
    (disparity search k)
