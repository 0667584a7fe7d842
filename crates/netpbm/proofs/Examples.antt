-- Files of Netpbm's own tools, read by the definitions, and a map written by them. Assumes nothing.
use Prim.Native.Nat.{ℕ}
use mathlib.Core.Path.{◌≡◌, refl}
use mathlib.Core.Bool.{true, false}
use mathlib.Core.List.{List, [], ◌∷◌}
use lib.IntN.{pos}
use lib.Ieee.{nan, inf, fin, binary32, to_bits, of_bits, of_fields, odd, size, climb, span}
use Rattle.lists.specs.Rows.{bottom_up}
use Rattle.refusals.specs.Answered.{first_of}
use Rattle.refusals.specs.Steps.{is}
use Rattle.texts.specs.Digits.{decimal_text}
use Rattle.maps.specs.Map.{good_size}
use Rattle.netpbm.specs.Header.{starts_with, take_word, take_white, after_blanks, take_blanks, digits_of, take_number, take_spaced, take_ended}
use Rattle.netpbm.specs.Order.{low_bytes, pattern_of, four_bytes_of, four_pattern}
use Rattle.netpbm.specs.Raster.{sized}
use Rattle.netpbm.specs.Pgm.{take_pgm_head, read_pgm}
use Rattle.netpbm.specs.Pfm.{cell_bytes, cells_bytes, pfm_head, pfm_of, take_sign, take_fraction, take_scale, take_pfm_head, file_cell, file_cells, read_pfm}

-- `pgmramp -tb 1 3`: one column, dark at the top
abbrev ramp : List ℕ
ramp = 0x50 ∷ 0x35 ∷ 0x0a ∷ 0x31 ∷ 0x20 ∷ 0x33 ∷ 0x0a ∷ 0x32 ∷ 0x35 ∷ 0x35 ∷ 0x0a ∷ 0x00 ∷ 0x7f ∷ 0xff ∷ []

pub ramp-read : read_pgm ramp ≡ is (record { width = 1; height = 3; cells = 0 ∷ 127 ∷ 255 ∷ [] })
unfolding read_pgm take_pgm_head take_word starts_with take_spaced take_blanks after_blanks take_number digits_of take_white sized
ramp-read = refl

-- the same through `pamtopfm -endian big`: its scale is `1.000000`, and the bottom row comes first
abbrev ramp_big : List ℕ
ramp_big =
    0x50 ∷ 0x66 ∷ 0x0a ∷ 0x31 ∷ 0x20 ∷ 0x33 ∷ 0x0a ∷ 0x31 ∷ 0x2e ∷ 0x30 ∷ 0x30 ∷ 0x30 ∷ 0x30 ∷ 0x30 ∷ 0x30 ∷ 0x0a
    ∷ 0x3f ∷ 0x80 ∷ 0x00 ∷ 0x00 ∷ 0x3e ∷ 0xfe ∷ 0xff ∷ 0x00 ∷ 0x00 ∷ 0x00 ∷ 0x00 ∷ 0x00 ∷ []

pub ramp-big-read : read_pfm ramp_big ≡ is (record { width = 1; height = 3; cells = of_bits binary32 0 ∷ of_bits binary32 0x3efeff00 ∷ of_bits binary32 0x3f800000 ∷ [] })
unfolding read_pfm take_pfm_head take_word starts_with take_ended take_scale take_sign take_fraction take_number digits_of sized bottom_up file_cells file_cell four_pattern pattern_of of_bits of_fields odd
ramp-big-read = refl

-- the same with `-endian little -scale 2.5`, which scales the numbers too
abbrev ramp_little : List ℕ
ramp_little =
    0x50 ∷ 0x66 ∷ 0x0a ∷ 0x31 ∷ 0x20 ∷ 0x33 ∷ 0x0a ∷ 0x2d ∷ 0x32 ∷ 0x2e ∷ 0x35 ∷ 0x30 ∷ 0x30 ∷ 0x30 ∷ 0x30 ∷ 0x30 ∷ 0x0a
    ∷ 0x00 ∷ 0x00 ∷ 0x20 ∷ 0x40 ∷ 0x60 ∷ 0x5f ∷ 0x9f ∷ 0x3f ∷ 0x00 ∷ 0x00 ∷ 0x00 ∷ 0x00 ∷ []

pub ramp-little-read : read_pfm ramp_little ≡ is (record { width = 1; height = 3; cells = of_bits binary32 0 ∷ of_bits binary32 0x3f9f5f60 ∷ of_bits binary32 0x40200000 ∷ [] })
unfolding read_pfm take_pfm_head take_word starts_with take_ended take_scale take_sign take_fraction take_number digits_of sized bottom_up file_cells file_cell four_pattern pattern_of of_bits of_fields odd
ramp-little-read = refl

-- a map of two rows: 1 and the mark above, minus infinity and minus zero below, which is written first
pub map-written :
    pfm_of 2 2 (fin false 1 (pos 0) ∷ nan ∷ inf true ∷ fin true 0 (pos 0) ∷ [])
    ≡ is (0x50 ∷ 0x66 ∷ 0x0a ∷ 0x32 ∷ 0x20 ∷ 0x32 ∷ 0x0a ∷ 0x2d ∷ 0x31 ∷ 0x2e ∷ 0x30 ∷ 0x0a
    ∷ 0x00 ∷ 0x00 ∷ 0x80 ∷ 0xff ∷ 0x00 ∷ 0x00 ∷ 0x00 ∷ 0x80 ∷ 0x00 ∷ 0x00 ∷ 0x80 ∷ 0x3f ∷ 0x00 ∷ 0x00 ∷ 0x80 ∷ 0x7f ∷ [])
unfolding pfm_of first_of good_size pfm_head decimal_text bottom_up cells_bytes cell_bytes four_bytes_of low_bytes to_bits size climb span
map-written = refl
