-- Coordinates about half a millimetre and about 100 m, worked out. Assumes nothing.
use mathlib.Core.Path.{◌≡◌, refl}
use mathlib.Core.Bool.{true, false}
use lib.IntN.{pos, negsuc}
use lib.Ieee.{Float, binary64, of_bits, of_fields, odd, mul, round, size, climb, span, units, to_signed}
use Rattle.numbers.specs.Away.{rounded_away}
use Rattle.volume.specs.Metres.{millimetres, good_coordinate}

-- 0.0005 and -0.0005, and the float below 0.0005
abbrev half : Float
half = of_bits binary64 0x3f40_624d_d2f1_a9fc

abbrev minus_half : Float
minus_half = of_bits binary64 0xbf40_624d_d2f1_a9fc

abbrev just_below_half : Float
just_below_half = of_bits binary64 0x3f40_624d_d2f1_a9fb

-- 100.0004 and 100.0005
abbrev within_size : Float
within_size = of_bits binary64 0x4059_0006_8db8_bac7

abbrev over_size : Float
over_size = of_bits binary64 0x4059_0008_3126_e979

pub record Examples : Type 0 where
  pub half_up : millimetres half ≡ pos 1
  pub half_down : millimetres minus_half ≡ negsuc 0
  pub below_half : millimetres just_below_half ≡ pos 0
  pub within-size : good_coordinate within_size ≡ true
  pub over-size : good_coordinate over_size ≡ false

pub examples : Examples
unfolding of_bits of_fields odd mul round size climb span units to_signed rounded_away millimetres good_coordinate
examples = record { half_up = refl; half_down = refl; below_half = refl; within-size = refl; over-size = refl }
