-- The worked examples P1 to P12, and the map that the print program shows: one table (docs/SPECIFICATION.md, "Worked examples"). Definitions only.
use Rattle.std.specs.Prelude.{ℕ, ◌+◌, ◌^◌, ◌≡◌, true, false, List, [], ◌∷◌, ◌++◌, map, Some, None, pos, negsuc, Float}
use Rattle.std.specs.Float.{fin, binary32, binary64}
use Rattle.std.specs.Float.Ieee.{to_bits, to_unsigned}
use Rattle.numbers.specs.Root.{root_of}
use Rattle.numbers.specs.Narrow.{narrowed}
use Rattle.numbers.specs.Away.{rounded_away}
use Rattle.options.specs.Costs.{stored}
use Rattle.costs.specs.Raw.{window_var, window_cov}
use Rattle.choices.specs.LeftRight.{column, outside}
use Rattle.choices.specs.Subpixel.{placed}
use Rattle.points.specs.Point.{point_of}
use Rattle.matching.specs.Maps.{map_of}
use Rattle.worked.specs.Pictures.{rows147, rows472, rows725, f32, f64, quarter, one, eight, eight_costs, camera, print_left, print_right, print_options}

-- 1, 3 and minus zero, in either format
abbrev pub plain_one : Float
plain_one = fin false 1 (pos 0)

abbrev pub plain_three : Float
plain_three = fin false 3 (pos 0)

abbrev pub minus_zero : Float
minus_zero = fin true 0 (pos 0)

-- the bits of the printed map: the mark is 7FC00000, and 1 is 3F800000
abbrev pub marks : List ℕ
marks = 0x7fc0_0000 ∷ 0x7fc0_0000 ∷ 0x7fc0_0000 ∷ 0x7fc0_0000 ∷ 0x7fc0_0000 ∷ []

abbrev pub printed : List ℕ
printed = marks ++ (0x7fc0_0000 ∷ 0x7fc0_0000 ∷ 0x3f80_0000 ∷ 0x3f80_0000 ∷ 0x7fc0_0000 ∷ []) ++ marks

pub record Examples : Type 0 where
  -- root 1 is 1, and the roots of 2 and 3
  pub p1 : root_of 1 ≡ plain_one
  pub p2 : to_bits binary64 (root_of 2) ≡ 0x3ff6_a09e_667f_3bcd
  pub p3 : to_bits binary64 (root_of 3) ≡ 0x3ffb_b67a_e858_4caa
  -- narrowing 1 + 2^-24 gives 1, and 1 + 3·2^-24 gives 1 + 2^-22
  pub p4 : narrowed (fin false (2 ^ 24 + 1) (negsuc 23)) ≡ plain_one
  pub p5 : narrowed (fin false (2 ^ 24 + 3) (negsuc 23)) ≡ fin false (2 ^ 22 + 1) (negsuc 21)
  -- round -0.5 is -1, round 2.5 is 3
  pub p6 : rounded_away binary32 (fin true 1 (negsuc 0)) ≡ fin true 1 (pos 0)
  pub p7 : rounded_away binary32 (fin false 5 (negsuc 0)) ≡ plain_three
  -- round -0.25 is minus zero, so with d 0.25 at x = 0 the left-right test looks up column 0, which even a row of one pixel has
  pub p8 : rounded_away binary32 (fin true 1 (negsuc 1)) ≡ minus_zero
  pub p8-xr : column 0 quarter ≡ minus_zero
  pub p8-inside : outside 1 (column 0 quarter) ≡ false
  pub p8-column : to_unsigned 64 (column 0 quarter) ≡ 0
  -- three rows 1 4 7: var 486; rows 4 7 2 against 7 2 5: cov -234
  pub p9 : window_var 3 rows147 1 1 1 ≡ 486
  pub p10 : window_cov 3 rows472 rows725 (pos 0) 1 1 1 1 ≡ negsuc 233
  -- k = 3, first 0, count 8, cm 0.25, best 1, cp 0.75: 3.25
  pub p11 : placed eight (map stored eight_costs) 3 one ≡ f32 0x4050_0000
  -- pixel (360, 200), d 4: (1.25, -1.25, 25); d 0: no point
  pub p12 : point_of camera (f64 360) (f64 200) (f64 4) ≡ Some (record { x = fin false 5 (negsuc 1); y = fin true 5 (negsuc 1); z = f64 25 })
  pub p12-none : point_of camera (f64 360) (f64 200) (f64 0) ≡ None
  -- the printed map, and the same with left-right on
  pub print : map (to_bits binary32) (map_of 5 3 (print_options false) print_left print_right) ≡ printed
  pub print-left-right : map (to_bits binary32) (map_of 5 3 (print_options true) print_left print_right) ≡ printed
