-- What the worked examples are given (docs/SPECIFICATION.md, "Worked examples"). Definitions only.
use Rattle.std.specs.Prelude.{ℕ, Bool, true, false, List, [], ◌∷◌, ◌++◌, pos, negsuc, Float}
use Rattle.std.specs.Float.{fin, binary32, binary64}
use Rattle.std.specs.Float.Ieee.{of_bits, of_int}
use Rattle.options.specs.declared.BlockMatchOptions.{BlockMatchOptions}
use Rattle.options.specs.declared.Mode.TheVariants.{Block}
use Rattle.options.specs.declared.RawCost.{RawCost}
use Rattle.options.specs.declared.RawCost.TheVariants.{Blank, Corr}
use Rattle.options.specs.Options.{default_options}
use Rattle.choices.specs.declared.subpixel.Search.{Search}
use Rattle.points.specs.declared.Intrinsics.{Intrinsics}

-- three rows alike
abbrev pub three_rows : List ℕ → List ℕ
three_rows row = row ++ row ++ row

-- P9 and P10: 3 by 3 pictures
abbrev pub rows147 : List ℕ
rows147 = three_rows (1 ∷ 4 ∷ 7 ∷ [])

abbrev pub rows472 : List ℕ
rows472 = three_rows (4 ∷ 7 ∷ 2 ∷ [])

abbrev pub rows725 : List ℕ
rows725 = three_rows (7 ∷ 2 ∷ 5 ∷ [])

-- a whole number as an f64
abbrev pub f64 : ℕ → Float
f64 n = of_int binary64 (pos n)

-- an f32 by its bits
abbrev pub f32 : ℕ → Float
f32 bits = of_bits binary32 bits

abbrev pub quarter : Float
quarter = f32 0x3e80_0000

abbrev pub three_quarters : Float
three_quarters = f32 0x3f40_0000

abbrev pub one : Float
one = f32 0x3f80_0000

-- P11: first 0, count 8, and at indices 2 to 4 cm 0.25, best 1 and cp 0.75
abbrev pub eight : Search
eight = record { first = pos 0; count = 8; subpixel = true }

abbrev pub eight_costs : List RawCost
eight_costs = Blank ∷ Blank ∷ Corr quarter ∷ Corr one ∷ Corr three_quarters ∷ Blank ∷ Blank ∷ Blank ∷ []

-- P12: fx = fy = 800, cx 320, cy 240, baseline 0.125
abbrev pub camera : Intrinsics
camera = record { fx = f64 800; fy = f64 800; cx = f64 320; cy = f64 240; baseline = fin false 1 (negsuc 2) }

-- the print program's example: 5 by 3 pictures
abbrev pub print_left : List ℕ
print_left = three_rows (9 ∷ 1 ∷ 4 ∷ 7 ∷ 2 ∷ [])

abbrev pub print_right : List ℕ
print_right = three_rows (1 ∷ 4 ∷ 7 ∷ 2 ∷ 5 ∷ [])

-- and its line `5 3 0 2 3 0 0 0`: first 0, count 2, block 3, semi-global, left-right and sub-pixel off; the others are the defaults
abbrev pub print_options : Bool → BlockMatchOptions
print_options left_right = record {
  min_disparity = pos 0;
  num_disparities = pos 2;
  block_size = 3;
  min_correlation = default_options.min_correlation;
  uniqueness_ratio = default_options.uniqueness_ratio;
  lr_consistency = left_right;
  lr_max_diff = default_options.lr_max_diff;
  subpixel = false;
  mode = Block;
  sgm_p1 = default_options.sgm_p1;
  sgm_p2 = default_options.sgm_p2;
}
