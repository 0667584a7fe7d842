-- A pair and a vendor's map for each number and each verdict that can be answered of a check. Definitions only.
use Rattle.std.specs.Prelude.{ℕ, ◌≡◌, false, List, [], ◌∷◌, ◌++◌, ℤ, pos, replicate, Float}
use Rattle.std.specs.Float.{nan, inf}
use Rattle.options.specs.declared.BlockMatchOptions.{BlockMatchOptions}
use Rattle.options.specs.Options.{default_options}
use Rattle.calls.specs.declared.Call.{Call}
use Rattle.refusals.specs.Steps.{Or, is, refused}
use Rattle.vendor.specs.Verdict.{check_of, verdict_of}
use Rattle.refusals.specs.Outcome.{answer_for}
use Rattle.vendor.specs.declared.Verdict.{Verdict}
use Rattle.vendor.specs.declared.Verdict.TheVariants.{Yes, No}
use Rattle.vendor.specs.Outcome.{vendor_call, vendor_refusal}
use Rattle.promises.specs.Floats.{plus_zero, minus_zero, half, one, minus_one, two}

-- the first disparity, the count, the block's side and the least correlation; the rest as where none are given
abbrev pub searching : ℤ → ℤ → ℕ → Float → BlockMatchOptions
searching first count block least = record {
  min_disparity = first;
  num_disparities = count;
  block_size = block;
  min_correlation = least;
  uniqueness_ratio = default_options.uniqueness_ratio;
  lr_consistency = default_options.lr_consistency;
  lr_max_diff = default_options.lr_max_diff;
  subpixel = default_options.subpixel;
  mode = default_options.mode;
  sgm_p1 = default_options.sgm_p1;
  sgm_p2 = default_options.sgm_p2;
}

-- a left picture of nine bytes, so wide and so high, beside a right one of 3 by 3, and a room
abbrev pub asked : ℕ → ℕ → List ℕ → ℤ → ℤ → ℕ → ℕ → Call
asked w h right first count block room = vendor_call (replicate 9 0) w h right 3 3 (searching first count block half) room

-- what is given back of a call that is refused, for a map of n cells, so wide and so high: no level and no cell is looked at
abbrev pub refusing : Call → ℕ → ℕ → ℕ → Or Verdict
refusing q w h n = answer_for (vendor_refusal q w h n) Yes

-- three rows alike
abbrev pub thrice : {A : Type 0} → List A → List A
thrice row = row ++ row ++ row

-- 5 by 3, and the same moved left by a column: the windows centred in columns 2 and 3 show the same with disparity 1
abbrev pub left : List ℕ
left = thrice (10 ∷ 20 ∷ 40 ∷ 30 ∷ 50 ∷ [])

abbrev pub right : List ℕ
right = thrice (20 ∷ 40 ∷ 30 ∷ 50 ∷ 10 ∷ [])

-- the middle row of a map of 5 by 3, whose other rows are blank
abbrev pub middle : List Float → List Float
middle row = replicate 5 nan ++ row ++ replicate 5 nan

-- the verdict on such a map, with disparities 0 and 1, block 3 and a least correlation
abbrev pub judged : Float → List Float → Or Verdict
judged least map = is (verdict_of (check_of 5 3 (searching (pos 0) (pos 2) 3 least)) left right map)

-- 5 by 3, every other column alike: in column 3 disparities 0 and 2 show the same
abbrev pub striped : List ℕ
striped = thrice (10 ∷ 20 ∷ 10 ∷ 20 ∷ 10 ∷ [])

abbrev pub tied : List Float → Or Verdict
tied map = is (verdict_of (check_of 5 3 (searching (pos 0) (pos 3) 3 half)) striped striped map)

pub record VendorsReached : Type 0 where
  -- each refusal, where those after it apply too
  pub of-1 : refusing (asked 0 3 [] (pos 5000) (pos 0) 0 79) 2 2 8 ≡ refused 1
  pub of-2 : refusing (asked 3 3 [] (pos 5000) (pos 0) 0 79) 2 2 8 ≡ refused 2
  pub of-3 : refusing (asked 9 1 (replicate 9 0) (pos 5000) (pos 0) 0 79) 2 2 8 ≡ refused 3
  pub of-4 : refusing (asked 3 3 (replicate 9 0) (pos 5000) (pos 0) 32 79) 2 2 8 ≡ refused 4
  pub of-5 : refusing (asked 3 3 (replicate 9 0) (pos 5000) (pos 0) 33 79) 2 2 8 ≡ refused 5
  pub of-6 : refusing (asked 3 3 (replicate 9 0) (pos 5000) (pos 0) 5 79) 2 2 8 ≡ refused 6
  pub of-7 : refusing (asked 3 3 (replicate 9 0) (pos 5000) (pos 257) 5 79) 2 2 8 ≡ refused 7
  pub of-8 : refusing (asked 3 3 (replicate 9 0) (pos 5000) (pos 2) 5 79) 2 2 8 ≡ refused 8
  pub of-9 : refusing (asked 3 3 (replicate 9 0) (pos 5000) (pos 2) 3 79) 2 2 8 ≡ refused 9
  -- a map of another width, of another height, and of another length; then a room that is one cell too short
  pub of-23 : refusing (asked 3 3 (replicate 9 0) (pos 0) (pos 2) 3 79) 2 3 9 ≡ refused 23
  pub of-23-high : refusing (asked 3 3 (replicate 9 0) (pos 0) (pos 2) 3 79) 3 2 9 ≡ refused 23
  pub of-23-long : refusing (asked 3 3 (replicate 9 0) (pos 0) (pos 2) 3 79) 3 3 8 ≡ refused 23
  pub of-12 : refusing (asked 3 3 (replicate 9 0) (pos 0) (pos 2) 3 79) 3 3 9 ≡ refused 12
  pub accepted : vendor_refusal (asked 3 3 (replicate 9 0) (pos 0) (pos 2) 3 80) 3 3 9 ≡ 0
  -- what is right, a blank map, and a cell that is infinite, which is not valid
  pub right-one : judged half (middle (nan ∷ nan ∷ one ∷ one ∷ nan ∷ [])) ≡ is Yes
  pub blank-one : judged half (middle (replicate 5 nan)) ≡ is Yes
  pub infinite : judged half (middle (inf false ∷ nan ∷ one ∷ nan ∷ nan ∷ [])) ≡ is Yes
  -- beaten by the other index; blank, because the target's window leaves the picture; below the least correlation, and with a lower one not
  pub beaten : judged minus_one (middle (nan ∷ nan ∷ plus_zero ∷ one ∷ nan ∷ [])) ≡ is (No 2 1)
  pub no-cost : judged minus_one (middle (nan ∷ one ∷ one ∷ one ∷ nan ∷ [])) ≡ is (No 1 1)
  pub below : judged half (middle (nan ∷ plus_zero ∷ plus_zero ∷ one ∷ nan ∷ [])) ≡ is (No 1 1)
  pub enough : judged minus_one (middle (nan ∷ plus_zero ∷ one ∷ one ∷ nan ∷ [])) ≡ is Yes
  pub minus-zero : judged minus_one (middle (nan ∷ minus_zero ∷ one ∷ one ∷ nan ∷ [])) ≡ is Yes
  -- no disparity of the searched range, and no whole one; a pixel whose own window leaves the picture
  pub beyond : judged half (middle (nan ∷ nan ∷ one ∷ two ∷ nan ∷ [])) ≡ is (No 3 1)
  pub between : judged half (middle (nan ∷ nan ∷ one ∷ half ∷ nan ∷ [])) ≡ is (No 3 1)
  pub at-the-edge : judged half (middle (nan ∷ nan ∷ one ∷ one ∷ one ∷ [])) ≡ is (No 4 1)
  -- no number is below a least correlation that is not one
  pub no-least : judged nan (middle (nan ∷ plus_zero ∷ one ∷ one ∷ nan ∷ [])) ≡ is Yes
  -- a tie passes either way; the odd disparity does not
  pub tie-small : tied (middle (nan ∷ nan ∷ nan ∷ plus_zero ∷ nan ∷ [])) ≡ is Yes
  pub tie-large : tied (middle (nan ∷ nan ∷ nan ∷ two ∷ nan ∷ [])) ≡ is Yes
  pub not-tied : tied (middle (nan ∷ nan ∷ nan ∷ one ∷ nan ∷ [])) ≡ is (No 3 1)
