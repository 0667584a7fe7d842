-- The raw cost (docs/SPECIFICATION.md, "Raw cost"). Definitions only.
use Rattle.std.specs.Prelude.{ℕ, ◌+◌, ◌-◌, ◌*◌, Bool, cond, ◌||◌, List, eqb, ℤ, pos, negsuc, neg_ℤ, ◌+ℤ◌, Float}
use Rattle.std.specs.Float.{binary64}
use Rattle.std.specs.Float.Ieee.{mul, div, of_int}
use Rattle.numbers.specs.Root.{root_of}
use Rattle.numbers.specs.Narrow.{narrowed}
use Rattle.lists.specs.Lists.{all_below}
use Rattle.lists.specs.Rows.{level_at}
use Rattle.windows.specs.Table.{square_at, cross_at}
use Rattle.windows.specs.Window.{window_sum}
use Rattle.windows.specs.Moments.{variance_of, covariance_of}
use Rattle.options.specs.declared.RawCost.{RawCost}
use Rattle.options.specs.declared.RawCost.TheVariants.{Blank, Corr}
use Rattle.options.specs.declared.Side.{Side}
use Rattle.options.specs.declared.Side.TheVariants.{Left, Right}
use Rattle.options.specs.Frame.{within, is_in_frame}

-- n, the number of pixels of a window
abbrev pub pixels : ℕ → ℕ
pixels r = (2 * r + 1) * (2 * r + 1)

-- n·Saa - Sa² of the window centred at (x, y)
unfoldable pub window_var : ℕ → List ℕ → ℕ → ℕ → ℕ → ℕ
window_var w a x y r = variance_of (pixels r) (window_sum (level_at w a) x y r) (window_sum (square_at w a) x y r)

-- n·Sab - Sa·Sb of the window centred at (x, y) of a and the one centred at (x', y) of b, which lies s columns further right
unfoldable pub window_cov : ℕ → List ℕ → List ℕ → ℤ → ℕ → ℕ → ℕ → ℕ → ℤ
window_cov w a b s x x' y r =
    covariance_of (pixels r) (window_sum (level_at w a) x y r) (window_sum (level_at w b) x' y r) (window_sum (cross_at w a b s) x y r)

-- the window centred at (x, y) shows a single level: each of its pixels has the level of the first
unfoldable pub one_level : ℕ → List ℕ → ℕ → ℕ → ℕ → Bool
one_level w a x y r =
    all_below (2 * r + 1) (λ j. all_below (2 * r + 1) (λ i. eqb (level_at w a (x - r + i) (y - r + j)) (level_at w a (x - r) (y - r))))

-- cov / (root varA · root varB) in f64, each step rounded once, narrowed to f32
unfoldable pub correlation : ℤ → ℕ → ℕ → Float
correlation cov va vb = narrowed (div binary64 (of_int binary64 cov) (mul binary64 (root_of va) (root_of vb)))

-- of two windows: blank where either shows a single level
unfoldable pub pair_cost : ℕ → ℕ → List ℕ → List ℕ → ℤ → ℕ → ℕ → ℕ → RawCost
pair_cost w r a b s x x' y =
    cond (one_level w a x y r || one_level w b x' y r) Blank
    (Corr (correlation (window_cov w a b s x x' y r) (window_var w a x y r) (window_var w b x' y r)))

-- of the window centred at (x, y) and the one in the target column: blank where that window leaves the picture
unfoldable pub target_cost : ℕ → ℕ → List ℕ → List ℕ → ℤ → ℕ → ℕ → ℤ → RawCost
target_cost w r a b s x y (negsuc _) = Blank
target_cost w r a b s x y (pos x') = cond (within w r x') (pair_cost w r a b s x x' y) Blank

-- of the reference a at (x, y) and the target b, s columns further right: blank outside the inner frame
unfoldable pub shifted_cost : ℕ → ℕ → ℕ → List ℕ → List ℕ → ℤ → ℕ → ℕ → RawCost
shifted_cost w h r a b s x y = cond (is_in_frame w h r x y) (target_cost w r a b s x y (pos x +ℤ s)) Blank

-- d = first + k; the target column is x - d when the left picture is the reference, x + d when the right is
abbrev pub shift_of : Side → ℤ → ℕ → ℤ
shift_of Left first k = neg_ℤ (first +ℤ pos k)
shift_of Right first k = first +ℤ pos k

abbrev pub reference_of : Side → List ℕ → List ℕ → List ℕ
reference_of Left left right = left
reference_of Right left right = right

abbrev pub target_of : Side → List ℕ → List ℕ → List ℕ
target_of Left left right = right
target_of Right left right = left

-- THE RAW COST at (x, y) with index k, from the given side
unfoldable pub raw_cost : Side → ℕ → ℕ → ℕ → ℤ → List ℕ → List ℕ → ℕ → ℕ → ℕ → RawCost
raw_cost side w h r first left right x y k =
    shifted_cost w h r (reference_of side left right) (target_of side left right) (shift_of side first k) x y
