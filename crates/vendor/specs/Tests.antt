-- How the cells are tested: each against one raw cost at a time. Definitions only.
use Rattle.std.specs.Prelude.{ℕ, ◌/◌, ◌%◌, Bool, true, false, cond, not, ◌||◌, List, Option, Some, None, ltb, ℤ, pos, negsuc, ◌+ℤ◌, get_or, Float}
use Rattle.std.specs.Bool.{then_some}
use Rattle.std.specs.Float.{nan}
use Rattle.std.specs.Float.Ieee.{eq, lt, le}
use Rattle.std.specs.Float.Ieee.Scale.{finite}
use Rattle.options.specs.declared.RawCost.{RawCost}
use Rattle.options.specs.declared.RawCost.TheVariants.{Blank, Corr}
use Rattle.options.specs.declared.Side.TheVariants.{Left}
use Rattle.options.specs.Frame.{within, is_in_frame}
use Rattle.costs.specs.Raw.{shift_of}
use Rattle.choices.specs.declared.subpixel.Search.{Search}
use Rattle.choices.specs.Subpixel.{disparity}
use Rattle.vendor.specs.declared.Check.{Check}
use Rattle.vendor.specs.declared.cells.Question.{Question}
use Rattle.vendor.specs.declared.cells.Question.TheVariants.{Fit, Unbeaten}
use Rattle.lists.specs.Lists.{first_not}
use Rattle.vendor.specs.Verdict.{cost_at}

-- how far right of x the target column lies with index k
abbrev pub shift_at : Check → ℕ → ℤ
shift_at q k = shift_of Left q.search.first k

-- a column, if a window lies there within a row of w pixels
unfoldable pub column_in : ℕ → ℕ → ℤ → Option ℕ
column_in w r (negsuc _) = None
column_in w r (pos x) = then_some (within w r x) x

-- the target column of (x, y) with index k, if both windows lie within their pictures
unfoldable pub target_of : Check → ℕ → ℕ → ℕ → Option ℕ
target_of q x y k = cond (is_in_frame q.frame.w q.frame.h q.frame.r x y) (column_in q.frame.w q.frame.r (pos x +ℤ shift_at q k)) None

-- an index, if it is one of n
abbrev pub index_below : ℕ → ℕ → Option ℕ
index_below n i = then_some (ltb i n) i

-- the index of the disparity that a number is, if it is one of the searched range
unfoldable pub index_named : Search → Float → Option ℕ
index_named search v = index_below search.count (first_not search.count (λ k. not (eq v (disparity search k))))

-- the raw cost with an index, and blank where there is none
abbrev pub cost_if : Check → List ℕ → List ℕ → ℕ → ℕ → Option ℕ → RawCost
cost_if q left right x y None = Blank
cost_if q left right x y (Some k) = cost_at q left right x y k

-- the raw cost of the disparity that a number is, and blank where it is none
unfoldable pub own_cost : Check → List ℕ → List ℕ → ℕ → ℕ → Float → RawCost
own_cost q left right x y v = cost_if q left right x y (index_named q.search v)

-- not blank, and not below a number
abbrev pub is_fit : Float → RawCost → Bool
is_fit least Blank = false
is_fit least (Corr own) = not (lt own least)

-- a raw cost does not beat another, which is fit: one that is blank or not above the least correlation cannot
abbrev pub is_unbeaten : Float → RawCost → RawCost → Bool
is_unbeaten least own Blank = true
is_unbeaten least own (Corr c) = le c least || is_fit c own

-- what a valid number is asked: whether its own raw cost is fit; and whether that of index k does not beat it
abbrev pub holds : Check → List ℕ → List ℕ → ℕ → ℕ → Question → Float → Bool
holds q left right x y Fit v = is_fit q.least (own_cost q left right x y v)
holds q left right x y (Unbeaten k) v = is_unbeaten q.least (own_cost q left right x y v) (cost_at q left right x y k)

-- what pixel p of a map is asked; one that is not valid passes
unfoldable pub holds_at : Check → List ℕ → List ℕ → Question → List Float → ℕ → Bool
holds_at q left right question map p = not (finite (get_or map p nan)) || holds q left right (p % q.frame.w) (p / q.frame.w) question (get_or map p nan)
