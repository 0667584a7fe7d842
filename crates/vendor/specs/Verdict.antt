-- A vendor's map beside the raw costs of its pair (docs/SPECIFICATION.md, "Vendor's map"). Definitions only.
use Rattle.std.specs.Prelude.{ℕ, ◌*◌, ◌/◌, ◌%◌, Bool, false, cond, not, ◌&&◌, ◌||◌, List, get_or, Float}
use Rattle.std.specs.Float.{nan}
use Rattle.std.specs.Float.Ieee.{eq, lt}
use Rattle.std.specs.Float.Ieee.Scale.{finite}
use Rattle.lists.specs.Lists.{all_below, some_below, first_not}
use Rattle.options.specs.declared.BlockMatchOptions.{BlockMatchOptions}
use Rattle.options.specs.declared.RawCost.{RawCost}
use Rattle.options.specs.declared.RawCost.TheVariants.{Blank, Corr}
use Rattle.options.specs.declared.Side.TheVariants.{Left}
use Rattle.costs.specs.Raw.{raw_cost}
use Rattle.choices.specs.Subpixel.{disparity}
use Rattle.matching.specs.Maps.{half, search_of}
use Rattle.vendor.specs.declared.Check.{Check}
use Rattle.vendor.specs.declared.Verdict.{Verdict}
use Rattle.vendor.specs.declared.Verdict.TheVariants.{Yes, No}

-- what w by h pictures are checked by: half of the block's side, what is searched, and the least correlation; of the options no more is looked at
abbrev pub check_of : ℕ → ℕ → BlockMatchOptions → Check
check_of w h o = record { frame = record { w = w; h = h; r = half o }; search = search_of o; least = o.min_correlation }

-- the raw cost at (x, y) with index k, the left picture being the reference
abbrev pub cost_at : Check → List ℕ → List ℕ → ℕ → ℕ → ℕ → RawCost
cost_at q left right x y k = raw_cost Left q.frame.w q.frame.h q.frame.r q.search.first left right x y k

-- a raw cost beats c: it is not blank, and c is below it
abbrev pub beats : RawCost → Float → Bool
beats Blank c = false
beats (Corr u) c = lt c u

-- a raw cost is not blank, isn't below the least correlation, and is not beaten by that of any index; a tie beats nothing
abbrev pub stands : Float → ℕ → (ℕ → RawCost) → RawCost → Bool
stands least count costs Blank = false
stands least count costs (Corr c) = not (lt c least) && all_below count (λ k. not (beats (costs k) c))

-- the number v at (x, y) is a disparity of the searched range whose raw cost stands; minus zero equals 0
abbrev pub is_choice : Check → List ℕ → List ℕ → ℕ → ℕ → Float → Bool
is_choice q left right x y v =
    some_below q.search.count
    (λ k. eq v (disparity q.search k) && stands q.least q.search.count (cost_at q left right x y) (cost_at q left right x y k))

-- pixel p of the map passes: its cell is not valid, or it is such a disparity
unfoldable pub passes : Check → List ℕ → List ℕ → List Float → ℕ → Bool
passes q left right map p = not (finite (get_or map p nan)) || is_choice q left right (p % q.frame.w) (p / q.frame.w) (get_or map p nan)

-- the first pixel by rows that does not pass
abbrev pub first_bad : Check → List ℕ → List ℕ → List Float → ℕ
first_bad q left right map = first_not (q.frame.w * q.frame.h) (passes q left right map)

-- THE VERDICT: yes where every pixel passes, else no with column and row of the first that does not
unfoldable pub verdict_of : Check → List ℕ → List ℕ → List Float → Verdict
verdict_of q left right map =
    cond (all_below (q.frame.w * q.frame.h) (passes q left right map)) Yes (No (first_bad q left right map % q.frame.w) (first_bad q left right map / q.frame.w))
