-- Block choice (docs/SPECIFICATION.md, "Block choice"). Definitions only.
use Rattle.std.specs.Prelude.{ℕ, ◌+◌, ◌*◌, Bool, false, cond, ◌||◌, List, map, Option, Some, None, nat_lt, slice_index_or, Float}
use Rattle.std.specs.Float.{nan, binary32}
use Rattle.std.specs.Float.Ieee.{lt, sub}
use Rattle.lists.specs.Lists.{list_of, walk}
use Rattle.options.specs.declared.RawCost.{RawCost}
use Rattle.options.specs.declared.RawCost.TheVariants.{Blank, Corr}
use Rattle.options.specs.Costs.{stored, raw_of}
use Rattle.options.specs.Frame.{inner}
use Rattle.maps.specs.declared.Cell.{Cell}
use Rattle.maps.specs.declared.Cell.TheVariants.{Mark, At}
use Rattle.choices.specs.declared.block.Best.{Best}
use Rattle.choices.specs.declared.block.Gates.{Gates}
use Rattle.choices.specs.declared.subpixel.Search.{Search}
use Rattle.choices.specs.Subpixel.{placed}

-- the raw costs of pixel p by index: `count` planes of `area` cells, one after the other
unfoldable pub costs_of : List Float → ℕ → ℕ → ℕ → List RawCost
costs_of raw area p count = list_of count (λ k. raw_of (slice_index_or raw (k * area + p) nan))

-- the best so far, or the cost with index k where that is larger: a tie goes to the smaller index
abbrev pub better : Option Best → ℕ → RawCost → Option Best
better b k Blank = b
better None k (Corr c) = Some (record { k = k; cost = c })
better (Some b) k (Corr c) = cond (lt b.cost c) (Some (record { k = k; cost = c })) (Some b)

-- the largest raw cost with its index, if there is one
unfoldable pub best_of : List RawCost → Option Best
best_of costs = walk better 0 None costs

-- the indices j and k are more than 1 apart
abbrev pub away : ℕ → ℕ → Bool
away j k = nat_lt (k + 1) j || nat_lt (j + 1) k

-- the best so far, where the cost with index k counts only if it is more than 1 away from j
abbrev pub rival : ℕ → Option Best → ℕ → RawCost → Option Best
rival j b k c = cond (away j k) (better b k c) b

-- the largest raw cost at indices more than 1 away from j, if there is one
unfoldable pub competitor : ℕ → List RawCost → Option Best
competitor j costs = walk (rival j) 0 None costs

-- there is a competitor, and best minus it is below the ratio
abbrev pub too_close : Float → Option Best → Float → Bool
too_close best None ratio = false
too_close best (Some second) ratio = lt (sub binary32 best second.cost) ratio

-- the gates, and where both let it pass the disparity
unfoldable pub gated : Search → Gates → List RawCost → Option Best → Cell
gated search gates costs None = Mark
gated search gates costs (Some best) =
    cond (lt best.cost gates.min_correlation) Mark
    (cond (too_close best.cost (competitor best.k costs) gates.uniqueness_ratio) Mark (At (placed search (map stored costs) best.k best.cost)))

-- block choice at one pixel, from its raw costs
unfoldable pub block_choice : Search → Gates → List RawCost → Cell
block_choice search gates costs = gated search gates costs (best_of costs)

-- block choice at pixel p of a w by h map: the mark in the frame of r pixels
unfoldable pub block_cell : ℕ → ℕ → ℕ → Search → Gates → List Float → ℕ → Cell
block_cell w h r search gates raw p = cond (inner w h r p) (block_choice search gates (costs_of raw (w * h) p search.count)) Mark

-- the map, row by row
unfoldable pub block_map : ℕ → ℕ → ℕ → Search → Gates → List Float → List Cell
block_map w h r search gates raw = list_of (w * h) (block_cell w h r search gates raw)
