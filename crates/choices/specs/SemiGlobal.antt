-- Semi-global choice, on the sums of path costs (docs/SPECIFICATION.md, "Semi-global choice"). Definitions only.
use Rattle.std.specs.Prelude.{ℕ, ◌+◌, ◌*◌, false, cond, List, slice_index_or, Float}
use Rattle.std.specs.Float.{nan, inf}
use Rattle.std.specs.Float.Ieee.{lt}
use Rattle.lists.specs.Lists.{list_of, walk}
use Rattle.options.specs.Frame.{inner}
use Rattle.maps.specs.declared.Cell.{Cell}
use Rattle.maps.specs.declared.Cell.TheVariants.{Mark, At}
use Rattle.choices.specs.declared.semi_global.Least.{Least}
use Rattle.choices.specs.declared.subpixel.Search.{Search}
use Rattle.choices.specs.Subpixel.{placed}

-- the sums of pixel p by index: `count` cells in a row for each pixel
unfoldable pub sums_of : List Float → ℕ → ℕ → List Float
sums_of sums count p = list_of count (λ k. slice_index_or sums (p * count + k) nan)

-- the least so far, or the sum with index k where that is less: a tie goes to the smaller index
abbrev pub lesser : Least → ℕ → Float → Least
lesser s k c = cond (lt c s.sum) (record { k = k; sum = c }) s

-- the least sum with its index, from infinity at index 0
unfoldable pub least_of : List Float → Least
least_of sums = walk lesser 0 (record { k = 0; sum = inf false }) sums

-- semi-global choice at one pixel, from its sums
unfoldable pub semi_choice : Search → List Float → Cell
semi_choice search sums = At (placed search sums (least_of sums).k (least_of sums).sum)

-- semi-global choice at pixel p of a w by h map: the mark in the frame of r pixels
unfoldable pub semi_cell : ℕ → ℕ → ℕ → Search → List Float → ℕ → Cell
semi_cell w h r search sums p = cond (inner w h r p) (semi_choice search (sums_of sums search.count p)) Mark

-- the map, row by row
unfoldable pub semi_map : ℕ → ℕ → ℕ → Search → List Float → List Cell
semi_map w h r search sums = list_of (w * h) (semi_cell w h r search sums)
