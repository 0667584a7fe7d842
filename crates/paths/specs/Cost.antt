-- The matching cost, and the costs of one picture as the other sees them (docs/SPECIFICATION.md, "Path costs"). Definitions only.
use Rattle.std.specs.Prelude.{ℕ, ◌+◌, ◌*◌, ◌/◌, ◌%◌, ◌≤◌, false, List, ℤ, pos, nat_abs, get_or, Float}
use Rattle.std.proofs.Math.IntN.{sub_ℕ}
use Rattle.std.specs.Float.{nan, fin, binary32}
use Rattle.std.specs.Float.Ieee.{sub}
use Rattle.lists.specs.Lists.{list_of}
use Rattle.lists.specs.Turned.{in_row, column_left}
use Rattle.options.specs.declared.RawCost.{RawCost}
use Rattle.options.specs.declared.RawCost.TheVariants.{Blank, Corr}
use Rattle.options.specs.Costs.{raw_of, one}
use Rattle.options.specs.Limits.{side_most, most_count, first_most}

-- 2 as an f32
abbrev pub two : Float
two = fin false 1 (pos 1)

-- 1 - raw, or 2 for blank
abbrev pub matching_cost : RawCost → Float
matching_cost Blank = two
matching_cost (Corr v) = sub binary32 one v

-- the matching costs of every pixel, of a raw volume: index k of pixel p is cell k * area + p there and cell p * count + k here
unfoldable pub matching_costs : ℕ → ℕ → List Float → List Float
matching_costs area count volume = list_of (area * count) (λ i. matching_cost (raw_of (get_or volume (i % count * area + i / count) nan)))

-- those of n pixels from pixel p on
unfoldable pub costs_from : ℕ → ℕ → ℕ → ℕ → List Float → List Float
costs_from area count p n volume = list_of (n * count) (λ i. matching_cost (raw_of (get_or volume (i % count * area + (p + i / count)) nan)))

-- index k of pixel p for the other picture: the cost with that index in the column first + k to the left in the same row, and blank's where the row has none
unfoldable pub turned_cost : ℕ → ℤ → ℕ → List Float → ℕ → ℕ → Float
turned_cost w first count costs p k = in_row two w (column_left w first k p) (λ x. get_or costs ((p / w * w + x) * count + k) nan)

-- the costs for the other picture, of every pixel
unfoldable pub turned_costs : ℕ → ℕ → ℤ → ℕ → List Float → List Float
turned_costs w h first count costs = list_of (w * h * count) (λ i. turned_cost w first count costs (i / count) (i % count))

-- the sizes at which no number on the way is too large
pub record Turnable (w count : ℕ) (first : ℤ) : Type 0 where
  pub w-most : w ≤ side_most
  pub count_most : count ≤ most_count
  pub first-most : nat_abs first ≤ first_most

-- index k of a pixel for the other picture, where `row` has the costs of its row and its column is far - first_most + first: both columns are counted
-- from so far to the left that neither is negative
unfoldable pub turned_at : ℕ → ℕ → ℕ → List Float → ℕ → Float
turned_at w count far row k = in_row two w (sub_ℕ far (first_most + k)) (λ x. get_or row (x * count + k) nan)

-- the cells of a row for the other picture, where first_most - first is `shift`
unfoldable pub turned_row : ℕ → ℕ → ℕ → List Float → List Float
turned_row w count shift row = list_of (w * count) (λ i. turned_at w count (i / count + shift) row (i % count))
