-- Holes, and semi-global choice that keeps them: what the begun request of docs/W-207-begun.patch asks. Definitions only.
use Rattle.std.specs.Prelude.{ℕ, ◌+◌, ◌*◌, Bool, true, false, cond, List, pos, get_or, Float}
use Rattle.std.specs.Float.{nan, fin}
use Rattle.lists.specs.Lists.{list_of, all_below}
use Rattle.options.specs.declared.RawCost.{RawCost}
use Rattle.options.specs.declared.RawCost.TheVariants.{Blank, Corr}
use Rattle.options.specs.Costs.{raw_of}
use Rattle.maps.specs.declared.Cell.{Cell}
use Rattle.maps.specs.declared.Cell.TheVariants.{Mark, At}
use Rattle.choices.specs.declared.subpixel.Search.{Search}
use Rattle.choices.specs.SemiGlobal.{semi_cell}

abbrev pub is_blank : RawCost → Bool
is_blank Blank = true
is_blank (Corr v) = false

-- a hole: the raw cost of pixel p is blank at every index
unfoldable pub is_hole : List Float → ℕ → ℕ → ℕ → Bool
is_hole raw area count p = all_below count (λ k. is_blank (raw_of (get_or raw (k * area + p) nan)))

-- the choice at pixel p of a w by h map: a hole stays blank, any other pixel gets the semi-global choice
unfoldable pub holed_cell : ℕ → ℕ → ℕ → Search → List Float → List Float → ℕ → Cell
holed_cell w h r search raw sums p = cond (is_hole raw (w * h) search.count p) Mark (semi_cell w h r search sums p)

-- the map, row by row
unfoldable pub holed_map : ℕ → ℕ → ℕ → Search → List Float → List Float → List Cell
holed_map w h r search raw sums = list_of (w * h) (holed_cell w h r search raw sums)

-- ---- what the loops leave

-- what a pixel is before its choice: the mark where it is a hole, and 0 where it is open for one
abbrev pub open_at : List Float → ℕ → ℕ → ℕ → Cell
open_at raw area count p = cond (is_hole raw area count p) Mark (At (fin false 0 (pos 0)))

-- and after one more raw cost: one that is not blank opens it
abbrev pub opened_by : RawCost → Cell → Cell
opened_by Blank before = before
opened_by (Corr v) before = At (fin false 0 (pos 0))
