-- A raw volume as its own picture sees it, or as the other picture does. Definitions only.
use Rattle.std.specs.Prelude.{ℕ, suc, ◌+◌, ◌-◌, ◌*◌, ◌<◌, ◌≤◌, min, true, cond, List, length, ℤ, pos, negsuc, ◌+ℤ◌, nat_le, slice_index_or, unsigned_abs, Float}
use Rattle.std.specs.Float.{nan, inf}
use Rattle.std.specs.Coded.{Π_prop, ×_prop, Unit-prop}
use Rattle.std.proofs.Math.Dec.{T_prop}
use Rattle.lists.specs.Lists.{list_of}
use Rattle.lists.specs.Turned.{turned, turned_cell}
use Rattle.options.specs.declared.RawCost.{RawCost}
use Rattle.options.specs.declared.RawCost.TheVariants.{Blank, Corr}
use Rattle.options.specs.Costs.{raw_of, InRange}
use Rattle.options.specs.Limits.{side_most, most_count, first_most}
use Rattle.choices.specs.declared.block.Seen.{Seen}
use Rattle.choices.specs.declared.block.Seen.TheVariants.{Own, Turned}
use Rattle.choices.specs.declared.block.Row.{Row}
use Rattle.choices.specs.declared.block.Shift.{Shift}
use Rattle.choices.specs.declared.block.Span.{Span}
use Rattle.choices.specs.declared.subpixel.Search.{Search}

-- the volume that the choice is made from: as it stands, or turned to the other picture
abbrev pub seen_as : Seen → ℕ → ℕ → Search → List Float → List Float
seen_as Own w h search raw = raw
seen_as Turned w h search raw = turned (inf true) w h search.first search.count raw

-- its number with index k of pixel p
unfoldable pub seen_cell : Seen → ℕ → ℕ → ℤ → List Float → ℕ → ℕ → Float
seen_cell Own w h first raw k p = slice_index_or raw (k * (w * h) + p) nan
seen_cell Turned w h first raw k p = turned_cell (inf true) w h first raw k p

-- the first n cells are blank or lie from -1 to 1
abbrev pub CellsInRange : List Float → ℕ → Type 0
CellsInRange raw n = (i : ℕ) → i < n → InRange (raw_of (slice_index_or raw i nan))

-- of these facts there is at most one proof, which a ghost field asks
InRange-prop : (c : RawCost) → IsProp (InRange c)
InRange-prop Blank = Unit-prop
InRange-prop (Corr v) = ×_prop (T_prop _) (T_prop _)

pub CellsInRange-prop : (raw : List Float) (n : ℕ) → IsProp (CellsInRange raw n)
CellsInRange-prop raw n = Π_prop (λ i. Π_prop (λ _. InRange-prop _))

-- the number with index k in column x of a row
abbrev pub cell_in : Row → Search → List Float → ℕ → ℕ → Float
cell_in row search raw x k = seen_cell row.seen row.w row.h search.first raw k (row.y * row.w + x)

-- the raw costs of column x of a row by index
unfoldable pub column_costs : Row → Search → List Float → ℕ → List RawCost
column_costs row search raw x = list_of search.count (λ k. raw_of (cell_in row search raw x k))

-- a row of a map, and a search, within the sizes allowed
pub record RowSizes (row : Row) (search : Search) : Type 0 where
  pub wide : row.w ≤ side_most
  pub high : row.h ≤ side_most
  pub inside : row.y < row.h
  pub some : 1 ≤ search.count
  pub few : search.count ≤ most_count
  pub close : unsigned_abs search.first ≤ first_most

-- and a volume that has all of the indices
pub record RowIn (row : Row) (search : Search) (raw : List Float) : Type 0 where
  pub sizes : RowSizes row search
  pub planes : search.count * (row.w * row.h) ≤ length raw

-- a map within the sizes allowed, with a frame of r pixels that leaves some inside, and a volume that has all of the indices
pub record MapIn (w h r : ℕ) (search : Search) (raw : List Float) : Type 0 where
  pub wide : w ≤ side_most
  pub high : h ≤ side_most
  pub framed : 1 ≤ r
  pub across : 2 * r < w
  pub down : 2 * r < h
  pub some : 1 ≤ search.count
  pub few : search.count ≤ most_count
  pub close : unsigned_abs search.first ≤ first_most
  pub planes : search.count * (w * h) ≤ length raw

-- a row moved right by d columns, or left: the columns from lo to w - from take the cells from `from` to w - lo
abbrev pub moved_by : ℕ → ℤ → Shift
moved_by w (pos d) = record { lo = min d w; from = 0 }
moved_by w (negsuc d) = record { lo = 0; from = min (suc d) w }

-- where the cells of index k lie in their row
abbrev pub seen_shift : Seen → ℕ → ℤ → ℕ → Shift
seen_shift Own w first k = record { lo = 0; from = 0 }
seen_shift Turned w first k = moved_by w (first +ℤ pos k)

-- the first cell of index k of a row
abbrev pub row_start : Row → ℕ → ℕ
row_start row k = k * (row.w * row.h) + row.y * row.w

-- where the cells of index k of a row lie in the volume
abbrev pub seen_span : Row → Search → ℕ → Span
seen_span row search k = record {
  lo = (seen_shift row.seen row.w search.first k).lo;
  from = row_start row k + (seen_shift row.seen row.w search.first k).from;
  to = row_start row k + (row.w - (seen_shift row.seen row.w search.first k).lo);
}

-- the number in column x, where a part's numbers stand in the columns from lo on and the others are blank
unfoldable pub part_at : ℕ → List Float → ℕ → Float
part_at lo part x = cond (nat_le lo x) (slice_index_or part (x - lo) (inf true)) (inf true)
