-- The index beside a map: one record per row, and what a fresh index and an edit answer and leave
-- (docs/SPECIFICATION.md, "Row index"). Definitions only.
use Rattle.std.specs.Prelude.{ℕ, ◌+◌, ◌*◌, ◌≡◌, not, cond, Option, None, Some, List, [], ◌∷◌, ◌++◌, length, set, eqb, Float}
use Rattle.lists.specs.Lists.{list_of}
use Rattle.lists.specs.Rows.{row_of}
use Rattle.refusals.specs.Answered.{Row, row, first_of}
use Rattle.refusals.specs.Outcome.{after}
use Rattle.maps.specs.declared.Cell.TheVariants.{Mark}
use Rattle.maps.specs.declared.Span.{Span}
use Rattle.maps.specs.Cells.{in_buffer}
use Rattle.maps.specs.Map.{size_rows, pixel_rows, valids, range_of}
use Rattle.rows.specs.declared.RowRecord.{RowRecord}
use Rattle.rows.specs.declared.Edit.{Edit}

-- the record of a count and a range; where there is no valid cell, least and greatest are the mark
abbrev pub record_in : ℕ → Option Span → RowRecord
record_in n None = record { count = n; least = in_buffer Mark; greatest = in_buffer Mark }
record_in n (Some s) = record { count = n; least = s.least; greatest = s.greatest }

-- the least and the greatest that a record holds, where there is a valid cell
abbrev pub range_in : RowRecord → Option Span
range_in r = cond (eqb r.count 0) None (Some (record { least = r.least; greatest = r.greatest }))

-- the record of a row's cells: how many are valid, and the least and the greatest of those
abbrev pub row_record_of : List Float → RowRecord
row_record_of cells = record_in (valids cells) (range_of cells)

-- THE INDEX of a map: the record of each row, from the first row on
unfoldable pub fresh_index : ℕ → ℕ → List Float → List RowRecord
fresh_index w h cells = list_of h (λ y. row_record_of (row_of w cells y))

-- of an index of m records beside h rows: 28 it has another length
abbrev pub index_rows : ℕ → ℕ → List Row
index_rows h m = row 28 (not (eqb m h)) ∷ []

-- of a fresh index of m records beside a map of n cells: 23 the map has no good size, then 28
abbrev pub fresh_rows : ℕ → ℕ → ℕ → ℕ → List Row
fresh_rows w h n m = size_rows w h n ++ index_rows h m

-- its number, 0 for none
abbrev pub fresh_refusal : ℕ → ℕ → ℕ → ℕ → ℕ
fresh_refusal w h n m = first_of (fresh_rows w h n m)

-- THE OUTCOME of a fresh index: the answer n, and the index afterwards
pub record FreshOutcome (n w h : ℕ) (cells : List Float) (index index' : List RowRecord) : Type 0 where
  pub answer : n ≡ fresh_refusal w h (length cells) (length index)
  pub records : index' ≡ after (fresh_refusal w h (length cells) (length index)) (fresh_index w h cells) index

-- of an edit beside an index of m records: 23, then 26 the cell lies outside the map, then 28
abbrev pub edit_rows : ℕ → ℕ → ℕ → ℕ → Edit → List Row
edit_rows w h n m e = pixel_rows w h n e.x e.y ++ index_rows h m

-- its number, 0 for none
abbrev pub edit_refusal : ℕ → ℕ → ℕ → ℕ → Edit → ℕ
edit_refusal w h n m e = first_of (edit_rows w h n m e)

-- the map with the edit's cell
abbrev pub edited : ℕ → List Float → Edit → List Float
edited w cells e = set cells (e.y * w + e.x) (in_buffer e.value)

-- the map afterwards
abbrev pub cells_after : ℕ → ℕ → List Float → ℕ → Edit → List Float
cells_after w h cells m e = after (edit_refusal w h (length cells) m e) (edited w cells e) cells

-- the record of the edit's row, worked out afresh from the map with the edit's cell
abbrev pub fresh_row : ℕ → List Float → Edit → RowRecord
fresh_row w cells e = row_record_of (row_of w (edited w cells e) e.y)

-- the index afterwards: that record in its place, and every other as it was
abbrev pub index_after : ℕ → ℕ → List Float → List RowRecord → Edit → List RowRecord
index_after w h cells index e = after (edit_refusal w h (length cells) (length index) e) (set index e.y (fresh_row w cells e)) index

-- THE OUTCOME of an edit: the answer n, the map and the index afterwards
pub record EditOutcome (n w h : ℕ) (e : Edit) (cells cells' : List Float) (index index' : List RowRecord) : Type 0 where
  pub answer : n ≡ edit_refusal w h (length cells) (length index) e
  pub map : cells' ≡ cells_after w h cells (length index) e
  pub records : index' ≡ index_after w h cells index e
