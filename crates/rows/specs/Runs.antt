-- Edits one after the other, of a map and the index beside it (docs/SPECIFICATION.md, "Row index"). Definitions only.
use Rattle.std.specs.Prelude.{ℕ, cond, List, [], ◌∷◌, length, sum_by, Float}
use Rattle.std.specs.Float.Ieee.Scale.{finite}
use Rattle.rows.specs.declared.RowRecord.{RowRecord}
use Rattle.rows.specs.declared.Edit.{Edit}
use Rattle.rows.specs.Index.{fresh_index, cells_after, index_after, EditOutcome}

-- a map's cells, and the records beside them
pub record Indexed : Type 0 where
  pub cells : List Float
  pub index : List RowRecord

-- a map beside which the index was worked out afresh
abbrev pub fresh : ℕ → ℕ → List Float → Indexed
fresh w h cells = record { cells = cells; index = fresh_index w h cells }

-- after one edit, which changes nothing where it is refused
abbrev pub edit : ℕ → ℕ → Indexed → Edit → Indexed
edit w h s e = record { cells = cells_after w h s.cells (length s.index) e; index = index_after w h s.cells s.index e }

-- after a run of edits, in their order
unfoldable pub run : ℕ → ℕ → Indexed → List Edit → Indexed
run w h s [] = s
run w h s (e ∷ es) = run w h (edit w h s e) es

-- a run of calls of `edit_cell`, refused or not: what one leaves of the map and the index, the next is lent
pub data Calls (w h : ℕ) : Indexed → List Edit → Indexed → Type 0 where
  none_more : {s : Indexed} → Calls w h s [] s
  called : {n : ℕ} {s t end : Indexed} {e : Edit} {es : List Edit} → EditOutcome n w h e s.cells t.cells s.index t.index → Calls w h t es end → Calls w h s (e ∷ es) end

-- what a cell adds to its row's count
abbrev pub counted : Float → ℕ
counted c = cond (finite c) 1 0

-- the counts of an index, added
abbrev pub total : List RowRecord → ℕ
total records = sum_by (λ (r : RowRecord). r.count) records
