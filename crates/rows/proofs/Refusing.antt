-- The law of refusals, of a fresh index and of an edit: their numbers are answered by the place of their rows. Assumes nothing.
use Prim.Native.Nat.{ℕ}
use mathlib.Core.List.{List}
use lib.ListN.{length}
use lib.Dec.{lit<}
use lib.Ieee.{Float}
use Rattle.refusals.specs.Answered.{Numbered, ByPlace}
use Rattle.refusals.proofs.Answering.{answers-by-place}
use Rattle.rows.specs.declared.RowRecord.{RowRecord}
use Rattle.rows.specs.declared.Edit.{Edit}
use Rattle.rows.specs.Index.{fresh_rows, FreshOutcome, edit_rows, EditOutcome}

pub fresh-numbered : (w h n m : ℕ) → Numbered (fresh_rows w h n m)
fresh-numbered w h n m = (lit< tt, (lit< tt, tt))

pub edit-numbered : (w h n m : ℕ) (e : Edit) → Numbered (edit_rows w h n m e)
edit-numbered w h n m e = (lit< tt, (lit< tt, (lit< tt, tt)))

module _ {n w h : ℕ} {cells : List Float} {index index' : List RowRecord} where
  -- THEOREM: a fresh index is refused by the place of its row, 23 before 28
  pub fresh-index-by-place : FreshOutcome n w h cells index index' → ByPlace (fresh_rows w h (length cells) (length index)) n
  fresh-index-by-place done = answers-by-place (fresh-numbered w h (length cells) (length index)) done.answer

  -- THEOREM: an edit is refused by the place of its row, 23, 26, then 28
  pub edit-cell-by-place : {e : Edit} {cells' : List Float} → EditOutcome n w h e cells cells' index index' → ByPlace (edit_rows w h (length cells) (length index) e) n
  edit-cell-by-place {e} done = answers-by-place (edit-numbered w h (length cells) (length index) e) done.answer
