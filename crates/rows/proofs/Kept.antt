-- What an index keeps while the map is edited: it stays the index of the map. Assumes nothing.
use mathlib.Core.Path.{◌≡◌, refl, sym, ap, ap₂, ◌∙◌, subst}
use Prim.Native.Nat.{ℕ, zero, suc, ◌+◌, ◌*◌, ◌<◌}
use mathlib.Core.Bool.{true}
use mathlib.Core.List.{List, [], ◌∷◌}
use borrow.Author.Tests.{eq-eqb}
use lib.ListN.{length, get_or, set, length-set}
use lib.Seq.{get_or-set_same, get_or-set_other}
use lib.Ieee.{Float, nan}
use Rattle.lists.specs.Rows.{row_of}
use Rattle.lists.proofs.Lists.{list_of-length, list_of-set}
use Rattle.lists.proofs.Rows.{row-set-other}
use Rattle.refusals.specs.Answered.{first_of}
use Rattle.refusals.specs.Outcome.{after}
use Rattle.refusals.proofs.Cases.{after_none}
use Rattle.refusals.specs.Steps.{is}
use Rattle.maps.specs.Cells.{in_buffer, cell_of}
use Rattle.maps.specs.Map.{good_size, inside, got_at}
use Rattle.maps.proofs.Facts.{got_in}
use Rattle.rows.specs.declared.RowRecord.{RowRecord}
use Rattle.rows.specs.declared.Edit.{Edit}
use Rattle.rows.specs.Index.{row_record_of, fresh_index, FreshOutcome, edit_refusal, edited, fresh_row, cells_after, index_after, EditOutcome}
use Rattle.rows.specs.Runs.{Indexed, fresh, edit, run, Calls, none_more, called}
use Rattle.rows.proofs.Accepted.{edit-fits, cell-there}

-- ---- one edit, refused or not

-- a value is put in its place, or the refusal n leaves the list: every other place stays, and so does the length
module _ {A : Type 0} (l : List A) (k : ℕ) (v : A) where
  others-stay : (n i : ℕ) (d : A) → (i ≡ k → ⊥) → get_or (after n (set l k v) l) i d ≡ get_or l i d
  others-stay zero i d other = get_or-set_other l k i v d other
  others-stay (suc n) i d other = refl

  length-stays : (n : ℕ) → length (after n (set l k v) l) ≡ length l
  length-stays zero = length-set l k v
  length-stays (suc n) = refl

module _ (w h : ℕ) (cells : List Float) where
  module _ (index : List RowRecord) (e : Edit) where
    -- the record of every row but the edit's stays
    pub other-rows : (y : ℕ) (d : RowRecord) → (y ≡ e.y → ⊥) → get_or (index_after w h cells index e) y d ≡ get_or index y d
    other-rows y d other = others-stay index e.y _ (edit_refusal w h (length cells) (length index) e) y d other

    pub index-length : length (index_after w h cells index e) ≡ length index
    index-length = length-stays index e.y _ (edit_refusal w h (length cells) (length index) e)

  module _ (m : ℕ) (e : Edit) where
    -- every cell but the edit's stays
    pub other-cells : (i : ℕ) → (i ≡ e.y * w + e.x → ⊥) → get_or (cells_after w h cells m e) i nan ≡ get_or cells i nan
    other-cells i other = others-stay cells (e.y * w + e.x) _ (edit_refusal w h (length cells) m e) i nan other

    pub cells-length : length (cells_after w h cells m e) ≡ length cells
    cells-length = length-stays cells (e.y * w + e.x) _ (edit_refusal w h (length cells) m e)

    -- THEOREM: the cell of an edit that is accepted reads as the edit's
    pub edit-read : edit_refusal w h (length cells) m e ≡ 0 → got_at w h (cells_after w h cells m e) e.x e.y ≡ is (cell_of (in_buffer e.value))
    edit-read z =
        let f = edit-fits w h (length cells) m e z in
        let size : good_size w h (length (edited w cells e)) ≡ true = rw length-set f.both.tested in
        ap (λ l. got_at w h l e.x e.y) (after_none _ _ _ z)
        ∙ got_in w h (edited w cells e) size e.x e.y f.across f.down
        ∙ ap (λ v. is (cell_of v)) (get_or-set_same cells (e.y * w + e.x) _ nan (cell-there w h (length cells) m e f).there)

-- ---- beside a fresh index

-- what is made of the state stays so, where what is done makes it of the state that is done
after-made : {A B : Type 0} (f : A → B) (n : ℕ) (done was : A) (made : B) → (n ≡ 0 → made ≡ f done) → after n made (f was) ≡ f (after n done was)
after-made f zero done was made p = p refl
after-made f (suc n) done was made p = refl

module _ (w h : ℕ) where
  -- the record of the edited row is worked out afresh, and every other row has the cells that it had
  index-edited : (cells : List Float) (e : Edit) → e.x < w → set (fresh_index w h cells) e.y (fresh_row w cells e) ≡ fresh_index w h (edited w cells e)
  unfolding fresh_index
  index-edited cells e across =
      list_of-set h (λ y. row_record_of (row_of w cells y)) (λ y. row_record_of (row_of w (edited w cells e) y)) e.y
      (λ i _ other. ap row_record_of (sym (row-set-other w cells e.y e.x _ i across other)))

  -- one edit beside a fresh index leaves a fresh index
  pub edit-fresh : (cells : List Float) (e : Edit) → edit w h (fresh w h cells) e ≡ fresh w h (edit w h (fresh w h cells) e).cells
  edit-fresh cells e =
      let m = length (fresh_index w h cells) in
      ap (λ i. record { cells = cells_after w h cells m e; index = i })
      (after-made (fresh_index w h) (edit_refusal w h (length cells) m e) (edited w cells e) cells _ (λ z. index-edited cells e (edit-fits w h (length cells) m e z).across))

  -- THEOREM: after any run of edits from a fresh index, the index is the one that is worked out afresh from the map
  pub run-fresh : (cells : List Float) (es : List Edit) → run w h (fresh w h cells) es ≡ fresh w h (run w h (fresh w h cells) es).cells
  unfolding run
  run-fresh cells [] = refl
  run-fresh cells (e ∷ es) =
      subst (λ s. run w h s es ≡ fresh w h (run w h s es).cells) (sym (edit-fresh cells e)) (run-fresh (edit w h (fresh w h cells) e).cells es)

  -- a run leaves the number of cells, and that of records
  pub run-cells-length : (s : Indexed) (es : List Edit) → length (run w h s es).cells ≡ length s.cells
  unfolding run
  run-cells-length s [] = refl
  run-cells-length s (e ∷ es) = run-cells-length (edit w h s e) es ∙ cells-length w h s.cells (length s.index) e

  pub run-index-length : (s : Indexed) (es : List Edit) → length (run w h s es).index ≡ length s.index
  unfolding run
  run-index-length s [] = refl
  run-index-length s (e ∷ es) = run-index-length (edit w h s e) es ∙ index-length w h s.cells s.index e

  -- after any run an edit of a cell inside is accepted
  pub run-accepts : (cells : List Float) (es : List Edit) (e : Edit) → good_size w h (length cells) ≡ true → inside w h e.x e.y ≡ true
      → edit_refusal w h (length (run w h (fresh w h cells) es).cells) (length (run w h (fresh w h cells) es).index) e ≡ 0
  unfolding first_of fresh_index
  run-accepts cells es e size within =
      let start = fresh w h cells in
      let long = run-index-length start es ∙ list_of-length h (λ y. row_record_of (row_of w cells y)) in
      rw (run-cells-length start es, size, within, eq-eqb _ _ long)

-- ---- of the calls

module _ (n w h : ℕ) (cells : List Float) (index index' : List RowRecord) where
  -- THEOREM: a fresh index that is accepted is the map's
  pub fresh-call : FreshOutcome n w h cells index index' → n ≡ 0 → index' ≡ fresh_index w h cells
  fresh-call done none = done.records ∙ after_none _ _ _ (sym done.answer ∙ none)

  -- THEOREM: an edit beside the map's index, refused or not, leaves the index of the map that it leaves
  pub edit-call : (e : Edit) (cells' : List Float) → index ≡ fresh_index w h cells → EditOutcome n w h e cells cells' index index' → index' ≡ fresh_index w h cells'
  edit-call e cells' whole done =
      done.records
      ∙ ap (λ i. index_after w h cells i e) whole
      ∙ ap (λ (s : Indexed). s.index) (edit-fresh w h cells e)
      ∙ ap (fresh_index w h) (sym (done.map ∙ ap (λ i. cells_after w h cells (length i) e) whole))

module _ (w h : ℕ) where
  -- a run of calls leaves what the run of edits does
  calls-run : {s end : Indexed} {es : List Edit} → Calls w h s es end → end ≡ run w h s es
  unfolding run
  calls-run none_more = refl
  calls-run {s} (called {t = t} {e = e} {es = es} done next) =
      let left : t ≡ edit w h s e = ap₂ (λ c i. record { cells = c; index = i }) done.map done.records in
      calls-run next ∙ ap (λ u. run w h u es) left

  module _ {n : ℕ} {cells : List Float} {index index' : List RowRecord} {es : List Edit} {end : Indexed} where
    -- from a fresh index that was accepted
    pub calls-from-fresh : FreshOutcome n w h cells index index' → n ≡ 0 → Calls w h (record { cells = cells; index = index' }) es end → end ≡ run w h (fresh w h cells) es
    calls-from-fresh made none calls = calls-run calls ∙ ap (λ i. run w h (record { cells = cells; index = i }) es) (fresh-call n w h cells index index' made none)

    -- THEOREM: after a fresh index that is accepted, and any run of calls of edits, the index is the one that is worked out afresh from the map
    pub run-fresh-call : FreshOutcome n w h cells index index' → n ≡ 0 → Calls w h (record { cells = cells; index = index' }) es end → end.index ≡ fresh_index w h end.cells
    run-fresh-call made none calls = let e = calls-from-fresh made none calls in rw e (ap (λ (s : Indexed). s.index) (run-fresh w h cells es))
