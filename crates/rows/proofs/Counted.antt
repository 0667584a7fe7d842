-- The counts of an index: together they count the valid cells of the map, and an edit moves one of them by what it changes; the range of a
-- record is its row's. Assumes nothing.
use mathlib.Core.Path.{◌≡◌, refl, sym, ap, ap₂, ◌∙◌, subst}
use Prim.Native.Nat.{ℕ, zero, suc, ◌+◌, ◌*◌, ◌<◌}
use native.Mathlib.Nat.{zero-mul, mul-zero, mul-suc}
use native.Mathlib.Omega.{arith}
use mathlib.Core.Bool.{Bool, true, false, cond}
use mathlib.Core.List.{List, [], ◌∷◌}
use borrow.Author.Tests.{ne_eqb}
use lib.ListN.{length, get_or, take, drop, length-drop, take-append-drop}
use lib.Ieee.{Float, nan}
use lib.Ieee.Scale.{finite}
use Rattle.lists.specs.Lists.{list_of}
use Rattle.lists.specs.Rows.{row_of}
use Rattle.lists.proofs.Lists.{list_of-same}
use Rattle.lists.proofs.Rows.{row_next, row_at, row-long, row-set}
use Rattle.std.specs.Prelude.{Option, None, Some, Result, Ok}
use Rattle.std.proofs.lemmas.List.Sums.{sum_by-cons, sum_by-append, sum_by-set}
use Rattle.std.proofs.lemmas.List.Folds.{fold_along}
use Rattle.refusals.specs.declared.Refusal.{Refusal}
use Rattle.refusals.specs.Steps.{is}
use Rattle.refusals.specs.Given.{given_back}
use Rattle.refusals.proofs.Numbers.{known_by}
use Rattle.maps.specs.declared.Span.{Span}
use Rattle.maps.specs.Cells.{in_buffer}
use Rattle.maps.specs.Map.{good_size, valids, valid_count, widen, range_of}
use Rattle.maps.specs.Extremes.{Finds}
use Rattle.maps.proofs.Facts.{good, count-is}
use Rattle.maps.proofs.Extremes.{range-found}
use Rattle.rows.specs.declared.RowRecord.{RowRecord}
use Rattle.rows.specs.declared.Edit.{Edit}
use Rattle.rows.specs.Index.{record_in, range_in, row_record_of, fresh_index, FreshOutcome, edit_refusal, edited}
use Rattle.rows.specs.Runs.{Indexed, fresh, run, Calls, total, counted}
use Rattle.rows.proofs.Accepted.{fresh-fits, edit-fits, row-there}
use Rattle.rows.proofs.Kept.{run-fresh, run-cells-length, calls-from-fresh}

-- ---- the counts of an index, and the map's

-- a record's count is the one that it was made with
count-in : (n : ℕ) (r : Option Span) → (record_in n r).count ≡ n
count-in n None = refl
count-in n (Some s) = refl

-- THEOREM: the counts of an index add up to the map's valid cells
pub counts-add : (w h : ℕ) (cells : List Float) → length cells ≡ w * h → total (fresh_index w h cells) ≡ valids cells
unfolding fresh_index list_of
counts-add w zero [] long = refl
counts-add w zero (c ∷ cells) long = absurd (omega (arith, mul-zero w))
counts-add w (suc h) cells long =
    let first : row_of w cells 0 ≡ take w cells = rw zero-mul in
    let rows = list_of-same h _ _ (λ y _. ap row_record_of (sym (row_next w cells y))) in
    let rest = counts-add w h (drop w cells) (rw length-drop (omega (arith, mul-suc w h))) in
    sum_by-cons (λ (r : RowRecord). r.count) (row_record_of (row_of w cells 0)) (list_of h (λ y. row_record_of (row_of w cells (suc y))))
    ∙ ap₂ (λ a b. a + b) (count-in _ (range_of (row_of w cells 0)) ∙ ap valids first) (ap total rows ∙ rest)
    ∙ sym (sum_by-append counted (take w cells) (drop w cells))
    ∙ ap valids (take-append-drop w cells)

-- so the map's count of valid cells is theirs
pub map-count : (w h : ℕ) (cells : List Float) → good_size w h (length cells) ≡ true → valid_count w h cells ≡ is (total (fresh_index w h cells))
map-count w h cells size = count-is w h cells size ∙ ap is (sym (counts-add w h cells (good w h (length cells) size).long))

-- THEOREM: and so it is after any run of edits from a fresh index
pub run-count : (w h : ℕ) (cells : List Float) (es : List Edit) → good_size w h (length cells) ≡ true
    → valid_count w h (run w h (fresh w h cells) es).cells ≡ is (total (run w h (fresh w h cells) es).index)
run-count w h cells es size =
    let end = run w h (fresh w h cells) es in
    map-count w h end.cells (rw (run-cells-length w h (fresh w h cells) es) size)
    ∙ ap (λ (s : Indexed). is (total s.index)) (sym (run-fresh w h cells es))

-- THEOREM: so after a fresh index that is accepted, and any run of calls of edits, the counts add up to what `MapView::valid_count` answers
pub run-count-call : {n w h : ℕ} {cells : List Float} {index index' : List RowRecord} {es : List Edit} {end : Indexed} {answer : Result ℕ Refusal} → FreshOutcome n w h cells index index' → n ≡ 0
    → Calls w h (record { cells = cells; index = index' }) es end → given_back answer ≡ valid_count w h end.cells → answer ≡ Ok (total end.index)
run-count-call {w = w} {h = h} {cells = cells} {es = es} {end = end} {answer = answer} made none calls count =
    let size = (fresh-fits w h _ _ (sym made.answer ∙ none)).tested in
    known_by answer (Ok (total end.index)) (count ∙ subst (λ s. valid_count w h s.cells ≡ is (total s.index)) (sym (calls-from-fresh w h made none calls)) (run-count w h cells es size))

-- ---- one cell changed

-- THEOREM: an edit that is accepted moves its row's count by exactly that
pub edit-count : (w h : ℕ) (cells : List Float) (m : ℕ) (e : Edit) → edit_refusal w h (length cells) m e ≡ 0
    → valids (row_of w (edited w cells e) e.y) + counted (get_or cells (e.y * w + e.x) nan) ≡ valids (row_of w cells e.y) + counted (in_buffer e.value)
edit-count w h cells m e z =
    let f = edit-fits w h (length cells) m e z in
    let row = row_of w cells e.y in
    let long = row-long w cells e.y (row-there w h (length cells) m e f) in
    let moved = sum_by-set counted row e.x (in_buffer e.value) nan (rw long f.across) in
    rw (row-set w cells e.y e.x (in_buffer e.value) f.across, ← row_at w cells e.y e.x nan f.across) moved

-- ---- the range of a record

-- a range is there exactly where the count is not 0
abbrev Agrees : ℕ → Option Span → Type 0
Agrees n None = n ≡ 0
Agrees n (Some s) = 0 < n

-- a further cell keeps that so
widen-agrees : (n : ℕ) (r : Option Span) (c : Float) → Agrees n r → Agrees (n + counted c) (widen r c)
unfolding widen
widen-agrees n None c a = first (finite c)
  where
    first : (t : Bool) → Agrees (n + cond t 1 0) (cond t (Some (record { least = c; greatest = c })) None)
    first true = omega arith
    first false = omega arith
widen-agrees n (Some s) c a = omega arith

-- THEOREM: the range of a row's record is the row's
pub range-kept : (row : List Float) → range_in (row_record_of row) ≡ range_of row
range-kept row = told (valids row) (range_of row) (fold_along (λ n c. n + counted c) widen Agrees widen-agrees 0 None row refl)
  where
    told : (n : ℕ) (r : Option Span) → Agrees n r → range_in (record_in n r) ≡ r
    told n None none = rw none
    told n (Some s) some = rw (ne_eqb n 0 (λ z. omega arith))

-- THEOREM: so what a row's record holds is the least and the greatest of the row's valid cells, each the leftmost of its equals
pub record-finds : (row : List Float) → Finds row (range_in (row_record_of row))
record-finds row = subst (Finds row) (sym (range-kept row)) (range-found row)
