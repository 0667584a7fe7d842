-- THE ROUND TRIP: reading what was written gives the map back, and what was read is written as the same bytes, for both kinds. Assumes nothing.
use Rattle.std.proofs.Common.{◌≡◌, ℕ, zero, suc, ◌*◌, ◌≤◌, Bool, true, false, cond, eqb, leb, List, [], ◌∷◌, ◌++◌, length, take, drop, sym, refl, ap, ◌∙◌, subst, append_assoc, arith, take_at, eq-eqb, eqb-true, le-leb}
use lib.Ieee.{Float}
use Rattle.lists.proofs.Tests.{and_both}
use Rattle.maps.specs.Map.{good_size}
use Rattle.maps.proofs.Facts.{good}
use Rattle.maps.specs.Cells.{AllFit}
use Rattle.sheets.specs.declared.code.Kind.{Kind}
use Rattle.std.specs.Prelude.{Result, Ok}
use Rattle.refusals.specs.declared.Refusal.{Refusal}
use Rattle.refusals.proofs.Numbers.{known_by}
use Rattle.sheets.specs.declared.reading.SheetSize.{SheetSize}
use Rattle.sheets.specs.Limits.{version, sheet_side_most, is_sheet_side}
use Rattle.refusals.specs.Steps.{Or, is, refused, and_then, given, Taken}
use Rattle.sheets.specs.Number.{number_bytes, take_number, AllBytes}
use Rattle.sheets.specs.Code.{kind_number, kind_of, code_of, sheet_cell}
use Rattle.sheets.specs.Sheet.{Sheet, Head, head_bytes, cells_bytes, kind_sheet, sheet_of, take_version, take_side, take_head, TakenCell, take_cell, take_cells, cells_after_head, read_sheet}
use Rattle.refusals.specs.Writes.{WriteOutcome}
use Rattle.refusals.proofs.Writes.{written_is}
use Rattle.sheets.specs.Outcome.{size_said, cells_after, ReadOutcome}
use Rattle.refusals.proofs.Stepwise.{not-refused, same-result, then_is}
use Rattle.sheets.proofs.Numbers.{take_back, bytes_back}
use Rattle.sheets.proofs.Codes.{code-back, cell-back, code-small, kind-back, kind-number, kind-small}
use Rattle.sheets.proofs.Readings.{Sides, side-most, head-parts, head-sides, tested-is}

-- ---- reading what was written

cells-read : (k : Kind) (cells : List Float) (bytes : List ℕ) → AllFit cells → cells_bytes k cells ≡ is bytes → take_cells k (length cells) bytes ≡ is cells
unfolding cells_bytes take_cells take_cell
cells-read k [] bytes fit e = rw (← same-result e)
cells-read k (x ∷ xs) bytes fit e =
    let code = then_is (code_of k x) _ bytes e in
    let others = then_is (cells_bytes k xs) _ bytes code.2 in
    rw (
      ← same-result others.2,
      take_back code.0 others.0 (code-small k x code.0 fit.0 code.1),
      code-back k x code.0 fit.0 code.1,
      cells-read k xs others.0 fit.1 others.1,
    )

side-read : (n : ℕ) (rest : List ℕ) → is_sheet_side n ≡ true → take_side (number_bytes n ++ rest) ≡ is (record { number = n; rest = rest })
unfolding take_side
side-read n rest t = rw (take_back n rest (omega (arith, side-most n t)), t)

-- four parts and what follows them, one after another
straight : (a b c d e : List ℕ) → a ++ b ++ c ++ d ++ e ≡ a ++ (b ++ (c ++ (d ++ e)))
straight a b c d e = append_assoc (a ++ b ++ c) d e ∙ append_assoc (a ++ b) c (d ++ e) ∙ append_assoc a b (c ++ (d ++ e))

head_read : (k : Kind) (w h : ℕ) (rest : List ℕ) → is_sheet_side w ≡ true → is_sheet_side h ≡ true
    → take_head (head_bytes k w h ++ rest) ≡ is (record { kind = k; width = w; height = h; rest = rest })
unfolding take_head take_version head_bytes
head_read k w h rest tw th =
    let after-width = number_bytes h ++ rest in
    let after-kind = number_bytes w ++ after-width in
    let after-version = number_bytes (kind_number k) ++ after-kind in
    rw (
      straight (number_bytes version) (number_bytes (kind_number k)) (number_bytes w) (number_bytes h) rest,
      take_back version after-version (omega arith),
      take_back (kind_number k) after-kind (kind-small k),
      kind-back k,
      side-read w after-width tw,
      side-read h rest th,
    )

-- what an accepted call of the writer says: the size is good, and the sheet is the head and the cells
pub record Sheeted (k : Kind) (w h : ℕ) (cells : List Float) (bytes : List ℕ) : Type 0 where
  pub size : good_size w h (length cells) ≡ true
  pub cell-bytes : List ℕ
  pub coded : cells_bytes k cells ≡ is cell-bytes
  pub sheet : head_bytes k w h ++ cell-bytes ≡ bytes

pub sheeted : (kind : ℕ) (k : Kind) (w h : ℕ) (cells : List Float) (bytes : List ℕ) → kind_of kind ≡ is k → sheet_of kind w h cells ≡ is bytes → Sheeted k w h cells bytes
unfolding sheet_of kind_sheet
sheeted kind k w h cells bytes known = go (good_size w h (length cells)) refl
  where
    go : (t : Bool) → good_size w h (length cells) ≡ t → cond t (and_then (kind_of kind) (λ k. kind_sheet k w h cells)) (refused 23) ≡ is bytes → Sheeted k w h cells bytes
    go true size e =
        let rest = then_is (cells_bytes k cells) _ bytes (rw known at e) in
        record { size = size; cell-bytes = rest.0; coded = rest.1; sheet = same-result rest.2 }
    go false size e = not-refused (sym e)

-- sides of a good size are a sheet's
good-sides : (w h n : ℕ) → good_size w h n ≡ true → (is_sheet_side w ≡ true) × (is_sheet_side h ≡ true)
good-sides w h n t =
    let g = good w h n t in
    (rw (le-leb 1 w g.wide, le-leb w sheet_side_most g.narrow), rw (le-leb 1 h g.high, le-leb h sheet_side_most g.low))

-- THEOREM: reading what was written gives the map back, its NaNs as marks (there is one NaN), and the kind
pub reads-back : (kind : ℕ) (k : Kind) (w h : ℕ) (cells : List Float) (bytes : List ℕ) → AllFit cells → kind_of kind ≡ is k → sheet_of kind w h cells ≡ is bytes
    → read_sheet bytes ≡ is (record { kind = k; width = w; height = h; cells = cells })
unfolding read_sheet
reads-back kind k w h cells bytes fit known e =
    let p = sheeted kind k w h cells bytes known e in
    let sides = good-sides w h (length cells) p.size in
    let count : w * h ≡ length cells = sym (good w h (length cells) p.size).long in
    rw (← p.sheet, head_read k w h p.cell-bytes sides.0 sides.1, count, cells-read k cells p.cell-bytes fit p.coded)

-- ---- writing what was read

-- and a sheet's sides with as many cells are a good size
sides-good : (w h n : ℕ) → Sides w h → n ≡ w * h → good_size w h n ≡ true
unfolding good_size
sides-good w h n z e =
    let wide = and_both (leb 1 w) (leb w sheet_side_most) z.width in
    let high = and_both (leb 1 h) (leb h sheet_side_most) z.height in
    rw (wide.0, wide.1, high.0, high.1, eq-eqb n (w * h) e)

record CellsFrom (k : Kind) (n : ℕ) (s : List ℕ) (cells : List Float) : Type 0 where
  pub count : length cells ≡ n
  pub coded : cells_bytes k cells ≡ is s

one_more : (k : Kind) (n number : ℕ) (s rest : List ℕ) (x : Float) (xs : List Float) → s ≡ number_bytes number ++ rest → code_of k x ≡ is number → CellsFrom k n rest xs → CellsFrom k (suc n) s (x ∷ xs)
unfolding cells_bytes
one_more k n number s rest x xs front code others = record { count = ap suc others.count; coded = rw (code, others.coded, front) }

-- what a cell was taken from
record CellFrom (k : Kind) (s : List ℕ) (t : TakenCell) : Type 0 where
  pub number : ℕ
  pub front : s ≡ number_bytes number ++ t.rest
  pub code : code_of k t.cell ≡ is number
  pub bytes : AllBytes t.rest

cell-from : (k : Kind) (s : List ℕ) (t : TakenCell) → AllBytes s → take_cell k s ≡ is t → CellFrom k s t
unfolding take_cell
cell-from k s t all e =
    let number = then_is (take_number s) _ t e in
    let x = then_is (sheet_cell k number.0.number) _ t number.2 in
    let same = same-result x.2 in
    let back = bytes_back s number.0 all number.1 in
    rw (← same) (record { number = number.0.number; front = back.0; code = cell-back k number.0.number x.0 x.1; bytes = back.1 })

cells-from : (k : Kind) (n : ℕ) (s : List ℕ) (cells : List Float) → AllBytes s → take_cells k n s ≡ is cells → CellsFrom k n s cells
unfolding take_cells cells_bytes
cells-from k zero [] cells all e = rw (← same-result e) (record { count = refl; coded = refl })
cells-from k zero (b ∷ s) cells all e = not-refused (sym e)
cells-from k (suc n) s cells all e =
    let cell = then_is (take_cell k s) _ cells e in
    let others = then_is (take_cells k n cell.0.rest) _ cells cell.2 in
    let from = cell-from k s cell.0 all cell.1 in
    rw (← same-result others.2)
    (one_more k n from.number s cell.0.rest cell.0.cell others.0 from.front from.code (cells-from k n cell.0.rest others.0 from.bytes others.1))

head-from : (s : List ℕ) (head : Head) → AllBytes s → take_head s ≡ is head → (s ≡ head_bytes head.kind head.width head.height ++ head.rest) × AllBytes head.rest
unfolding take_version take_side head_bytes
head-from s head all e =
    let p = head-parts s head e in
    let v = tested-is (λ n. eqb n version) 35 (take_number s) p.version p.version-is in
    let w = tested-is is_sheet_side 36 (take_number p.kind.rest) p.width p.width_is in
    let h = tested-is is_sheet_side 36 (take_number p.width.rest) p.height p.height-is in
    let a = bytes_back s p.version all v.0 in
    let b = bytes_back p.version.rest p.kind a.1 p.kind-is in
    let c = bytes_back p.kind.rest p.width b.1 w.0 in
    let d = bytes_back p.width.rest p.height c.1 h.0 in
    let one = eqb-true p.version.number version v.1 in
    let number = kind-number p.kind.number head.kind p.kind-known in (
      fields s p.version p.kind p.width p.height a.0 b.0 c.0 d.0 ∙ same one number p.wide p.high p.rest,
      subst (λ (l : List ℕ). AllBytes l) p.rest d.1,
    )
  where
    fields : (s : List ℕ) (v k w h : Taken) → s ≡ number_bytes v.number ++ v.rest → v.rest ≡ number_bytes k.number ++ k.rest → k.rest ≡ number_bytes w.number ++ w.rest → w.rest ≡ number_bytes h.number ++ h.rest
        → s ≡ number_bytes v.number ++ number_bytes k.number ++ number_bytes w.number ++ number_bytes h.number ++ h.rest
    fields s v k w h e f g i = rw (e, f, g, i, straight (number_bytes v.number) (number_bytes k.number) (number_bytes w.number) (number_bytes h.number) h.rest)

    same : {v v' k k' w w' h h' : ℕ} {d d' : List ℕ} → v ≡ v' → k ≡ k' → w ≡ w' → h ≡ h' → d ≡ d'
        → number_bytes v ++ number_bytes k ++ number_bytes w ++ number_bytes h ++ d ≡ number_bytes v' ++ number_bytes k' ++ number_bytes w' ++ number_bytes h' ++ d'
    same e f g i j = rw (e, f, g, i, j)

-- THEOREM: what was read is written as the same bytes
pub writes-back : (s : List ℕ) (d : Sheet) → AllBytes s → read_sheet s ≡ is d → sheet_of (kind_number d.kind) d.width d.height d.cells ≡ is s
unfolding read_sheet sheet_of kind_sheet
writes-back s d all e =
    let taken = then_is (take_head s) _ d e in
    let head = taken.0 in
    let cells = then_is (cells_after_head head) _ d taken.2 in
    let front = head-from s head all taken.1 in
    let from = cells-from head.kind (head.width * head.height) head.rest cells.0 front.1 cells.1 in
    let size = sides-good head.width head.height (length cells.0) (head-sides s head taken.1) from.count in
    rw (← same-result cells.2, size, kind-back head.kind, from.coded) (ap is (sym front.0))

-- THEOREM: one map of one kind has one sheet: two that read as the same cells of the same kind are the same bytes
pub one-sheet : (s s' : List ℕ) (d : Sheet) → AllBytes s → AllBytes s' → read_sheet s ≡ is d → read_sheet s' ≡ is d → s ≡ s'
one-sheet s s' d all all' e e' = same-result (sym (writes-back s d all e) ∙ writes-back s' d all' e')

-- ---- the same of the calls

-- a sheet's kind, width and height
abbrev pub size_is : Kind → ℕ → ℕ → SheetSize
size_is k w h = record { kind = k; width = w; height = h }

-- THEOREM: a map that was written and whose bytes were read into as many cells is there again
pub mailed : (kind : ℕ) (k : Kind) (w h : ℕ) (cells : List Float) (n : ℕ) (out out' : List ℕ) (r : Result SheetSize Refusal) (back back' : List Float) → AllFit cells → kind_of kind ≡ is k
    → WriteOutcome 33 (Ok n) (sheet_of kind w h cells) out out'
    → ReadOutcome r (read_sheet (take n out')) back back' → length back ≡ w * h
    → (r ≡ Ok (size_is k w h)) × (back' ≡ cells)
mailed kind k w h cells n out out' r back back' fit known done read size =
    let says = reads-back kind k w h cells (take n out') fit known (written_is (sheet_of kind w h cells) n out out' done) in
    let roomy = eq-eqb (length back) (w * h) size in
    (known_by r (Ok (size_is k w h)) (read.answers ∙ rw (says, roomy)), read.outs ∙ rw (says, roomy))

-- what an answered map says: the bytes are a sheet of that kind and size, and its cells are what was left
read_is : (o : Or Sheet) (k : Kind) (w h : ℕ) (out cells : List Float) → ReadOutcome (Ok (size_is k w h)) o out cells → o ≡ is (record { kind = k; width = w; height = h; cells = cells })
read_is (refused n) k w h out cells d = let e = d.answers in cc
read_is (is sheet) k w h out cells d = go (eqb (length out) (sheet.width * sheet.height)) d.answers d.outs
  where
    go : (t : Bool) → is (size_is k w h) ≡ size_said (given t 11 sheet) → cells ≡ cells_after (given t 11 sheet) out → is sheet ≡ is (record { kind = k; width = w; height = h; cells = cells })
    go true e o =
        let same : size_is k w h ≡ size_is sheet.kind sheet.width sheet.height = same-result e in
        let kinds = ap (λ (z : SheetSize). z.kind) same in
        let wide = ap (λ (z : SheetSize). z.width) same in
        let high = ap (λ (z : SheetSize). z.height) same in
        rw (kinds, wide, high, o)
    go false e o = cc

-- THEOREM: a map that was read, and whose cells were written in its kind into an output that is long enough, has the same bytes
pub mailed-back : (s : List ℕ) (k : Kind) (w h : ℕ) (out cells : List Float) (r : Result ℕ Refusal) (text text' : List ℕ) → AllBytes s
    → ReadOutcome (Ok (size_is k w h)) (read_sheet s) out cells
    → WriteOutcome 33 r (sheet_of (kind_number k) w h cells) text text' → length s ≤ length text
    → (r ≡ Ok (length s)) × (take (length s) text' ≡ s)
mailed-back s k w h out cells r text text' all read done long =
    let same = writes-back s (record { kind = k; width = w; height = h; cells = cells }) all (read_is (read_sheet s) k w h out cells read) in
    let fits = le-leb (length s) (length text) long in
    (known_by r (Ok (length s)) (done.answers ∙ rw (same, fits)), ap (take (length s)) (done.outs ∙ rw (same, fits)) ∙ take_at s (drop (length s) text) (length s) refl)

-- THEOREM: two byte strings that are read as the same kind, size and cells are the same
pub one-sheet-call : (s s' : List ℕ) (k : Kind) (w h : ℕ) (out out' cells : List Float) → AllBytes s → AllBytes s'
    → ReadOutcome (Ok (size_is k w h)) (read_sheet s) out cells → ReadOutcome (Ok (size_is k w h)) (read_sheet s') out' cells → s ≡ s'
one-sheet-call s s' k w h out out' cells all all' read read' = one-sheet s s' _ all all' (read_is (read_sheet s) k w h out cells read) (read_is (read_sheet s') k w h out' cells read')
