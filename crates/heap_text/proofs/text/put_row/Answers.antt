-- `heap_text::text::put_row` meets its contract: a turn puts one cell more.
use Rattle.std.proofs.Common.{◌≡◌, ℕ, ◌+◌, List, [], ◌∷◌, ◌++◌, length, drop, cond, eqb, get_or, refl, sym, ap, ◌∙◌, append_assoc, append-nil, length-append, arith}
use lib.ListN.{drop_of_length-le}
use lib.Ieee.{Float, nan}
use borrow.Author.Tests.{eq-eqb, ne_eqb}
use Rattle.heap_text.specs.Text.{cell_text, row_text}
use Rattle.texts.proofs.Pens.{writes_then, writes_length}
use Rattle.heap_text.proofs.Rows.{cell-length, row_more}
use Rattle.heap_text.proofs.text.put_row.Goals.{then-i-cells, else-i-cells}
use Rattle.heap_text.proofs.text.put_row.Goals as goal

pub put_cell-requires : goal.put_cell-requires
put_cell-requires c =
    let p = c.loop-i.invariant in
    omega (arith, p.1, p.3.wrote.place, writes_length p.3)

pub loop-i-preserved : goal.loop-i-preserved
loop-i-preserved c =
    let cells = c.args.cells.now in
    let i = c.loop-i.i in
    let p = c.loop-i.invariant in
    let x = get_or cells i nan in
    let e = c.if-i-cells.end in
    let eq : e ≡ cond (eqb (i + 1) (length cells)) 10 32 = elim c.if-i-cells.branch [ then-i-cells w ↦ w.end-is ∙ rw (eq-eqb (i + 1) (length cells) w.if-i-cells.true) | else-i-cells w ↦ w.end-is ∙ rw (ne_eqb (i + 1) (length cells) w.if-i-cells.false) ] in (
      p.0 ++ (cell_text x ++ (e ∷ [])),
      omega (arith, p.1, length-append p.0 (cell_text x ++ (e ∷ [])), length-append (cell_text x) (e ∷ []), cell-length x),
      append_assoc p.0 (cell_text x ++ (e ∷ [])) (row_text (drop (i + 1) cells))
          ∙ ap (λ (k : ℕ). p.0 ++ ((cell_text x ++ (k ∷ [])) ++ row_text (drop (i + 1) cells))) eq
          ∙ ap (λ (r : List ℕ). p.0 ++ r) (row_more cells i nan c.loop-i-test.true)
          ∙ p.2,
      writes_then p.3 c.put_cell.ensures,
    )

pub loop-i-init : goal.loop-i-init
loop-i-init c = ([], refl, refl, record { same_slice = refl; wrote = record { bytes = refl; place = omega arith } })

pub returns : goal.returns
returns c =
    let cells = c.args.cells.now in
    let p = c.loop-i.invariant in
    let all : p.0 ≡ row_text cells =
    sym (append-nil p.0) ∙ ap (λ (r : List Float). p.0 ++ row_text r) (sym (drop_of_length-le cells c.loop-i-test.false)) ∙ p.2 in
    rw (← all) p.3
