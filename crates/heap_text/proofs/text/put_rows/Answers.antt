-- `heap_text::text::put_rows` meets its contract: a turn puts one row more.
use Rattle.std.proofs.Common.{◌≡◌, ℕ, ◌+◌, ◌*◌, ◌-◌, ◌≤◌, List, [], ◌++◌, length, suc, refl, sym, ap, ◌∙◌, append_assoc, append-nil, length-append, mul-zero, arith}
use native.Mathlib.Nat.{mul-suc, sub-zero}
use native.Mathlib.Numerals.{add-one}
use Rattle.heap_text.specs.Text.{row_text, rows_text}
use Rattle.texts.proofs.Pens.{writes_then, writes_length}
use Rattle.heap_text.proofs.Rows.{row-length, row_inside}
use Rattle.heap_text.proofs.text.put_rows.Goals.{In-loop-y}
use Rattle.heap_text.proofs.text.put_rows.Goals as goal

pub loop-y-init : goal.loop-y-init
loop-y-init c =
    rw sub-zero
    (c.requires.h_in_bounds, ([], sym (ap (λ (k : ℕ). 9 * k) (mul-zero c.args.w)), refl, record { same_slice = refl; wrote = record { bytes = refl; place = omega arith } }))

-- one row more is left
left : (c : In-loop-y) → c.args.h - c.loop-y._y ≡ suc (c.args.h - (c.loop-y._y + 1))
left c = omega arith

inside : (c : In-loop-y) → c.args.w + c.args.w * (c.args.h - (c.loop-y._y + 1)) ≤ length c.loop-y.rest.now
inside c = omega (arith, c.loop-y.invariant.0, ap (λ (k : ℕ). c.args.w * k) (left c), mul-suc c.args.w (c.args.h - (c.loop-y._y + 1)))

pub split_at-requires : goal.split_at-requires
split_at-requires c = omega (arith, inside c)

pub put_row-requires : goal.put_row-requires
put_row-requires c =
    let p = c.loop-y.invariant.1 in
    omega (arith, p.1, p.3.wrote.place, writes_length p.3, c.split_at.ensures.front_len, row_inside c.args.w c.args.h c.loop-y._y c.loop-y-test.true, c.requires.h_in_bounds_2)

pub loop-y-preserved : goal.loop-y-preserved
loop-y-preserved c =
    let k = (goal.at.loop-y-preserved c).In-loop-y in
    let a = c.args in
    let p = c.loop-y.invariant.1 in
    let s = c.split_at.ensures in
    let row = c.split_at.result.0.now in
    let below = c.split_at.result.1.now in
    let more = rows_text a.w (a.h - (c.loop-y._y + 1)) below in
    let one : row_text row ++ more ≡ rows_text a.w (a.h - c.loop-y._y) c.loop-y.rest.now = rw (left k, s.front, s.back) in (
      omega (arith, inside k, s.back_len),
      (
        p.0 ++ row_text row,
        rw (add-one, mul-suc) (omega (arith, p.1, length-append p.0 (row_text row), row-length row, s.front_len)),
        append_assoc p.0 (row_text row) more ∙ ap (λ (r : List ℕ). p.0 ++ r) one ∙ p.2,
        writes_then p.3 c.put_row.ensures,
      ),
    )

pub returns : goal.returns
returns c =
    let a = c.args in
    let p = c.loop-y.invariant.1 in
    let none : a.h - c.loop-y._y ≡ 0 = omega arith in
    let all : p.0 ≡ rows_text a.w a.h a.cells.now =
    sym (append-nil p.0) ∙ ap (λ (k : ℕ). p.0 ++ rows_text a.w k c.loop-y.rest.now) (sym none) ∙ p.2 in
    rw (← all) p.3
