-- `heap_text::text::put_rows` meets its contract: at each turn the text of the rows passed stands.
use Rattle.std.proofs.Common.{◌≡◌, ℕ, ◌*◌, ◌-◌, ◌≤◌, List, ◌++◌, length}
use Rattle.heap_text.specs.Text.{rows_text}
use Rattle.texts.specs.Pen.{Writes}
use Rattle.heap_text.proofs.text.put_rows.Given as goal

abbrev pub invariant-loop-y : goal.invariant-loop-y
invariant-loop-y l =
    (l.w * (l.h - l._y) ≤ length l.rest) × ((p : List ℕ) × (length p ≡ 9 * (l.w * l._y)) × (p ++ rows_text l.w (l.h - l._y) l.rest ≡ rows_text l.w l.h l.cells) × Writes l.initial.pen p l.pen)
