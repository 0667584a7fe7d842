-- `heap_text::text::put_row` meets its contract: at each turn the text of the cells passed stands.
use Rattle.std.proofs.Common.{◌≡◌, ℕ, ◌*◌, List, ◌++◌, length, drop}
use Rattle.heap_text.specs.Text.{row_text}
use Rattle.texts.specs.Pen.{Writes}
use Rattle.heap_text.proofs.text.put_row.Given as goal

abbrev pub invariant-loop-i : goal.invariant-loop-i
invariant-loop-i l = (p : List ℕ) × (length p ≡ 9 * l.i) × (p ++ row_text (drop l.i l.cells) ≡ row_text l.cells) × Writes l.initial.pen p l.pen
