-- `heap_text::text::put_cell` meets its contract: eight digits, and a byte.
use Rattle.heap_text.specs.Text.{cell_text}
use Rattle.texts.proofs.Pens.{writes_then}
use Rattle.heap_text.proofs.text.put_cell.Goals as goal

pub returns : goal.returns
unfolding cell_text
returns c = rw (← c.pattern.ensures, ← c.from.ensures) (writes_then c.put_digits.ensures c.put_byte.ensures)
