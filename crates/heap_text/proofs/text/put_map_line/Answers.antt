-- `heap_text::text::put_map_line` meets its contract: seven texts, one after another.
use Rattle.std.proofs.Common.{arith}
use Rattle.texts.proofs.Digits.{decimal-most}
use Rattle.texts.proofs.Pens.{writes_then, room_after}
use Rattle.texts.specs.Pen.{HasRoom}
use Rattle.heap_text.specs.Text.{map_line}
use Rattle.heap_text.proofs.text.put_map_line.Goals.{After-put_decimal, After-put_byte, After-put_decimal-2, After-put_byte-2, After-put_decimal-3}
use Rattle.heap_text.proofs.text.put_map_line.Goals as goal

after-width : (c : After-put_decimal) → HasRoom c.put_decimal.new.self 11
after-width c = room_after 4 11 c.put_decimal.ensures (decimal-most c.args.w) (room_after 4 15 c.put_bytes.ensures (omega arith) c.requires)

after-space : (c : After-put_byte) → HasRoom c.put_byte.new.self 10
after-space c = room_after 1 10 c.put_byte.ensures (omega arith) (after-width (goal.at.After-put_byte c).After-put_decimal)

after-height : (c : After-put_decimal-2) → HasRoom c.put_decimal-2.new.self 6
after-height c = room_after 4 6 c.put_decimal-2.ensures (decimal-most c.args.h) (after-space (goal.at.After-put_decimal-2 c).After-put_byte)

after-space-2 : (c : After-put_byte-2) → HasRoom c.put_byte-2.new.self 5
after-space-2 c = room_after 1 5 c.put_byte-2.ensures (omega arith) (after-height (goal.at.After-put_byte-2 c).After-put_decimal-2)

pub put_byte-requires : goal.put_byte-requires
put_byte-requires c = omega (arith, after-width (goal.at.put_byte-requires c).After-put_decimal)

pub put_decimal-requires-2 : goal.put_decimal-requires-2
put_decimal-requires-2 c = omega (arith, after-space (goal.at.put_decimal-requires-2 c).After-put_byte)

pub put_byte-requires-2 : goal.put_byte-requires-2
put_byte-requires-2 c = omega (arith, after-height (goal.at.put_byte-requires-2 c).After-put_decimal-2)

pub put_decimal-requires-3 : goal.put_decimal-requires-3
put_decimal-requires-3 c = omega (arith, after-space-2 (goal.at.put_decimal-requires-3 c).After-put_byte-2)

pub put_byte-requires-3 : goal.put_byte-requires-3
put_byte-requires-3 c = room_after 4 1 c.put_decimal-3.ensures (decimal-most c.args.valid) (after-space-2 (goal.at.put_byte-requires-3 c).After-put_byte-2)

pub returns : goal.returns
unfolding map_line
returns c =
    writes_then (writes_then (writes_then (writes_then (writes_then (writes_then c.put_bytes.ensures c.put_decimal.ensures) c.put_byte.ensures) c.put_decimal-2.ensures) c.put_byte-2.ensures) c.put_decimal-3.ensures) c.put_byte-3.ensures
