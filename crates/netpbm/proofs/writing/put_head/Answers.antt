-- `netpbm::writing::put_head` meets its contract: six texts, one after another. Assumes nothing.
use Rattle.std.proofs.Common.{◌+◌, length, arith}
use Rattle.texts.specs.Digits.{decimal_text}
use Rattle.texts.specs.Pen.{HasRoom}
use Rattle.texts.proofs.Pens.{writes_then}
use Rattle.netpbm.specs.Pfm.{pfm_head}
use Rattle.netpbm.proofs.PfmWritings.{head_sum, room_left}
use Rattle.netpbm.proofs.writing.put_head.Goals.{After-put_bytes, After-put_decimal, After-put_byte, After-put_decimal-2, After-put_byte-2}
use Rattle.netpbm.proofs.writing.put_head.Goals as goal

-- the room that is left, text by text
after-magic : (c : After-put_bytes) → HasRoom c.put_bytes.new.self (length (decimal_text c.args.width) + (length (decimal_text c.args.height) + 7))
after-magic c = let s = c.args in room_left _ _ c.put_bytes.ensures c.requires (omega (arith, head_sum s.width s.height))

after-width : (c : After-put_decimal) → HasRoom c.put_decimal.new.self (length (decimal_text c.args.height) + 7)
after-width c = room_left _ _ c.put_decimal.ensures (after-magic (goal.at.After-put_decimal c).After-put_bytes) (omega arith)

after-space : (c : After-put_byte) → HasRoom c.put_byte.new.self (length (decimal_text c.args.height) + 6)
after-space c = room_left _ _ c.put_byte.ensures (after-width (goal.at.After-put_byte c).After-put_decimal) (omega arith)

after-height : (c : After-put_decimal-2) → HasRoom c.put_decimal-2.new.self 6
after-height c = room_left _ _ c.put_decimal-2.ensures (after-space (goal.at.After-put_decimal-2 c).After-put_byte) (omega arith)

after-end : (c : After-put_byte-2) → HasRoom c.put_byte-2.new.self 5
after-end c = room_left _ _ c.put_byte-2.ensures (after-height (goal.at.After-put_byte-2 c).After-put_decimal-2) (omega arith)

pub put_bytes-requires : goal.put_bytes-requires
put_bytes-requires c = let s = c.args in omega (arith, head_sum s.width s.height)

pub put_decimal-requires : goal.put_decimal-requires
put_decimal-requires c = omega (arith, after-magic (goal.at.put_decimal-requires c).After-put_bytes)

pub put_byte-requires : goal.put_byte-requires
put_byte-requires c = omega (arith, after-width (goal.at.put_byte-requires c).After-put_decimal)

pub put_decimal-requires-2 : goal.put_decimal-requires-2
put_decimal-requires-2 c = omega (arith, after-space (goal.at.put_decimal-requires-2 c).After-put_byte)

pub put_byte-requires-2 : goal.put_byte-requires-2
put_byte-requires-2 c = omega (arith, after-height (goal.at.put_byte-requires-2 c).After-put_decimal-2)

pub put_bytes-requires-2 : goal.put_bytes-requires-2
put_bytes-requires-2 c = omega (arith, after-end (goal.at.put_bytes-requires-2 c).After-put_byte-2)

pub returns : goal.returns
unfolding pfm_head
returns c =
    writes_then (writes_then (writes_then (writes_then (writes_then c.put_bytes.ensures c.put_decimal.ensures) c.put_byte.ensures) c.put_decimal-2.ensures) c.put_byte-2.ensures) c.put_bytes-2.ensures
