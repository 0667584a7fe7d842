-- `heap_text::text::put_refused` meets its contract: three texts, one after another.
use Rattle.std.proofs.Common.{arith}
use Rattle.texts.proofs.Digits.{decimal-most}
use Rattle.texts.proofs.Pens.{writes_then, room_after}
use Rattle.heap_text.specs.Text.{refused_text}
use Rattle.heap_text.proofs.text.put_refused.Goals as goal

pub put_byte-requires : goal.put_byte-requires
put_byte-requires c = room_after 4 1 c.put_decimal.ensures (decimal-most c.args.number) (room_after 8 5 c.put_bytes.ensures (omega arith) c.requires)

pub returns : goal.returns
unfolding refused_text
returns c = writes_then (writes_then c.put_bytes.ensures c.put_decimal.ensures) c.put_byte.ensures
