-- `heap_text::text::put_map` meets its contract: the line, and then the rows.
use Rattle.std.proofs.Common.{◌*◌}
use Rattle.heap_text.specs.Text.{map_text}
use Rattle.heap_text.proofs.Rows.{line-most}
use Rattle.texts.proofs.Pens.{writes_then, room_after}
use Rattle.heap_text.proofs.text.put_map.Goals as goal

pub put_rows-requires-clause-h_in_bounds_2 : goal.put_rows-requires-clause-h_in_bounds_2
put_rows-requires-clause-h_in_bounds_2 c =
    let a = c.args in
    room_after 19 (9 * (a.w * a.h)) c.put_map_line.ensures (line-most a.w a.h a.valid) c.requires.h_in_bounds_2

pub returns : goal.returns
unfolding map_text
returns c = writes_then c.put_map_line.ensures c.put_rows.ensures
