-- `choices::block::RowCosts::span` meets its contract: the shift lies within the row, and the products are small. Assumes nothing.
use Rattle.std.proofs.Common.{arith}
use Rattle.choices.proofs.Spans.{Within, places, shift-within}
use Rattle.choices.proofs.block.RowCosts.span.Goals as goal

pub overflow_add-result : goal.overflow_add-result
overflow_add-result c =
    let a = c.args.self in
    let z = places a.row a.search c.args.k a.within.sizes c.requires in
    let s : Within a.row.w c.shift-shift.result = rw c.shift-shift.ensures (shift-within a.row.seen a.row.w a.search.first c.args.k) in
    omega arith
