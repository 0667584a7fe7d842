-- `rows::fresh_index` meets its contract: at each turn the first y records are those of the rows, and the others are as they were. Assumes nothing.
use Rattle.std.proofs.Common.{◌≡◌}
use Rattle.rows.proofs.Writing.{upto}
use Rattle.rows.proofs.fresh_index.Given as goal

abbrev pub invariant-loop-y : goal.invariant-loop-y
invariant-loop-y l = l.index ≡ upto l.map.width l.map.cells.now l.fn.index l.y
