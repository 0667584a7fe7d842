-- `netpbm::writing::put_row` meets its contract: at each turn the bytes of the cells passed stand. Assumes nothing.
use Rattle.std.proofs.Common.{◌≤◌, length, take}
use Rattle.texts.specs.Pen.{Writes}
use Rattle.netpbm.specs.Pfm.{cells_bytes}
use Rattle.netpbm.proofs.writing.put_row.Given as goal

abbrev pub invariant-loop-x : goal.invariant-loop-x
invariant-loop-x l = (l.x-index ≤ length l.cells) × Writes l.initial.pen (cells_bytes l.order (take l.x-index l.cells)) l.pen
