-- `netpbm::writing::put_rows` meets its contract: at each turn the bytes of the rows passed stand. Assumes nothing.
use Rattle.std.proofs.Common.{List}
use lib.Ieee.{Float}
use Rattle.lists.proofs.Rows.{Upward}
use Rattle.texts.specs.Pen.{Writes}
use Rattle.netpbm.specs.Pfm.{cells_bytes}
use Rattle.netpbm.proofs.writing.put_rows.Given as goal

abbrev pub invariant-loop-y : goal.invariant-loop-y
invariant-loop-y l = (done : List Float) × Upward l.width l.height l.cells l.y done × Writes l.initial.pen (cells_bytes l.order done) l.pen
