-- `windows::fill_rows` meets its contract: the table's rows, one after the other. Assumes nothing.
use Rattle.windows.proofs.Tables.{TableInv}
use Rattle.windows.proofs.fill_rows.Given as goal

abbrev pub invariant-loop-y : goal.invariant-loop-y
invariant-loop-y g l = TableInv l.w l.h g.v l.initial.table l.table l.y
