-- `netpbm::pfm::fill_rows` meets its contract: at each turn the rows passed stand. Assumes nothing.
use Rattle.netpbm.proofs.Rasters.{FilledRows}
use Rattle.netpbm.proofs.pfm.fill_rows.Given as goal

abbrev pub invariant-loop-y : goal.invariant-loop-y
invariant-loop-y l = FilledRows l.order l.width l.height l.s l.initial.out l.y l.from l.out
