-- `netpbm::pfm::fill_row` meets its contract: at each turn the cells passed stand. Assumes nothing.
use Rattle.netpbm.proofs.Rasters.{Filled}
use Rattle.netpbm.proofs.pfm.fill_row.Given as goal

abbrev pub invariant-loop-i : goal.invariant-loop-i
invariant-loop-i l = Filled l.order l.s l.initial.out l.i l.out
