-- `netpbm::pfm::fill_row` meets its contract: at each turn the cells passed stand. Assumes nothing.
use Rattle.netpbm.proofs.Rasters.{filled_more}
use Rattle.netpbm.proofs.pfm.fill_row.Goals as goal

pub loop-i-preserved : goal.loop-i-preserved
loop-i-preserved c = filled_more _ _ _ _ _ _ c.loop-i.invariant c.loop-i-test.true c.cell_at.ensures
