-- `choices::block::select_block` meets its contract: before row y the rows below y are the map's. Assumes nothing.
use Rattle.choices.specs.RowChoice.{chosen_at}
use Rattle.choices.proofs.MapRows.{RowsInv}
use Rattle.choices.proofs.block.select_block.Given as goal

abbrev pub invariant-loop-y : goal.invariant-loop-y
invariant-loop-y l = RowsInv (chosen_at l.seen l.w l.h l.r l.search l.gates l.raw) l.w l.h l.r l.out l.y
