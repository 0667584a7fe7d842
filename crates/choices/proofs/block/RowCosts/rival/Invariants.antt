-- `choices::block::RowCosts::rival` meets its contract: before index k the competitors are those below k. Assumes nothing.
use Rattle.std.proofs.Common.{◌≡◌}
use Rattle.choices.specs.RowChoice.{rival_row}
use Rattle.choices.proofs.block.RowCosts.rival.Given as goal

abbrev pub invariant-loop-k : goal.invariant-loop-k
invariant-loop-k l = l.most ≡ rival_row l.self.row l.self.search l.self.raw.now l.k
