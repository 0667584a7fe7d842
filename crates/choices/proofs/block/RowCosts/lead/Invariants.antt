-- `choices::block::RowCosts::lead` meets its contract: before index k the row is led by the indices below k. Assumes nothing.
use Rattle.std.proofs.Common.{◌≡◌}
use Rattle.choices.specs.RowChoice.{most_row, at_row}
use Rattle.choices.proofs.block.RowCosts.lead.Given as goal

abbrev pub invariant-loop-k : goal.invariant-loop-k
invariant-loop-k l = record {
  most_is : l.most ≡ most_row l.self.row l.self.search l.self.raw.now l.k;
  at_is : l.at ≡ at_row l.self.row l.self.search l.self.raw.now l.k;
}
