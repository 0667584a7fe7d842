-- `choices::block::RowCosts::finish` meets its contract: before column x the columns below x hold their choices, the others their competitors. Assumes nothing.
use Rattle.std.proofs.Common.{◌≡◌, ◌++◌, drop}
use Rattle.maps.specs.Cells.{in_buffer}
use Rattle.lists.specs.Lists.{list_of}
use Rattle.choices.specs.RowChoice.{column_cell}
use Rattle.choices.proofs.block.RowCosts.finish.Given as goal

abbrev pub invariant-loop-x : goal.invariant-loop-x
invariant-loop-x l = l.most ≡ list_of l.x (λ x. in_buffer (column_cell l.self.row l.r l.self.search l.gates l.self.raw.now x)) ++ drop l.x l.initial.most
