-- `paths::cost::Turn::row` meets its contract: after x turns the cells of x pixels are made. Assumes nothing.
use Rattle.std.proofs.Common.{◌*◌}
use Rattle.paths.specs.Cost.{turned_row}
use Rattle.paths.proofs.Blocks.{Begun}
use Rattle.paths.proofs.cost.Turn.row.Given as goal

abbrev pub invariant-loop-x : goal.invariant-loop-x
invariant-loop-x l = Begun (turned_row l.self.w l.self.count l.shift l.row) l.to (l.x * l.self.count)
