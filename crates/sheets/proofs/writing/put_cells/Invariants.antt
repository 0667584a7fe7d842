-- `sheets::writing::put_cells` meets its contract: at each turn the bytes of the cells passed stand. Assumes nothing.
use Rattle.std.proofs.Common.{ℕ, List}
use Rattle.lists.specs.Stores.{Wrote}
use Rattle.sheets.proofs.Writings.{Passed}
use Rattle.sheets.proofs.writing.put_cells.Given as goal

abbrev pub invariant-loop-x : goal.invariant-loop-x
invariant-loop-x l = (done : List ℕ) × Passed l.kind l.cells l.x-index done × Wrote l.initial.out l.at done l.out l.next
