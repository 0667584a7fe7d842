-- `sheets::writing::cells_length` meets its contract: at each turn the total counts the bytes of the cells passed. Assumes nothing.
use Rattle.std.proofs.Common.{◌≡◌, ℕ, List, length}
use Rattle.sheets.proofs.Writings.{Passed}
use Rattle.sheets.proofs.writing.cells_length.Given as goal

abbrev pub invariant-loop-x : goal.invariant-loop-x
invariant-loop-x l = (done : List ℕ) × Passed l.kind l.cells l.x-index done × (length done ≡ l.total)
