-- `sheets::number::number_length` meets its contract: the count is one more than the groups passed. Assumes nothing.
use Rattle.std.proofs.Common.{◌≡◌, ℕ, suc, List, length}
use Rattle.sheets.proofs.Numbers.{Left}
use Rattle.sheets.proofs.number.number_length.Given as goal

abbrev pub invariant-loop-left : goal.invariant-loop-left
invariant-loop-left l = (done : List ℕ) × Left l.n done l.left × (l.length ≡ suc (length done))

abbrev pub decreases-loop-left : goal.decreases-loop-left
decreases-loop-left l = l.left
