-- `sheets::number::put_number` meets its contract: at each turn the groups passed stand. Assumes nothing.
use Rattle.std.proofs.Common.{ℕ, List}
use Rattle.lists.specs.Stores.{Wrote}
use Rattle.sheets.proofs.Numbers.{Left}
use Rattle.sheets.proofs.number.put_number.Given as goal

abbrev pub invariant-loop-rest : goal.invariant-loop-rest
invariant-loop-rest l = (done : List ℕ) × Left l.n done l.rest × Wrote l.initial.out l.at done l.out l.next

abbrev pub decreases-loop-rest : goal.decreases-loop-rest
decreases-loop-rest l = l.rest
