-- `sheets::number::read_number` meets its contract: at each turn the number is what the groups passed give, joined to what follows. Assumes nothing.
use Rattle.sheets.proofs.Numbers.{Read}
use Rattle.sheets.proofs.number.read_number.Given as goal

abbrev pub invariant-loop-before : goal.invariant-loop-before
invariant-loop-before l = Read l.s l.rest l.value l.unit l.before
