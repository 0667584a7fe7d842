-- `options::RawCost::from` meets its contract: -1 / 0 is negative infinity. Assumes nothing.
use mathlib.Core.Path.{sym, ap}
use mathlib.Core.Bool.{Bool, cond}
use lib.Ieee.{div, neg, of_bits}
use Rattle.options.specs.declared.RawCost.{RawCost}
use Rattle.options.specs.declared.RawCost.TheVariants.{Blank, Corr}
use Rattle.options.proofs.RawCostFromF32.from.Goals as goal

pub returns-then-cell : goal.returns-then-cell
unfolding div neg of_bits
returns-then-cell c = sym (ap (λ (t : Bool). cond {A = RawCost} t Blank (Corr c.args.cell)) c.if-cell.true)

pub returns-else-cell : goal.returns-else-cell
unfolding div neg of_bits
returns-else-cell c = sym (ap (λ (t : Bool). cond {A = RawCost} t Blank (Corr c.args.cell)) c.if-cell.false)
