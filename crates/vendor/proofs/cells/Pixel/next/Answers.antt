-- `Pixel::next` meets its contract. Assumes nothing.
use mathlib.Core.Path.{refl}
use native.Mathlib.Nat.{mod-le, div-le_self}
use native.Mathlib.Omega.{arith}
use Rattle.vendor.proofs.Asking.{next_row, next-column}
use Rattle.vendor.proofs.cells.Pixel.next.Goals as goal

pub overflow_add-self : goal.overflow_add-self
overflow_add-self c = let a = c.args in omega (arith, c.requires.0.column, mod-le a.self.p a.w)

pub overflow_add-result-then-self-w : goal.overflow_add-result-then-self-w
overflow_add-result-then-self-w c =
    omega (arith, c.requires.0.row, div-le_self c.args.self.p c.args.w)

pub returns-then-self-w : goal.returns-then-self-w
returns-then-self-w c =
    (refl, next_row c.requires.0 c.requires.1 c.if-self-w.true)

pub overflow_add-result-3 : goal.overflow_add-result-3
overflow_add-result-3 c =
    omega (arith, c.requires.0.column, mod-le c.args.self.p c.args.w)

pub returns : goal.returns
returns c =
    (refl, next-column c.requires.0 c.requires.1 c.if-self-w.false)
