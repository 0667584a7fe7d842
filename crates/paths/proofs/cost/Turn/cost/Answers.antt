-- `paths::cost::Turn::cost` meets its contract. Assumes nothing.
use mathlib.Core.Path.{refl}
use lib.Ieee.{of_bits}
use Rattle.paths.proofs.Turning.{turned_left, turned-inside, turned_right}
use Rattle.paths.proofs.cost.Turn.cost.Goals as goal

pub returns-then-far-back : goal.returns-then-far-back
unfolding of_bits
returns-then-far-back c =
    let a = c.args in
    turned_left a.self.w a.self.count a.far a.row.now a.k c.if-far-back.true

pub returns-then-x-self : goal.returns-then-x-self
returns-then-x-self c =
    let a = c.args in
    turned-inside a.self.w a.self.count a.far a.row.now a.k _ c.if-far-back.false refl c.if-x-self.true

pub returns-else-x-self : goal.returns-else-x-self
unfolding of_bits
returns-else-x-self c =
    let a = c.args in
    turned_right a.self.w a.self.count a.far a.row.now a.k c.if-far-back.false c.if-x-self.false
