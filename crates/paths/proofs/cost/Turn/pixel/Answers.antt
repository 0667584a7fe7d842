-- `paths::cost::Turn::pixel` meets its contract: after k turns the first k cells are made. Assumes nothing.
use mathlib.Core.Path.{sym, ◌∙◌}
use native.Mathlib.Nat.{le_refl}
use native.Mathlib.Omega.{arith}
use lib.Ieee.{nan}
use Rattle.lists.proofs.Lists.{list_of-length, list_of-at}
use Rattle.paths.specs.Cost.{turned_at}
use Rattle.paths.proofs.Blocks.{begun_none, begun_cell, begun_all}
use Rattle.paths.proofs.cost.Turn.pixel.Goals as goal

pub loop-k-init : goal.loop-k-init
loop-k-init c = let a = c.args in begun_none (omega (arith, list_of-length a.self.count (turned_at a.self.w a.self.count a.far a.row.now)))

pub loop-k-preserved : goal.loop-k-preserved
loop-k-preserved c =
    let a = c.args in
    let made = turned_at a.self.w a.self.count a.far a.row.now in
    let long = list_of-length a.self.count made in
    begun_cell c.loop-k.invariant c.loop-k.k (le_refl c.loop-k.k) (omega arith) c.cost.result (c.cost.ensures ∙ sym (list_of-at a.self.count made c.loop-k.k nan (omega arith)))

pub returns : goal.returns
returns c = let a = c.args in begun_all c.loop-k.invariant (omega (arith, list_of-length a.self.count (turned_at a.self.w a.self.count a.far a.row.now)))
