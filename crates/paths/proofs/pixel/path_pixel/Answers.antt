-- `paths::pixel::path_pixel` meets its contract: before the turn of index k the path costs below k are made. Assumes nothing.
use mathlib.Core.Path.{sym, ◌∙◌}
use Prim.Native.Nat.{◌-◌}
use native.Mathlib.Nat.{le_refl}
use lib.ListN.{length}
use native.Mathlib.Omega.{arith}
use Rattle.paths.proofs.Blocks.{begun_none, begun_cell, begun_all}
use Rattle.paths.proofs.Steps.{length-step, get_d-step, below-some, above-some, cell-is}
use Rattle.paths.proofs.pixel.path_pixel.Goals as goal

pub loop-k-init : goal.loop-k-init
loop-k-init c =
    let a = c.args in
    let long = length-step a.p1 a.p2 a.prev.now a.cost.now in
    begun_cell (begun_none (omega arith)) 0 (omega arith) (omega arith) c.path_end.result (c.path_end.ensures ∙ sym (get_d-step a.p1 a.p2 a.prev.now a.cost.now 0 (omega arith)))

pub loop-k-preserved : goal.loop-k-preserved
loop-k-preserved c =
    let a = c.args in
    let k = c.loop-k.k in
    let long = length-step a.p1 a.p2 a.prev.now a.cost.now in
    begun_cell c.loop-k.invariant k (le_refl k) (omega arith) c.path_cell.result
    (c.path_cell.ensures
    ∙ cell-is a.p1 a.p2 c.least_of-least.result _ _ a.prev.now a.cost.now k c.least_of-least.ensures (below-some a.p1 a.prev.now k (omega arith)) (above-some a.p1 a.prev.now k (omega arith))
    ∙ sym (get_d-step a.p1 a.p2 a.prev.now a.cost.now k (omega arith)))

pub returns : goal.returns
returns c =
    let a = c.args in
    let last = length a.cost.now - 1 in
    let long = length-step a.p1 a.p2 a.prev.now a.cost.now in
    begun_all
    (begun_cell c.loop-k.invariant last c.loop-k-test.false (omega arith) c.path_end-2.result (c.path_end-2.ensures ∙ sym (get_d-step a.p1 a.p2 a.prev.now a.cost.now last (omega arith))))
    (omega arith)
