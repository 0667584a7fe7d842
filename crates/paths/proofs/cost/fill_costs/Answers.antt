-- `paths::cost::fill_costs` meets its contract: before the turn of pixel p the costs of the pixels below p are filled. Assumes nothing.
use Prim.Native.Nat.{◌+◌, ◌*◌}
use native.Mathlib.Nat.{zero-mul}
use native.Mathlib.Omega.{arith}
use Rattle.paths.specs.Cost.{costs_from}
use Rattle.paths.proofs.Blocks.{begun_none, begun_lent}
use Rattle.paths.proofs.Costed.{costs-length, from-length, pixels-end, costs-turn, costs-done}
use Rattle.paths.proofs.cost.fill_costs.Goals as goal

pub loop-p-init : goal.loop-p-init
loop-p-init c = let a = c.args in rw zero-mul (begun_none (omega (arith, costs-length a.area a.count a.raw.now, c.requires)))

pub slice_bounds-fill_pixels-end : goal.slice_bounds-fill_pixels-end
slice_bounds-fill_pixels-end c =
    let a = c.args in
    omega (arith, pixels-end a.area a.count a.raw.now c.loop-p.p c.min-n.result (omega (arith, c.min-n.ensures, c.loop-p-test.true)), c.requires, c.loop-p.auto.costs)

pub loop-p-preserved : goal.loop-p-preserved
loop-p-preserved c =
    let a = c.args in
    let p = c.loop-p.p in
    let n = c.min-n.result in
    let made = costs_from a.area a.count p n a.raw.now in
    begun_lent ((p + 16) * a.count) (p * a.count) _ c.loop-p.costs c.fill_pixels.new.costs made c.fill_pixels.ensures (omega (arith, from-length a.area a.count p n a.raw.now))
    (costs-turn a.area a.count a.raw.now c.loop-p.costs p n c.loop-p-test.true c.min-n.ensures c.loop-p.invariant)

pub returns : goal.returns
returns c = let a = c.args in costs-done a.area a.count a.raw.now c.loop-p-test.false c.loop-p.invariant

pub returns-2 : goal.returns-2
returns-2 c =
    let a = c.args in
    let p = c.loop-p.p in
    let n = c.min-n.result in
    let made = costs_from a.area a.count p n a.raw.now in
    costs-done a.area a.count a.raw.now {p = p + 16} (omega arith)
    (begun_lent ((p + 16) * a.count) (p * a.count) _ c.loop-p.costs c.fill_pixels.new.costs made c.fill_pixels.ensures (omega (arith, from-length a.area a.count p n a.raw.now))
    (costs-turn a.area a.count a.raw.now c.loop-p.costs p n c.loop-p-test.true c.min-n.ensures c.loop-p.invariant))
