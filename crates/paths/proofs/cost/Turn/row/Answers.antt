-- `paths::cost::Turn::row` meets its contract: after x turns the cells of x pixels are made. Assumes nothing.
use Prim.Native.Nat.{◌+◌, ◌*◌}
use native.Mathlib.Nat.{zero-mul, mul-le-mul_right}
use native.Mathlib.Omega.{arith}
use Rattle.lists.specs.Lists.{list_of}
use Rattle.lists.proofs.Lists.{list_of-length}
use Rattle.paths.specs.Cost.{turned_at}
use Rattle.paths.proofs.Blocks.{begun_none, begun_all, begun_lent}
use Rattle.paths.proofs.Turning.{line-length, row-turn}
use Rattle.paths.proofs.cost.Turn.row.Goals as goal

pub loop-x-init : goal.loop-x-init
loop-x-init c = let k = c.args.self in rw zero-mul (begun_none (omega (arith, line-length k.w k.count c.args.shift c.args.row.now, c.requires.lengths)))

pub loop-x-preserved : goal.loop-x-preserved
loop-x-preserved c =
    let k = c.args.self in
    let x = c.loop-x.x in
    let made = turned_at k.w k.count (x + c.args.shift) c.args.row.now in
    begun_lent _ (x * k.count) _ c.loop-x.to c.pixel.new.to (list_of k.count made) c.pixel.ensures (omega (arith, list_of-length k.count made))
    (row-turn k.w k.count c.args.shift c.args.row.now c.loop-x.to x c.loop-x-test.true c.loop-x.invariant)

pub returns : goal.returns
returns c =
    let k = c.args.self in
    begun_all c.loop-x.invariant (omega (arith, line-length k.w k.count c.args.shift c.args.row.now, mul-le-mul_right k.count c.loop-x-test.false))
