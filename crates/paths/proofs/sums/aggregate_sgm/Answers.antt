-- `paths::sums::aggregate_sgm` meets its contract: after so many turns so many directions are added. Assumes nothing.
use Prim.Native.Nat.{◌<◌}
use mathlib.Core.Path.{◌≡◌, ap, ◌∙◌}
use mathlib.Core.List.{[]}
use lib.ListN.{get_or}
use native.Mathlib.Omega.{arith}
use lib.Ieee.{of_bits}
use Rattle.paths.specs.Path.{add_vec}
use Rattle.paths.specs.Walk.{zeros, walk_along, path_volume, directions}
use Rattle.paths.proofs.Added.{read_back, same-walk, added_none, added_more, added-done}
use Rattle.paths.proofs.sums.aggregate_sgm.Goals as goal

pub loop-dx-init : goal.loop-dx-init
unfolding of_bits
loop-dx-init c =
    let a = c.args in
    added_none a.w a.h a.count a.p1 a.p2 a.costs.now c.fill.new.self (c.fill.ensures.after (λ y e. e) ∙ ap zeros c.requires.lengths.2)

pub loop-dx-preserved : goal.loop-dx-preserved
loop-dx-preserved c =
    let a = c.args in
    let l = c.loop-dx in
    let along = walk_along a.w a.h a.count a.p1 a.p2 in
    let less : l.dx-index < 8 = c.loop-dx-test.true in
    let step : c.add_paths.new.sums ≡ add_vec l.sums (path_volume (along (read_back (get_or directions l.dx-index []))) a.costs.now) = c.add_paths.ensures in
    rw (step, same-walk l.dx-index less a.w a.h a.count a.p1 a.p2) (added_more a.w a.h a.count a.p1 a.p2 a.costs.now l.sums l.dx-index l.invariant less)

pub returns : goal.returns
returns c =
    let a = c.args in
    let end : c.loop-dx.dx-index ≡ 8 = omega (arith, c.loop-dx-test.false, c.loop-dx.auto.dx-index-end) in
    added-done a.w a.h a.count a.p1 a.p2 a.costs.now (rw end at c.loop-dx.invariant)
