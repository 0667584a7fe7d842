-- `volume::grid::drop_points` meets its contract: each turn takes the next of the points. Assumes nothing.
use Prim.Native.Nat.{◌+◌}
use mathlib.Core.Path.{◌≡◌, sym, ◌∙◌}
use mathlib.Core.Bool.{cond}
use mathlib.Core.List.{List}
use native.Mathlib.Nat.{add-zero}
use native.Mathlib.Omega.{arith}
use lib.ListN.{length}
use Rattle.std.proofs.lemmas.List.{length_push}
use Rattle.std.proofs.lemmas.Iterator.{YieldsList-from_slice, YieldsList-from_zip}
use Rattle.std.proofs.lemmas.Iterator.Consumers.{YieldsList-turn, YieldsList-end}
use Rattle.volume.specs.declared.metres.Spot.{Spot}
use Rattle.volume.specs.Metres.{spots_of}
use Rattle.volume.specs.Heights.{is_inside}
use Rattle.volume.proofs.Spots.{Good, Taken, good, taken, spot-near, spots-length, threes-length}
use Rattle.volume.proofs.Filling.{falling-none, falling-more, falling-done}
use Rattle.volume.proofs.grid.drop_points.Goals.{Start, In-Some}
use Rattle.volume.proofs.grid.drop_points.Goals as goal

-- the points, and what their coordinates are
abbrev spots : (z : Start) → List Spot
spots z = spots_of z.args.points.xs.now z.args.points.ys.now z.args.points.zs.now

points : (z : Start) → Good z.args.points.xs.now z.args.points.ys.now z.args.points.zs.now
points z = good _ _ _ z.requires.good

-- this turn's coordinates
here : (c : In-Some) → Taken c.args.points.xs.now c.args.points.ys.now c.args.points.zs.now (length c.loop-x.yielded) ((c.in-Some.x.now, c.in-Some.y.now), c.in-Some.z.now)
here c =
    let g = points (goal.at.In-Some c).Start in
    let turn = YieldsList-turn {s = c.into_iter-x-iterator.result} (YieldsList-from_zip (YieldsList-from_zip (YieldsList-from_slice c.args.points.xs.now cc) (YieldsList-from_slice c.args.points.ys.now cc)) (YieldsList-from_slice c.args.points.zs.now cc)) c.loop-x.yielded c.loop-x.x-iterator c.loop-x.yielded_by _ c.next.new.self ((c.in-Some.x, c.in-Some.y), c.in-Some.z) c.in-Some.is c.next.ensures.steps in
    taken _ _ _ g _ _ (omega (arith, turn.0, threes-length _ _ _ g)) turn.1

pub loop-x-init : goal.loop-x-init
loop-x-init c =
    falling-none c.args.plan.site (spots (goal.at.loop-x-init c).Start) c.args.plan.fits.cell c.args.plan.fits.sides _ c.requires.empty

pub from_metres-requires-clause-x : goal.from_metres-requires-clause-x
from_metres-requires-clause-x c = (here (goal.at.from_metres-requires-clause-x c).In-Some).x-good

pub from_metres-requires-clause-y : goal.from_metres-requires-clause-y
from_metres-requires-clause-y c = (here (goal.at.from_metres-requires-clause-y c).In-Some).y-good

pub from_metres-requires-clause-z : goal.from_metres-requires-clause-z
from_metres-requires-clause-z c = (here (goal.at.from_metres-requires-clause-z c).In-Some).z-good

pub drop_point-requires-clause-near : goal.drop_point-requires-clause-near
drop_point-requires-clause-near c = rw c.from_metres.ensures (spot-near _ _ _ (here (goal.at.drop_point-requires-clause-near c).In-Some).z-good)

pub loop-x-preserved-then-drop_point : goal.loop-x-preserved-then-drop_point
loop-x-preserved-then-drop_point c =
    let at = c.loop-x in
    let p = c.from_metres.result in
    let next = rw (← c.from_metres.ensures) at (here (goal.at.loop-x-preserved-then-drop_point c).In-Some).here in
    let inside : at.inside + cond (is_inside c.args.plan.site p) 1 0 ≡ at.inside + 1 = rw (sym c.drop_point.ensures.inside ∙ c.if-drop_point.true) in
    rw (c.drop_point.ensures.raised, ← inside, length_push at.yielded ((c.in-Some.x, c.in-Some.y), c.in-Some.z)) (falling-more c.args.plan.site (spots (goal.at.loop-x-preserved-then-drop_point c).Start) at.grid at.inside (length at.yielded) p at.invariant next)

pub loop-x-preserved : goal.loop-x-preserved
loop-x-preserved c =
    let at = c.loop-x in
    let p = c.from_metres.result in
    let next = rw (← c.from_metres.ensures) at (here (goal.at.loop-x-preserved c).In-Some).here in
    let inside : at.inside + cond (is_inside c.args.plan.site p) 1 0 ≡ at.inside = rw (sym c.drop_point.ensures.inside ∙ c.if-drop_point.false) (add-zero at.inside) in
    rw (c.drop_point.ensures.raised, length_push at.yielded ((c.in-Some.x, c.in-Some.y), c.in-Some.z)) (rw inside at (falling-more c.args.plan.site (spots (goal.at.loop-x-preserved c).Start) at.grid at.inside (length at.yielded) p at.invariant next))

pub returns-clause-inside : goal.returns-clause-inside
returns-clause-inside c =
    let g = points (goal.at.returns-clause-inside c).Start in
    let end = YieldsList-end {s = c.into_iter-x-iterator.result} (YieldsList-from_zip (YieldsList-from_zip (YieldsList-from_slice c.args.points.xs.now cc) (YieldsList-from_slice c.args.points.ys.now cc)) (YieldsList-from_slice c.args.points.zs.now cc)) c.loop-x.yielded c.loop-x.x-iterator c.loop-x.yielded_by _ c.next.new.self c.in-None.is c.next.ensures.steps in
    (falling-done c.args.plan.site (spots (goal.at.returns-clause-inside c).Start) _ _ _ c.loop-x.invariant (omega (arith, spots-length _ _ _ g, threes-length _ _ _ g, end.1))).0

pub returns-clause-levels : goal.returns-clause-levels
returns-clause-levels c =
    let g = points (goal.at.returns-clause-levels c).Start in
    let end = YieldsList-end {s = c.into_iter-x-iterator.result} (YieldsList-from_zip (YieldsList-from_zip (YieldsList-from_slice c.args.points.xs.now cc) (YieldsList-from_slice c.args.points.ys.now cc)) (YieldsList-from_slice c.args.points.zs.now cc)) c.loop-x.yielded c.loop-x.x-iterator c.loop-x.yielded_by _ c.next.new.self c.in-None.is c.next.ensures.steps in
    (falling-done c.args.plan.site (spots (goal.at.returns-clause-levels c).Start) _ _ _ c.loop-x.invariant (omega (arith, spots-length _ _ _ g, threes-length _ _ _ g, end.1))).1
