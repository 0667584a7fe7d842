-- `points::points` meets its contract: each turn writes the record of a cell that gives a point. Assumes nothing.
use Rattle.std.proofs.Common.{◌<◌, length, sym, ◌∙◌, arith, rules}
use Rattle.std.proofs.lemmas.Result.{err_from_is_err_and}
use Rattle.refusals.proofs.Cases.{after_none}
use Rattle.points.specs.Records.{list_after}
use Rattle.points.proofs.Refusing.{list-left}
use Rattle.points.proofs.Filling.{Asked, asked, begins, within, writes, skips, ends, ends-early}
use Rattle.points.proofs.points.Goals.{In_ok-count, Then-is_point, then-is_point, else-is_point}
use Rattle.points.proofs.points.Goals as goal

pub returns-in_err-count : goal.returns-in_err-count
returns-in_err-count c =
    let a = c.args in
    let p = err_from_is_err_and c.from_residual.result c.from_residual.ensures.1 in
    let e = c.in_err-count.ensures in
    record { answer = rw (p.1, p.2) e; lists = list-left _ _ _ _ _ _ e }

pub loop-i-init : goal.loop-i-init
loop-i-init c = begins _ _ _ _

asked-for : (c : In_ok-count) → let a = c.args in Asked a.map.width a.map.height a.map.cells.now a.camera (length a.list.now) c.in_ok-count.count
asked-for c = asked _ _ _ _ _ _ c.in_ok-count.ensures

-- a further record has its place in the list
in-list : (c : Then-is_point) → c.loop-i.n < length c.args.list.now
in-list c =
    let a = asked-for (goal.at.Then-is_point c).In_ok-count in
    omega (arith, a.room, a.counted, within _ _ _ c.args.list.now _ c.loop-i-test.true (sym c.if-is_point.ensures) _ _ c.loop-i.invariant)

pub point_record-requires : goal.point_record-requires
point_record-requires c =
    let a = asked-for (goal.at.point_record-requires c).In_ok-count in
    record { wide = a.wide; few = omega (arith, a.few, c.loop-i-test.true) }

pub offset_bounds-list-n : goal.offset_bounds-list-n
offset_bounds-list-n c = let b = in-list (goal.at.offset_bounds-list-n c).Then-is_point in search rules

pub bounds-list-n : goal.bounds-list-n
bounds-list-n c = omega (arith, in-list (goal.at.bounds-list-n c).Then-is_point, c.loop-i.auto.list)

pub overflow_add-n : goal.overflow_add-n
overflow_add-n c = let b = in-list (goal.at.overflow_add-n c).Then-is_point in search rules

pub loop-i-preserved : goal.loop-i-preserved
loop-i-preserved c =
    let a = asked-for (goal.at.loop-i-preserved c).In_ok-count in
    elim c.if-is_point.branch [
      | then-is_point w ↦ rw (w.list-is, w.n-is, w.point_record.ensures) (writes _ _ _ _ _ c.loop-i-test.true (sym w.if-is_point.ensures) _ _ c.loop-i.invariant (omega (arith, a.room, a.counted)))
      | else-is_point w ↦ rw (w.list-is, w.n-is) (skips _ _ _ _ _ c.loop-i-test.true _ _ (sym w.if-is_point.ensures) c.loop-i.invariant)
    ]

-- behind the last point no cell has a record
pub returns-then-n-count : goal.returns-then-n-count
unfolding list_after
returns-then-n-count c =
    let a = asked-for (goal.at.returns-then-n-count c).In_ok-count in
    record { answer = c.in_ok-count.ensures; lists = ends-early _ _ _ _ _ _ _ (c.if-n-count.true ∙ a.counted) c.loop-i.invariant ∙ sym (after_none _ _ _ a.none) }

pub returns-after-loop-i : goal.returns-after-loop-i
unfolding list_after
returns-after-loop-i c =
    let a = asked-for (goal.at.returns-after-loop-i c).In_ok-count in
    record { answer = c.in_ok-count.ensures; lists = ends _ _ _ _ _ _ _ (omega arith) c.loop-i.invariant ∙ sym (after_none _ _ _ a.none) }
