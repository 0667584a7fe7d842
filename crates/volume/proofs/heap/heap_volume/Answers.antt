-- `volume::heap::heap_volume` meets its contract: the rows, and then the figures and the heights. Assumes nothing.
use mathlib.Core.Path.{sym, ap, ◌∙◌}
use lib.ListN.{length}
use Rattle.refusals.specs.Steps.{is}
use Rattle.refusals.proofs.Cases.{answer-made, answer-refused, after_none, after-refused}
use Rattle.std.proofs.lemmas.Result.{err_from_is_err_and}
use Rattle.volume.specs.Metres.{spots_of}
use Rattle.volume.specs.Rectangle.{cells_of}
use Rattle.volume.specs.Heights.{figures_of, grid_of}
use Rattle.volume.specs.Outcome.{heap_of, grid_after}
use Rattle.volume.proofs.Refusing.{HeapFits, heap-fits}
use Rattle.volume.proofs.heap.heap_volume.Goals.{In_ok-plan}
use Rattle.volume.proofs.heap.heap_volume.Goals as goal

fits : (c : In_ok-plan) → let a = c.args in HeapFits a.site a.xs.now a.ys.now a.zs.now (length a.grid.now)
fits c = let a = c.args in heap-fits a.site a.xs.now a.ys.now a.zs.now (length a.grid.now) (sym c.in_ok-plan.ensures.number)

pub returns-in_err-plan : goal.returns-in_err-plan
unfolding heap_of grid_after
returns-in_err-plan c =
    let p = err_from_is_err_and c.from_residual.result c.from_residual.ensures.1 in
    let e = c.in_err-plan.field-0.0 in
    rw (p.1, p.2) record {
      answer = answer-refused e _ c.in_err-plan.ensures.number;
      grids = sym (after-refused e _ _ c.in_err-plan.ensures.number);
    }

pub measure-requires-clause-good : goal.measure-requires-clause-good
measure-requires-clause-good c = (fits (goal.at.measure-requires-clause-good c).In_ok-plan).good

pub measure-requires-clause-long : goal.measure-requires-clause-long
measure-requires-clause-long c =
    (fits (goal.at.measure-requires-clause-long c).In_ok-plan).long ∙ sym (ap cells_of c.in_ok-plan.ensures.plan)

pub returns : goal.returns
unfolding heap_of grid_after
returns c =
    let a = c.args in
    let of-site = c.in_ok-plan.ensures.plan in
    let ps = spots_of a.xs.now a.ys.now a.zs.now in
    record {
      answer = ap is (c.measure.ensures.figures ∙ ap (λ s. figures_of s ps) of-site) ∙ answer-made _ c.in_ok-plan.ensures.number;
      grids = c.measure.ensures.heights ∙ ap (λ s. grid_of s ps) of-site ∙ sym (after_none _ _ _ (sym c.in_ok-plan.ensures.number));
    }
