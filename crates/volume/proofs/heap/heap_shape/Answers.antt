-- `volume::heap::heap_shape` meets its contract: the site's rows, and then the shape. Assumes nothing.
use mathlib.Core.Path.{ap, ◌∙◌}
use Rattle.refusals.specs.Steps.{is}
use Rattle.refusals.proofs.Cases.{answer-made, answer-refused}
use Rattle.std.proofs.lemmas.Result.{err_from_is_err_and}
use Rattle.volume.specs.Rectangle.{shape_of}
use Rattle.volume.specs.Outcome.{grid_shape}
use Rattle.volume.proofs.heap.heap_shape.Goals as goal

pub returns-in_err-plan : goal.returns-in_err-plan
unfolding grid_shape
returns-in_err-plan c =
    let p = err_from_is_err_and c.from_residual.result c.from_residual.ensures.1 in
    rw (p.1, p.2) (answer-refused c.in_err-plan.field-0.0 _ c.in_err-plan.ensures.number)

pub returns : goal.returns
unfolding grid_shape
returns c = ap is (c.in_ok-plan.plan.shaped ∙ ap shape_of c.in_ok-plan.ensures.plan) ∙ answer-made _ c.in_ok-plan.ensures.number
