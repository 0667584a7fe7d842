-- `volume::heap::check_heap` meets its contract: the site's rows, and then the grid's. Assumes nothing.
use mathlib.Core.Path.{◌≡◌, sym, ap, ◌∙◌}
use borrow.Author.Tests.{eq-eqb, ne_eqb}
use Rattle.refusals.specs.Answered.{first_of}
use Rattle.std.proofs.lemmas.Result.{err_from_is_err_and}
use Rattle.volume.specs.Metres.{good_points}
use Rattle.volume.specs.Rectangle.{cells_of}
use Rattle.volume.specs.Outcome.{site_rows}
use Rattle.volume.proofs.Refusing.{by-site, by-grid}
use Rattle.volume.proofs.heap.check_heap.Goals.{After-cells}
use Rattle.volume.proofs.heap.check_heap.Goals as goal

pub returns-in_err-plan-clause-number : goal.returns-in_err-plan-clause-number
returns-in_err-plan-clause-number c =
    let p = err_from_is_err_and c.from_residual.result c.from_residual.ensures.1 in
    rw (p.1, p.2) (by-site _ _ _ _ _ c.in_err-plan.field-0.0 (rw c.are_good.ensures at c.in_err-plan.ensures.number))

-- no row of the site refuses it, and the plan's cells are the site's
none : (c : After-cells) → let a = c.args in 0 ≡ first_of (site_rows (good_points a.points.xs.now a.points.ys.now a.points.zs.now) a.site)
none c = rw c.are_good.ensures at c.in_ok-plan.ensures.number

cells-are : (c : After-cells) → c.cells.result ≡ cells_of c.args.site
cells-are c = c.cells.ensures ∙ ap cells_of c.in_ok-plan.ensures.plan

pub returns-then-cells-clause-number : goal.returns-then-cells-clause-number
unfolding first_of
returns-then-cells-clause-number c =
    let at = (goal.at.returns-then-cells-clause-number c).After-cells in
    by-grid _ _ _ _ _ (sym (none at)) _ (rw (ne_eqb _ _ (rw (cells-are at) at c.if-cells.true)))

pub returns-clause-number : goal.returns-clause-number
unfolding first_of
returns-clause-number c =
    let at = (goal.at.returns-clause-number c).After-cells in
    by-grid _ _ _ _ _ (sym (none at)) _ (rw (eq-eqb _ _ (c.if-cells.false ∙ cells-are at)))
