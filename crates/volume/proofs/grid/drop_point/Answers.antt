-- `volume::grid::drop_point` meets its contract: outside nothing changes, and inside the cell is raised. Assumes nothing.
use Prim.Native.Nat.{◌<◌}
use mathlib.Core.Path.{sym, ◌∙◌}
use native.Mathlib.Omega.{arith}
use Rattle.volume.specs.Rectangle.{cells_of}
use Rattle.volume.proofs.Cells.{height-most}
use Rattle.volume.proofs.Filling.{falls-cell, falls-none, falls-below}
use Rattle.volume.proofs.grid.drop_point.Goals.{In-Some}
use Rattle.volume.proofs.grid.drop_point.Goals as goal

-- the cell is one of the grid's
below : (c : In-Some) → c.in-Some.cell < cells_of c.args.plan.site
below c = falls-below c.args.plan.site c.args.plan.fits c.args.at c.in-Some.cell (sym c.cell_at.ensures ∙ c.in-Some.is)

pub returns-in_default-clause-inside : goal.returns-in_default-clause-inside
returns-in_default-clause-inside c = sym (falls-none c.args.plan.site c.args.at (sym c.cell_at.ensures ∙ c.in_default.is))

pub overflow_add-level : goal.overflow_add-level
overflow_add-level c =
    rw c.height_of-level.ensures (record { fits = omega (arith, height-most c.args.plan.site c.args.plan.fits.near c.args.at c.requires.near) })

pub offset_bounds-grid-cell : goal.offset_bounds-grid-cell
offset_bounds-grid-cell c = record { fits = omega (arith, below (goal.at.offset_bounds-grid-cell c).In-Some, c.args.plan.fits.few) }

pub bounds-grid-cell : goal.bounds-grid-cell
bounds-grid-cell c = omega (arith, below (goal.at.bounds-grid-cell c).In-Some, c.requires.long)

pub offset_bounds-grid-cell-2 : goal.offset_bounds-grid-cell-2
offset_bounds-grid-cell-2 c = record { fits = omega (arith, below (goal.at.offset_bounds-grid-cell-2 c).In-Some, c.args.plan.fits.few) }

pub bounds-grid-cell-2 : goal.bounds-grid-cell-2
bounds-grid-cell-2 c = omega (arith, below (goal.at.bounds-grid-cell-2 c).In-Some, c.requires.long)

pub returns-clause-inside : goal.returns-clause-inside
returns-clause-inside c = sym (falls-cell c.args.plan.site c.args.at c.in-Some.cell (sym c.cell_at.ensures ∙ c.in-Some.is)).0
