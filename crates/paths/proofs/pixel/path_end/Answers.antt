-- `paths::pixel::path_end` meets its contract. Assumes nothing.
use mathlib.Core.Path.{◌∙◌}
use Rattle.paths.proofs.Steps.{cell-is}
use Rattle.paths.proofs.pixel.path_end.Goals as goal

pub returns : goal.returns
returns c =
    let a = c.args in
    c.path_cell.ensures ∙ cell-is a.p1 a.p2 a.least _ _ a.prev.now a.cost.now a.k c.requires.least c.way_below-below.ensures c.way_above-above.ensures
