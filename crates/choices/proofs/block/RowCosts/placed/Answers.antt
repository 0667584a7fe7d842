-- `choices::block::RowCosts::placed` meets its contract: the list of costs, stored, holds the two numbers read. Assumes nothing.
use Rattle.std.proofs.Common.{◌≡◌, ℕ, ◌+◌, ◌-◌, ◌<◌, List, map, get_or, sym, ◌∙◌, arith}
use lib.Ieee.{Float, nan}
use Rattle.lists.proofs.Lists.{list_of-at, map-list_of}
use Rattle.options.specs.Costs.{stored, raw_of}
use Rattle.choices.specs.declared.block.Row.{Row}
use Rattle.choices.specs.declared.subpixel.Search.{Search}
use Rattle.choices.specs.Subpixel.{placed}
use Rattle.choices.specs.Seen.{cell_in, column_costs}
use Rattle.choices.proofs.Sides.{sides}
use Rattle.choices.proofs.block.RowCosts.placed.Goals as goal

-- the number with index j
number : (row : Row) (search : Search) (raw : List Float) (x j : ℕ) → j < search.count → stored (raw_of (cell_in row search raw x j)) ≡ get_or (map stored (column_costs row search raw x)) j nan
unfolding column_costs
number row search raw x j l = rw (map-list_of, list_of-at)

pub returns-then-has_sides : goal.returns-then-has_sides
unfolding placed
returns-then-has_sides c =
    let a = c.args.self in
    let k = c.args.k in
    let z = sides a.search k (sym c.has_sides.ensures ∙ c.if-has_sides.true) in
    let low : k - 1 < a.search.count = omega arith in
    rw (
      ← c.has_sides.ensures,
      c.if-has_sides.true,
      ← number a.row a.search a.raw.now c.args.x (k - 1) low,
      ← number a.row a.search a.raw.now c.args.x (k + 1) z.above,
      ← c.cell-cp.ensures,
      ← c.cell-cm.ensures,
      ← c.from.ensures,
      ← c.from-then-has_sides.ensures,
      ← c.disparity_at-d.ensures,
    )
    c.refine.ensures
