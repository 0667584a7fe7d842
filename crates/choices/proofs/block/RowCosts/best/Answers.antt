-- `choices::block::RowCosts::best` meets its contract: the raw cost with the index of the best says what the best is. Assumes nothing.
use Rattle.std.proofs.Common.{◌≡◌, ℕ, ◌<◌, T, sym, ◌∙◌, arith}
use lib.Ieee.{binary32, in_unsigned, to_unsigned}
use Rattle.options.specs.Costs.{raw_of, InRange}
use Rattle.choices.specs.Seen.{cell_in, column_costs}
use Rattle.choices.specs.RowChoice.{led_index}
use Rattle.choices.proofs.Spans.{cell-range}
use Rattle.choices.proofs.IndexFloats.{index_back}
use Rattle.choices.proofs.LedRows.{index-most}
use Rattle.choices.proofs.Chosen.{index_in, best-is}
use Rattle.choices.proofs.block.RowCosts.best.Goals.{Start}
use Rattle.choices.proofs.block.RowCosts.best.Goals as goal

-- the cast gives the index of the best
cast : (c : Start) →
    let a = c.args.self in
    T (in_unsigned binary32 64 c.args.at) × (to_unsigned 64 c.args.at ≡ led_index a.row a.search a.raw.now a.search.count c.args.x)
cast c =
    let a = c.args.self in
    let x = c.args.x in
    rw c.requires.at_value
    (index_back (led_index a.row a.search a.raw.now a.search.count x) (omega (arith, index-most (cell_in a.row a.search a.raw.now x) a.search.count, a.within.sizes.few)))

range : (c : Start) →
    let a = c.args.self in
    (k : ℕ) → k < a.search.count → InRange (raw_of (cell_in a.row a.search a.raw.now c.args.x k))
range c k l = let a = c.args.self in cell-range a.row a.search a.raw.now k c.args.x a.within a.in_range l c.requires.x_lt_w

pub float_to_int-k : goal.float_to_int-k
float_to_int-k c = (cast (goal.at.float_to_int-k c).Start).0

pub cell-requires-clause-k_lt_count : goal.cell-requires-clause-k_lt_count
cell-requires-clause-k_lt_count c =
    let a = c.args.self in
    rw (cast (goal.at.cell-requires-clause-k_lt_count c).Start).1 (index_in (cell_in a.row a.search a.raw.now c.args.x) a.search.count a.within.sizes.some)

pub returns-in-Blank : goal.returns-in-Blank
unfolding column_costs
returns-in-Blank c =
    let a = c.args.self in
    let start = (goal.at.returns-in-Blank c).Start in
    best-is (cell_in a.row a.search a.raw.now c.args.x) a.search.count (range start) a.within.sizes.some _ _ (cast start).1 (sym c.in-Blank.is ∙ c.cell.ensures)

pub returns-in-Corr : goal.returns-in-Corr
unfolding column_costs
returns-in-Corr c =
    let a = c.args.self in
    let start = (goal.at.returns-in-Corr c).Start in
    best-is (cell_in a.row a.search a.raw.now c.args.x) a.search.count (range start) a.within.sizes.some _ _ (cast start).1 (sym c.in-Corr.is ∙ c.cell.ensures)
