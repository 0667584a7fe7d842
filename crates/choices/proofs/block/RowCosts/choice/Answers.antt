-- `choices::block::RowCosts::choice` meets its contract: each return has taken the branches of `gated` that lead there. Assumes nothing.
use Rattle.std.proofs.Common.{ℕ, ◌<◌, sym, ap, ◌∙◌}
use Rattle.options.specs.Costs.{raw_of, InRange}
use Rattle.maps.specs.declared.Cell.TheVariants.{At}
use Rattle.choices.specs.Seen.{cell_in, column_costs}
use Rattle.choices.proofs.Spans.{cell-range}
use Rattle.choices.proofs.Chosen.{choice-none, choice-in, choice-low, choice-close, choice-at}
use Rattle.choices.proofs.block.RowCosts.choice.Goals.{Start}
use Rattle.choices.proofs.block.RowCosts.choice.Goals as goal

range : (c : Start) →
    let a = c.args.self in
    (k : ℕ) → k < a.search.count → InRange (raw_of (cell_in a.row a.search a.raw.now c.args.x k))
range c k l = let a = c.args.self in cell-range a.row a.search a.raw.now k c.args.x a.within a.in_range l c.requires.x_lt_w

pub returns-then-best-gates : goal.returns-then-best-gates
unfolding column_costs
returns-then-best-gates c =
    let a = c.args.self in
    choice-low a.search c.args.gates (cell_in a.row a.search a.raw.now c.args.x) (range (goal.at.returns-then-best-gates c).Start) _ (sym c.best.ensures ∙ c.in-Some.is) c.if-best-gates.true

pub returns-then-is_close : goal.returns-then-is_close
unfolding column_costs
returns-then-is_close c =
    let a = c.args.self in
    choice-close a.search c.args.gates (cell_in a.row a.search a.raw.now c.args.x) (range (goal.at.returns-then-is_close c).Start) _ (sym c.best.ensures ∙ c.in-Some.is) c.if-best-gates.false _ c.requires.rival_value (sym c.is_close.ensures ∙ c.if-is_close.true)

pub placed-requires-clause-k_lt_count : goal.placed-requires-clause-k_lt_count
unfolding column_costs
placed-requires-clause-k_lt_count c =
    let a = c.args.self in
    choice-in a.search c.args.gates (cell_in a.row a.search a.raw.now c.args.x) (range (goal.at.placed-requires-clause-k_lt_count c).Start) _ (sym c.best.ensures ∙ c.in-Some.is)

pub returns-in-None : goal.returns-in-None
unfolding column_costs
returns-in-None c =
    let a = c.args.self in
    choice-none a.search c.args.gates (cell_in a.row a.search a.raw.now c.args.x) (range (goal.at.returns-in-None c).Start) (sym c.best.ensures ∙ c.in-None.is)

pub returns-else-is_close : goal.returns-else-is_close
unfolding column_costs
returns-else-is_close c =
    let a = c.args.self in
    ap At c.placed.ensures
    ∙ choice-at a.search c.args.gates (cell_in a.row a.search a.raw.now c.args.x) (range (goal.at.returns-else-is_close c).Start) _ (sym c.best.ensures ∙ c.in-Some.is) c.if-best-gates.false _ c.requires.rival_value (sym c.is_close.ensures ∙ c.if-is_close.false)
