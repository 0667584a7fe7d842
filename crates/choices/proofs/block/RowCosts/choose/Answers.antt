-- `choices::block::RowCosts::choose` meets its contract: blank and cleared, the rows are those of no index; blank again, that of no competitor. Assumes nothing.
use Rattle.std.proofs.Common.{◌≡◌, replicate, ◌∙◌, rules}
use lib.Ieee.{binary32, of_bits}
use Rattle.choices.proofs.LedRows.{most-start, at-start, rival-start}
use Rattle.choices.proofs.block.RowCosts.choose.Goals as goal

pub lead-requires-clause-most_none : goal.lead-requires-clause-most_none
lead-requires-clause-most_none c =
    let a = c.args.self in
    let blank : c.fill.new.self ≡ replicate a.row.w c.from-blank.result = search rules in
    blank ∙ most-start a.row a.search a.raw.now _ c.from-blank.ensures

pub lead-requires-clause-at_none : goal.lead-requires-clause-at_none
unfolding of_bits
lead-requires-clause-at_none c =
    let a = c.args.self in
    let zero : c.fill-2.new.self ≡ replicate a.row.w (of_bits binary32 0) = search rules in
    zero ∙ at-start a.row a.search a.raw.now

pub rival-requires-clause-most_none : goal.rival-requires-clause-most_none
rival-requires-clause-most_none c =
    let a = c.args.self in
    let blank : c.fill-3.new.self ≡ replicate a.row.w c.from-blank.result = search rules in
    blank ∙ rival-start a.row a.search a.raw.now _ c.from-blank.ensures
