-- `choices::block::RowCosts::cell` meets its contract. Assumes nothing.
use Rattle.std.proofs.Common.{sym, ap, ◌∙◌, le_refl}
use lib.Ieee.{nan}
use Rattle.options.specs.Costs.{raw_of}
use Rattle.choices.proofs.Costs.{blank-is}
use Rattle.choices.proofs.Spans.{part-left, part-at, part-past}
use Rattle.choices.proofs.block.RowCosts.cell.Goals as goal

pub returns-then-x-part : goal.returns-then-x-part
returns-then-x-part c =
    blank-is ∙ ap raw_of (sym (part-left _ _ _ c.if-x-part.true) ∙ c.part-part.ensures.reads _ c.requires.x_lt_w)

pub returns-in-Some : goal.returns-in-Some
returns-in-Some c =
    let found = c.in-Some.ensures.lookup in
    c.from.ensures
    ∙ ap raw_of (found.4 (le_refl _) nan ∙ sym (part-at _ _ _ c.if-x-part.false found.3.0) ∙ c.part-part.ensures.reads _ c.requires.x_lt_w)

pub returns-in-None : goal.returns-in-None
returns-in-None c =
    blank-is ∙ ap raw_of (sym (part-past _ _ _ c.if-x-part.false c.in-None.ensures.lookup.3) ∙ c.part-part.ensures.reads _ c.requires.x_lt_w)
