-- `choices::block::RowCosts::finish` meets its contract: before column x the columns below x hold their choices, the others their competitors. Assumes nothing.
use Rattle.std.proofs.Common.{◌≡◌, ◌<◌, length, get_or, refl, ap, ◌∙◌, le_refl, arith}
use lib.Ieee.{nan}
use Rattle.lists.specs.Lists.{list_of}
use Rattle.lists.proofs.Lists.{list_of-length, list_of-at, filled_next, filled-rest, filled-end}
use Rattle.options.specs.Costs.{raw_of}
use Rattle.choices.proofs.block.RowCosts.finish.Goals.{Start}
use Rattle.choices.proofs.block.RowCosts.finish.Goals as goal

most-long : (c : Start) → length c.args.most.now ≡ c.args.self.row.w
most-long c = ap length c.requires.most_all ∙ list_of-length c.args.self.row.w _

at-long : (c : Start) → length c.args.at.now ≡ c.args.self.row.w
at-long c = ap length c.requires.at_all ∙ list_of-length c.args.self.row.w _

pub loop-x-init : goal.loop-x-init
unfolding list_of
loop-x-init c = refl

pub bounds-at-x : goal.bounds-at-x
bounds-at-x c = let s = (goal.at.bounds-at-x c).Start in omega (arith, at-long s, most-long s, c.loop-x-test.true)

pub column-requires : goal.column-requires
column-requires c =
    let s = (goal.at.column-requires c).Start in
    let x = c.loop-x.x in
    let inside : x < c.args.self.row.w = omega (arith, most-long s, c.loop-x-test.true) in
    record {
      x_lt_w = inside;
      at_value = ap (λ l. get_or l x nan) c.requires.at_all ∙ list_of-at c.args.self.row.w _ x nan inside;
      rival_value =
          c.from-rival.ensures
          ∙ ap raw_of
          (ap (λ l. get_or l x nan) c.loop-x.invariant
          ∙ filled-rest x _ _ x nan (le_refl _)
          ∙ ap (λ l. get_or l x nan) c.requires.most_all
          ∙ list_of-at c.args.self.row.w _ x nan inside);
    }

pub loop-x-preserved : goal.loop-x-preserved
loop-x-preserved c = rw (c.loop-x.invariant, c.from.ensures, c.column.ensures) (filled_next _ _ _ _ c.loop-x-test.true refl)

pub returns : goal.returns
returns c =
    let s = (goal.at.returns c).Start in
    let past : c.loop-x.x ≡ c.args.self.row.w = omega (arith, most-long s, c.loop-x-test.false) in
    c.loop-x.invariant ∙ filled-end _ _ _ _ past (most-long s)
