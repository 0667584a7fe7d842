-- `choices::block::RowCosts::lead` meets its contract: before index k the row is led by the indices below k. Assumes nothing.
use Rattle.std.proofs.Common.{◌≡◌, length, sym, ap, ◌∙◌, arith}
use Rattle.lists.proofs.Lists.{list_of-length}
use Rattle.choices.specs.RowChoice.{most_row, at_row}
use Rattle.choices.proofs.LedRows.{most-next, at-next}
use Rattle.choices.proofs.block.RowCosts.lead.Goals as goal

pub lead_part-requires : goal.lead_part-requires
lead_part-requires c =
    let a = c.args.self in
    let most-long : length c.loop-k.most ≡ a.row.w = ap length c.loop-k.invariant.most_is ∙ list_of-length a.row.w _ in
    let at-long : length c.loop-k.at ≡ a.row.w = ap length c.loop-k.invariant.at_is ∙ list_of-length a.row.w _ in
    record {
      at_len = at-long ∙ sym most-long;
      part_bound = rw most-long c.part-part.ensures.fits;
      k_lt_count_most = omega (arith, c.loop-k-test.true, a.within.sizes.few);
    }

pub loop-k-preserved : goal.loop-k-preserved
loop-k-preserved c =
    let a = c.args.self in
    record {
      most_is = c.lead_part.ensures.most_value ∙ rw c.loop-k.invariant.most_is (most-next a.row a.search a.raw.now _ _ c.part-part.ensures.reads);
      at_is = c.lead_part.ensures.at_value ∙ rw (c.loop-k.invariant.most_is, c.loop-k.invariant.at_is) (at-next a.row a.search a.raw.now _ _ c.part-part.ensures.reads);
    }

pub returns : goal.returns
returns c =
    let a = c.args.self in
    let last : c.loop-k.k ≡ a.search.count = omega arith in
    record {
      most_all = c.loop-k.invariant.most_is ∙ ap (λ n. most_row a.row a.search a.raw.now n) last;
      at_all = c.loop-k.invariant.at_is ∙ ap (λ n. at_row a.row a.search a.raw.now n) last;
    }
