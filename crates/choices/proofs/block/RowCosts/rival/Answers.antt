-- `choices::block::RowCosts::rival` meets its contract: before index k the competitors are those below k. Assumes nothing.
use Rattle.std.proofs.Common.{◌≡◌, length, sym, ap, ◌∙◌, arith}
use Rattle.lists.proofs.Lists.{list_of-length}
use Rattle.choices.specs.RowChoice.{rival_row}
use Rattle.choices.proofs.LedRows.{rival-next}
use Rattle.choices.proofs.block.RowCosts.rival.Goals as goal

pub rival_part-requires : goal.rival_part-requires
rival_part-requires c =
    let a = c.args.self in
    let most-long : length c.loop-k.most ≡ a.row.w = ap length c.loop-k.invariant ∙ list_of-length a.row.w _ in
    let at-long : length c.args.at.now ≡ a.row.w = ap length c.requires.at_all ∙ list_of-length a.row.w _ in
    record {
      at_len = at-long ∙ sym most-long;
      part_bound = rw most-long c.part-part.ensures.fits;
      k_lt_count_most = omega (arith, c.loop-k-test.true, a.within.sizes.few);
    }

pub loop-k-preserved : goal.loop-k-preserved
loop-k-preserved c =
    let a = c.args.self in
    c.rival_part.ensures
    ∙ rw (c.loop-k.invariant, c.requires.at_all) (rival-next a.row a.search a.raw.now _ _ c.part-part.ensures.reads a.within.sizes.few c.loop-k-test.true)

pub returns : goal.returns
returns c =
    let a = c.args.self in
    let last : c.loop-k.k ≡ a.search.count = omega arith in
    c.loop-k.invariant ∙ ap (λ n. rival_row a.row a.search a.raw.now n) last
