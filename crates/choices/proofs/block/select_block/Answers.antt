-- `choices::block::select_block` meets its contract: marks above, the rows inside the frame, marks below. Assumes nothing.
use Rattle.std.proofs.Common.{◌≡◌, ◌-◌, ◌*◌, length, replicate, sym, refl, ap, ◌∙◌, arith, rules, length-append, length-drop}
use lib.ListN.{length-replicate}
use Rattle.lists.specs.Lists.{list_of}
use Rattle.lists.proofs.Lists.{map-list_of}
use Rattle.maps.specs.Cells.{in_buffer}
use Rattle.choices.specs.Block.{block_map}
use Rattle.choices.specs.RowChoice.{chosen_at}
use Rattle.choices.proofs.MapRows.{bands, above-marked, below-marked, marked-first, marked-last, Rows, rows, rows_next, row-cell, lent-long}
use Rattle.choices.proofs.block.select_block.Goals.{In-loop-y}
use Rattle.choices.proofs.block.select_block.Goals as goal

-- where rows y and y + 1 lie
here : (c : In-loop-y) → Rows c.args.w c.args.h c.loop-y.y
here c = let z = c.requires.map_in in rows _ _ _ _ z.wide z.high z.framed c.loop-y-test.true

pub loop-y-init : goal.loop-y-init
loop-y-init c =
    let a = c.args in
    let z = c.requires.map_in in
    let made : c.fill.new.self ≡ replicate (a.r * a.w) c.from-mark.result = search rules in
    record {
      low = omega arith;
      high = omega (arith, z.down);
      long = simp length-append (omega (arith, ap length made, length-replicate (a.r * a.w) c.from-mark.result, length-drop (a.r * a.w) a.out.now, c.requires.out_len, (bands z).top));
      done = marked-first _ _ _ a.out.now c.from-mark.result made c.from-mark.ensures
          (λ p l. above-marked a.seen a.w a.h a.r a.search a.gates a.raw.now p (bands z).some l);
    }

pub slice_bounds-choose-end : goal.slice_bounds-choose-end
slice_bounds-choose-end c = let z = here c in omega (arith, c.loop-y.invariant.long)

pub loop-y-preserved : goal.loop-y-preserved
loop-y-preserved c =
    let a = c.args in
    rows_next _ _ _ _ _ _ c.loop-y.invariant (here (goal.at.loop-y-preserved c).In-loop-y) c.loop-y-test.true _ _ (c.choose.auto.work ∙ lent-long _ _ _ _ _ _ c.loop-y.invariant (here (goal.at.loop-y-preserved c).In-loop-y) c.loop-y-test.true) c.choose.ensures
    (λ x l. row-cell a.seen a.w a.h a.r a.search a.gates a.raw.now x c.loop-y.y l c.loop-y.invariant.low c.loop-y-test.true)

pub returns : goal.returns
unfolding block_map
returns c =
    let a = c.args in
    let z = c.requires.map_in in
    let out = c.loop-y.out in
    let last : a.h - a.r ≡ c.loop-y.y = omega (arith, c.loop-y.invariant.high) in
    let made : c.fill-2.new.self ≡ replicate (length out - (a.h - a.r) * a.w) c.from-mark.result = search rules in
    marked-last (chosen_at a.seen a.w a.h a.r a.search a.gates a.raw.now) _ _ _ _ _ (omega (arith, (bands z).bottom, c.loop-y.invariant.long)) refl (rw last c.loop-y.invariant.done) made c.from-mark.ensures
    (λ p l. below-marked a.seen a.w a.h a.r a.search a.gates a.raw.now p (bands z).some l)
    ∙ ap (λ n. list_of n (chosen_at a.seen a.w a.h a.r a.search a.gates a.raw.now)) c.loop-y.invariant.long
    ∙ sym (map-list_of in_buffer _ _)
