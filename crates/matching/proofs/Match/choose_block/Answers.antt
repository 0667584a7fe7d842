-- `Match::choose_block` meets its contract. Assumes nothing.
use Prim.Native.Nat.{ℕ}
use mathlib.Core.Path.{◌≡◌, sym, ap, ◌∙◌}
use mathlib.Core.List.{map}
use native.Mathlib.Omega.{arith}
use borrow.Author.Rules.{rules}
use lib.Ieee.{Float}
use lib.ListN.{length, replicate}
use Rattle.lists.specs.Lists.{list_of}
use Rattle.lists.proofs.Lists.{list_of-const, map-list_of}
use Rattle.maps.specs.Cells.{in_buffer}
use Rattle.maps.specs.declared.Cell.TheVariants.{Mark}
use Rattle.choices.specs.Seen.{MapIn}
use Rattle.matching.specs.Maps.{half, search_of, gates_of}
use Rattle.matching.proofs.Blocks.{none-chosen}
use Rattle.matching.proofs.Match.choose_block.Goals as goal

pub returns-then-r-eq0 : goal.returns-then-r-eq0
returns-then-r-eq0 c =
    let n = length c.args.out.now in
    let filled : c.fill.new.self ≡ replicate n c.from.result = search rules in
    filled
    ∙ ap (λ (v : Float). replicate n v) c.from.ensures
    ∙ sym (list_of-const n (in_buffer Mark))
    ∙ sym (map-list_of in_buffer n (λ _. Mark))
    ∙ ap (map in_buffer)
    (ap (λ (n : ℕ). list_of n (λ _. Mark)) c.requires.0.out-cells
    ∙ none-chosen c.args.self.pictures.w c.args.self.pictures.h (search_of c.args.self.opts) c.args.raw.now c.requires.1.long (c.requires.1.none c.if-r-eq0.true) (half c.args.self.opts) (gates_of c.args.self.opts) c.args.seen)

pub select_block-requires : goal.select_block-requires
select_block-requires c =
    let s = c.requires.0 in
    let sizes : MapIn c.args.self.pictures.w c.args.self.pictures.h (half c.args.self.opts) (search_of c.args.self.opts) c.args.raw.now = record {
      wide = s.wide;
      high = s.high;
      framed = omega (arith, c.if-r-eq0.false);
      across = s.across;
      down = s.down;
      some = s.some;
      few = s.counted.few;
      close = s.close;
      planes = omega (arith, c.requires.1.long);
    } in
    rw c.search_of.ensures (record { out_len = s.out-cells; map_in = sizes; cells_in_range = c.requires.1.cells })

pub returns : goal.returns
returns c = c.select_block.ensures ∙ rw c.search_of.ensures
