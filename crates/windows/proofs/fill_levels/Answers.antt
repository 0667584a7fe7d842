-- `windows::fill_levels` meets its contract: the rows are those of the picture's levels. Assumes nothing.
use Rattle.std.proofs.Common.{rules, arith, sym, ap, subst, length, ◌∙◌}
use Rattle.lists.specs.Rows.{level_at}
use Rattle.windows.specs.Table.{RowReady, next_row}
use Rattle.windows.proofs.Tables.{spots, level-small}
use Rattle.windows.proofs.fill_levels.Goals as goal

pub fill_rows-requires : goal.fill_rows-requires
fill_rows-requires c κs within =
    let w = c.args.w in let z = c.requires in let level = level_at w c.args.pic.now in (
      search rules,
      (
        (z.w-most, z.h-most, z.cells),
        (
          λ x y. omega (arith, level-small w c.args.pic.now (λ i. omega (arith, c.type_inv.pic i)) x y),
          record {
            takes =
                λ y above below l ready even p q ep eq. (
                  omega (arith, spots _ _ _ z.w-most z.h-most l, z.bytes),
                  subst (RowReady w) (sym eq) ready,
                  ap length ep ∙ even ∙ sym (ap length eq),
                );
            fills = λ y above below after l made. sym made.left-is ∙ made.call ∙ ap (next_row w (λ x. level x y)) made.upper-is;
          },
        ),
      ),
    )
