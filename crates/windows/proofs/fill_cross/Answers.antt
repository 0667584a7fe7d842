-- `windows::fill_cross` meets its contract: the rows are those of the two pictures' products. Assumes nothing.
use Rattle.std.proofs.Common.{rules, arith, sym, ap, subst, length, ◌∙◌, w64, to_z, of_z}
use Rattle.std.proofs.lemmas.Int.{to_z-of_z}
use Rattle.lists.specs.Rows.{row_of}
use Rattle.windows.specs.Table.{RowReady, next_row, cross_at, table_of}
use Rattle.windows.proofs.Shifts.{cross-small}
use Rattle.windows.proofs.Tables.{spots, level-small}
use Rattle.windows.proofs.fill_cross.Goals as goal

pub fill_rows-requires : goal.fill_rows-requires
fill_rows-requires c κs within =
    let w = c.args.w in let z = c.requires.0 in let a = c.args.a.now in let b = c.args.b.now in let product = cross_at w a b (to_z w64 (of_z w64 c.args.shift)) in (
      search rules,
      (
        (z.w-most, z.h-most, z.cells),
        (
          λ x y.
              cross-small (row_of w a y) (row_of w b y) _
              (λ i. level-small w a (λ j. omega (arith, c.type_inv.a j)) i y)
              (λ i. level-small w b (λ j. omega (arith, c.type_inv.b j)) i y)
              x,
          record {
            takes =
                λ y above below l ready even p q ep eq. (
                  omega (arith, spots _ _ _ z.w-most z.h-most l, z.bytes),
                  c.requires.1 ∙ sym z.bytes,
                  rw (to_z-of_z w64 c.args.shift c.ranges.shift) c.requires.2,
                  subst (RowReady w) (sym eq) ready,
                  ap length ep ∙ even ∙ sym (ap length eq),
                );
            fills = λ y above below after l made. sym made.left-is ∙ made.call ∙ ap (next_row w (λ x. product x y)) made.upper-is;
          },
        ),
      ),
    )

pub returns : goal.returns
returns c =
    let args = c.args in
    c.fill_rows.ensures ∙ ap (λ s. table_of args.w args.h (cross_at args.w args.a.now args.b.now s)) (to_z-of_z w64 args.shift c.ranges.shift)
