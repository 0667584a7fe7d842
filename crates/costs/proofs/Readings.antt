-- What a room that holds the five parts of two pictures has in its cells. Assumes nothing.
use Prim.Native.Nat.{ℕ, ◌+◌, ◌*◌, ◌-◌, ◌/◌, ◌^◌, ◌≤◌, ◌<◌}
use mathlib.Core.Path.{◌≡◌, refl, ◌∙◌}
use mathlib.Core.List.{List, [], ◌++◌, append_assoc}
use native.Mathlib.Nat.{zero-add, mul-le-mul, sub-add_cancel}
use native.Mathlib.Omega.{arith}
use borrow.Author.Tests.{lt-ltb}
use lib.IntN.{ℤ, pos, ◌+ℤ◌}
use lib.ListN.{length, get_or, length-append, get_or-append}
use lib.Seq.{get_or-append-add}
use Rattle.options.specs.Limits.{side_most, block_most}
use Rattle.lists.specs.Rows.{level_at}
use Rattle.windows.specs.Table.{table_of, square_at, cross_at}
use Rattle.windows.specs.Window.{window_sum, Inside, cells, TableFrom, corner_at}
use Rattle.windows.proofs.Tables.{length-table}
use Rattle.windows.proofs.Windows.{cell_in}
use Rattle.windows.proofs.Flat.{window-flat, window-cross, windows-fit, count_most}
use Rattle.costs.specs.Raw.{pixels, window_var}
use Rattle.costs.specs.Roots.{root_bits, window_at, window_cell, window_table, sum_in, root_in, picture_tables}
use Rattle.costs.specs.Quotient.{CountsExactly}
use Rattle.costs.specs.Rooms.{Picture, five_parts, TablesOf, RoomOf}
use Rattle.lists.proofs.Lists.{list_of-length, list_of-at}
use Rattle.lists.proofs.Rows.{in-column, in-row}

-- the index of a window's corner is within the table
pub corner-in : (w h x y r : ℕ) → Inside w h x y r → corner_at w x y r < cells w h
corner-in w h x y r i =
    omega (arith, cell_in w h (λ _ _. 0) (x - r) (y - r) (omega (arith, i.right)) (omega (arith, i.bottom)), length-table w h (λ _ _. 0))

pub cells-most : (w h : ℕ) → w ≤ side_most → h ≤ side_most → cells w h ≤ (side_most + 1) * (side_most + 1)
cells-most w h lw lh =
    let w1 : w + 1 ≤ side_most + 1 = omega arith in
    let h1 : h + 1 ≤ side_most + 1 = omega arith in
    mul-le-mul w1 h1

pub length-windows : (w h r : ℕ) (f : ℕ → ℕ → ℕ) → length (window_table w h r f) ≡ cells w h
unfolding window_table
length-windows w h r f = list_of-length (cells w h) (window_cell w h r f)

-- a cell of a part that stands after others
pub part-cell : (done part rest room : List ℕ) (off j : ℕ) → length done ≡ off → room ≡ done ++ part ++ rest → j < length part → get_or room (off + j) 0 ≡ get_or part j 0
part-cell done part rest room off j long is l =
    rw (is, append_assoc done part rest, ← long) (get_or-append-add done (part ++ rest) j 0 ∙ get_or-append part rest 0 j l)

-- what a table has at the index of a window's corner
pub window-at-corner : (w h r : ℕ) (f : ℕ → ℕ → ℕ) (x y : ℕ) → Inside w h x y r → window_cell w h r f (corner_at w x y r) ≡ f x y
unfolding window_at
window-at-corner w h r f x y i =
    let lc : x - r < w + 1 = omega (arith, i.right) in
    let column : x - r + r ≡ x = sub-add_cancel i.left in
    let row : y - r + r ≡ y = sub-add_cancel i.top in
    rw (in-column (w + 1) (x - r) (y - r) lc, in-row (w + 1) (x - r) (y - r) lc, lt-ltb (x - r + 2 * r) w (omega (arith, i.left, i.right)), lt-ltb (y - r + 2 * r) h (omega (arith, i.top, i.bottom)), column, row)

-- two windows of pictures: what a variance or a covariance needs is below 2^53
module _ (w h : ℕ) (a b : List ℕ) (x x' y r : ℕ) (few : r ≤ block_most / 2) (pa : Picture w h a) (pb : Picture w h b) where
  pub counted : (s : ℤ) → pos x +ℤ s ≡ pos x' → r ≤ x → r ≤ x'
      → CountsExactly (pixels r) (window_sum (level_at w a) x y r) (window_sum (level_at w b) x' y r) (window_sum (cross_at w a b s) x y r)
  counted s e l l' =
      let z = windows-fit w a b x x' y r few pa.small pb.small in
      record {
        n-few = omega (arith, count_most r few);
        sa-few = rw (window-flat (level_at w a) x y r) z.few-a;
        sb-few = rw (window-flat (level_at w b) x' y r) z.few-b;
        sab-few = rw (window-cross w a b x x' y r s e l l') z.few-products;
        products = rw (window-cross w a b x x' y r s e l l') z.products;
        levels = rw (window-flat (level_at w a) x y r, window-flat (level_at w b) x' y r) z.levels;
      }

pub squares-fit : (w h : ℕ) (a : List ℕ) (x y r : ℕ) → r ≤ block_most / 2 → Picture w h a → pixels r * window_sum (square_at w a) x y r < 2 ^ 53
squares-fit w h a x y r few pa = rw (window-flat (square_at w a) x y r) (windows-fit w a a x x y r few pa.small pa.small).products

pub var-most : (w h : ℕ) (a : List ℕ) (x y r : ℕ) → r ≤ block_most / 2 → Picture w h a → window_var w a x y r ≤ 2 ^ 53
unfolding window_var
var-most w h a x y r few pa = omega (arith, squares-fit w h a x y r few pa)

-- the tables in a room
module _ {room : List ℕ} {w h r : ℕ} {a b : List ℕ} (t : TablesOf room w h r a b) where
  SA : List ℕ
  SA = window_table w h r (sum_in w r a)

  Ra : List ℕ
  Ra = window_table w h r (root_in w r a)

  SB : List ℕ
  SB = window_table w h r (sum_in w r b)

  RB : List ℕ
  RB = window_table w h r (root_in w r b)

  whole : room ≡ SA ++ Ra ++ SB ++ RB ++ t.rest
  unfolding SA SB Ra RB picture_tables
  whole = t.is ∙ simp append_assoc

  lengths : (length SA ≡ cells w h) × (length Ra ≡ cells w h) × (length SB ≡ cells w h) × (length RB ≡ cells w h)
  unfolding SA SB Ra RB
  lengths = (length-windows w h r _, length-windows w h r _, length-windows w h r _, length-windows w h r _)

  pub tables-long : 4 * cells w h + length t.rest ≡ length room
  tables-long = rw whole (simp length-append (omega (arith, lengths)))

  -- a cell behind the tables
  pub behind : (j : ℕ) → get_or room (4 * cells w h + j) 0 ≡ get_or t.rest j 0
  behind j =
      let tables : List ℕ = SA ++ Ra ++ SB ++ RB in
      let four : length tables ≡ 4 * cells w h = simp length-append (omega (arith, lengths)) in
      let is : room ≡ tables ++ t.rest = whole ∙ simp append_assoc in
      rw (is, ← four) (get_or-append-add tables t.rest j 0)

  -- the cell of a window in a table of windows
  read : (off : ℕ) (f : ℕ → ℕ → ℕ) (done rest : List ℕ) → length done ≡ off → room ≡ done ++ window_table w h r f ++ rest
      → (x y : ℕ) → Inside w h x y r → get_or room (off + corner_at w x y r) 0 ≡ f x y
  unfolding window_table
  read off f done rest len is x y i =
      let l = corner-in w h x y r i in
      part-cell done (window_table w h r f) rest room off (corner_at w x y r) len is (rw (length-windows w h r f) l)
      ∙ list_of-at (cells w h) (window_cell w h r f) (corner_at w x y r) 0 l
      ∙ window-at-corner w h r f x y i

  pub sum-here : (x y : ℕ) → Inside w h x y r → get_or room (corner_at w x y r) 0 ≡ window_sum (level_at w a) x y r
  unfolding SA
  sum-here x y i = rw zero-add at (read 0 (sum_in w r a) [] (Ra ++ SB ++ RB ++ t.rest) refl (whole ∙ simp append_assoc) x y i)

  pub root-here : (x y : ℕ) → Inside w h x y r → get_or room (cells w h + corner_at w x y r) 0 ≡ root_bits (window_var w a x y r)
  unfolding Ra
  root-here = read (cells w h) (root_in w r a) SA (SB ++ RB ++ t.rest) lengths.0 (whole ∙ simp append_assoc)

  pub sum-there : (x y : ℕ) → Inside w h x y r → get_or room (2 * cells w h + corner_at w x y r) 0 ≡ window_sum (level_at w b) x y r
  unfolding SB
  sum-there = read (2 * cells w h) (sum_in w r b) (SA ++ Ra) (RB ++ t.rest) (simp length-append (omega (arith, lengths))) (whole ∙ simp append_assoc)

  pub root-there : (x y : ℕ) → Inside w h x y r → get_or room (3 * cells w h + corner_at w x y r) 0 ≡ root_bits (window_var w b x y r)
  unfolding RB
  root-there = read (3 * cells w h) (root_in w r b) (SA ++ Ra ++ SB) t.rest (simp length-append (omega (arith, lengths))) (whole ∙ simp append_assoc)

-- the parts of a room: the tables of the two pictures, and the products' table behind them
module _ {room : List ℕ} {w h r : ℕ} {s : ℤ} {a b : List ℕ} (o : RoomOf room w h r s a b) where
  AB : List ℕ
  AB = table_of w h (cross_at w a b s)

  pub tables-of : TablesOf room w h r a b
  unfolding AB five_parts
  tables-of = record { rest = AB ++ o.rest; frame = o.frame; first = o.first; second = o.second; is = o.is ∙ simp append_assoc }

  long-AB : length AB ≡ cells w h
  unfolding AB
  long-AB = length-table w h _

  pub long : 5 * cells w h ≤ length room
  unfolding tables-of
  long = omega (arith, tables-long tables-of, length-append AB o.rest, long-AB)

  pub products : (i : ℕ) → TableFrom room (4 * cells w h) i w h (cross_at w a b s)
  unfolding AB tables-of
  products i = record {
    long = omega (arith, long);
    same = λ j _ l. behind tables-of j ∙ get_or-append AB o.rest 0 j (rw length-table l);
  }
