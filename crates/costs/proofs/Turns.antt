-- One sum and one root of a picture, from what is left of its levels and squares. Assumes nothing.
use Prim.Native.Nat.{ℕ, zero, suc, ◌+◌, ◌*◌, ◌-◌, ◌/◌, ◌%◌, ◌^◌, ◌≤◌, ◌<◌}
use mathlib.Core.Path.{◌≡◌, refl, sym, ap, ap₂, ◌∙◌, subst}
use mathlib.Core.List.{List, [], ◌∷◌, ◌++◌, append-nil}
use native.Mathlib.Nat.{le_of_suc-le-suc, zero-add, suc-add, div-add-mod', div-lt_iff_lt-mul, mod-lt, mul_comm, add-sub_cancel}
use native.Mathlib.Omega.{arith}
use borrow.Author.Tests.{lt-ltb, le-ltb}
use borrow.Rule.Slice.PartMut.{put_mid}
use lib.ListN.{length, set, drop, length-set, length-append, length-drop, drop_of_length-le, get_or-append}
use lib.Seq.{get_or-append-add}
use Rattle.options.specs.Limits.{block_most}
use Rattle.lists.specs.Rows.{level_at}
use Rattle.windows.specs.Table.{table_of, square_at}
use Rattle.windows.specs.Window.{window_sum, Inside, corner_sum, Corners, cells, TableFrom, corner_at}
use Rattle.windows.specs.Moments.{variance_of}
use Rattle.windows.proofs.Tables.{length-table}
use Rattle.lists.proofs.Lists.{put_next, list_of-length, filled_next, filled-rest, filled-end}
use Rattle.windows.proofs.Laws.{var-not-cut}
use Rattle.windows.proofs.Flat.{pixel, count, window-flat}
use Rattle.lists.specs.Lists.{list_of}
use Rattle.costs.specs.Raw.{pixels, window_var}
use Rattle.costs.specs.Roots.{root_bits, window_at, window_cell, window_table, sum_in, root_in, picture_tables}
use Rattle.costs.specs.Rooms.{Picture, TablesFrom}
use Rattle.windows.proofs.Corners.{corners, corner-sum}
use Rattle.costs.proofs.Readings.{squares-fit}

-- the column and the row of a cell
pub column-in : (w i : ℕ) → i % (w + 1) < w + 1
column-in w i = let some : 0 < w + 1 = omega arith in mod-lt i some

pub row_in : (w h i : ℕ) → i < cells w h → i / (w + 1) < h + 1
row_in w h i l = let some : 0 < w + 1 = omega arith in (div-lt_iff_lt-mul some).1 (omega (arith, mul_comm (w + 1) (h + 1)))

-- Sa² is at most n·Saa
pub not-cut : (w : ℕ) (a : List ℕ) (x y r : ℕ) → window_sum (level_at w a) x y r * window_sum (level_at w a) x y r ≤ pixels r * window_sum (square_at w a) x y r
not-cut w a x y r = rw (window-flat (level_at w a) x y r, window-flat (square_at w a) x y r) (var-not-cut (count r) (pixel (level_at w a) x y r))

-- no window fits at a cell
module _ (w h r : ℕ) (f : ℕ → ℕ → ℕ) (i : ℕ) where
  pub no-column : w ≤ i % (w + 1) + 2 * r → 0 ≡ window_cell w h r f i
  unfolding window_at
  no-column l = rw (le-ltb (i % (w + 1) + 2 * r) w l)

  pub no_row : i % (w + 1) + 2 * r < w → h ≤ i / (w + 1) + 2 * r → 0 ≡ window_cell w h r f i
  unfolding window_at
  no_row k l = rw (lt-ltb (i % (w + 1) + 2 * r) w k, le-ltb (i / (w + 1) + 2 * r) h l)

-- the window whose top left corner is cell i
module _ (pair : List ℕ) (w h r i : ℕ) (lc : i % (w + 1) + 2 * r < w) (lr : i / (w + 1) + 2 * r < h) where
  abbrev x : ℕ
  x = i % (w + 1) + r

  abbrev y : ℕ
  y = i / (w + 1) + r

  inside : Inside w h x y r
  inside = record { left = omega arith; right = omega arith; top = omega arith; bottom = omega arith }

  corner : corner_at w x y r ≡ i
  corner =
      ap₂ (λ a b. a * (w + 1) + b) (add-sub_cancel (i / (w + 1)) r) (add-sub_cancel (i % (w + 1)) r)
      ∙ div-add-mod' i (w + 1)

  module _ (pic : List ℕ) (t : TablesFrom pair w h i pic) where
    levels-from : TableFrom pair 0 (corner_at w x y r) w h (level_at w pic)
    levels-from = subst (λ (k : ℕ). TableFrom pair 0 k w h (level_at w pic)) (sym corner) t.levels

    squares-from : TableFrom pair (cells w h) (corner_at w x y r) w h (square_at w pic)
    squares-from = subst (λ (k : ℕ). TableFrom pair (cells w h) k w h (square_at w pic)) (sym corner) t.squares

    first : 0 + corner_at w x y r ≡ i
    first = zero-add _ ∙ corner

    pub levels-corners : Corners pair (w + 1) i (2 * r + 1)
    levels-corners = subst (λ (k : ℕ). Corners pair (w + 1) k (2 * r + 1)) first (corners pair 0 w h (level_at w pic) x y r inside levels-from)

    pub squares-corners : Corners pair (w + 1) (cells w h + i) (2 * r + 1)
    squares-corners = subst (λ (k : ℕ). Corners pair (w + 1) (cells w h + k) (2 * r + 1)) corner (corners pair (cells w h) w h (square_at w pic) x y r inside squares-from)

    pub sum-cell : (sum : ℕ) → sum ≡ corner_sum pair (w + 1) i (2 * r + 1) → sum ≡ window_cell w h r (sum_in w r pic) i
    unfolding window_at
    sum-cell sum e =
        e ∙ subst (λ (k : ℕ). corner_sum pair (w + 1) k (2 * r + 1) ≡ window_sum (level_at w pic) x y r) first (corner-sum pair 0 w h (level_at w pic) x y r inside levels-from)
        ∙ rw (lt-ltb (i % (w + 1) + 2 * r) w lc, lt-ltb (i / (w + 1) + 2 * r) h lr) refl

    module _ (sum squares : ℕ) (e : sum ≡ corner_sum pair (w + 1) i (2 * r + 1)) (e₂ : squares ≡ corner_sum pair (w + 1) (cells w h + i) (2 * r + 1)) where
      sum_is : sum ≡ window_sum (level_at w pic) x y r
      sum_is = e ∙ subst (λ (k : ℕ). corner_sum pair (w + 1) k (2 * r + 1) ≡ window_sum (level_at w pic) x y r) first (corner-sum pair 0 w h (level_at w pic) x y r inside levels-from)

      squares-is : squares ≡ window_sum (square_at w pic) x y r
      squares-is =
          e₂ ∙ subst (λ (k : ℕ). corner_sum pair (w + 1) (cells w h + k) (2 * r + 1) ≡ window_sum (square_at w pic) x y r) corner (corner-sum pair (cells w h) w h (square_at w pic) x y r inside squares-from)

      pub squares-below : r ≤ block_most / 2 → pixels r * squares < 2 ^ 53
      squares-below few = rw squares-is (squares-fit w h pic x y r few t.picture)

      pub square-most : sum * sum ≤ pixels r * squares
      square-most = rw (sum_is, squares-is) (not-cut w pic x y r)

      pub root_is : root_bits (variance_of (pixels r) sum squares) ≡ window_cell w h r (root_in w r pic) i
      unfolding window_at window_var
      root_is = rw (sum_is, squares-is, lt-ltb (i % (w + 1) + 2 * r) w lc, lt-ltb (i / (w + 1) + 2 * r) h lr)

set_after : (p l : List ℕ) (i v : ℕ) → set (p ++ l) (length p + i) v ≡ p ++ set l i v
set_after [] l i v = ap (λ k. set l k v) (zero-add i)
set_after (x ∷ p) l i v = rw (suc-add (length p) i) (ap (λ t. x ∷ t) (set_after p l i v))

set_before : (p l : List ℕ) (i v : ℕ) → i < length p → set (p ++ l) i v ≡ set p i v ++ l
set_before [] l i v k = absurd (omega arith)
set_before (x ∷ p) l zero v k = refl
set_before (x ∷ p) l (suc i) v k = ap (λ t. x ∷ t) (set_before p l i v (le_of_suc-le-suc k))

-- a table of which the first i cells are those of windows
abbrev part : ℕ → ℕ → ℕ → (ℕ → ℕ → ℕ) → List ℕ → ℕ → List ℕ
part w h r f table i = list_of i (window_cell w h r f) ++ drop i table

part_length : (w h r : ℕ) (f g : ℕ → ℕ → ℕ) (i : ℕ) → i ≤ cells w h → length (part w h r f (table_of w h g) i) ≡ cells w h
part_length w h r f g i l = simp (length-append, list_of-length, length-drop) (omega (arith, length-table w h g))

-- the loop over the cells: the first i of each table are sums and roots, the rest are levels and squares
pub record TurnInv (w h r : ℕ) (pic pair : List ℕ) (i : ℕ) : Type 0 where
  pub within : i ≤ cells w h
  pub filled : pair ≡ part w h r (sum_in w r pic) (table_of w h (level_at w pic)) i ++ part w h r (root_in w r pic) (table_of w h (square_at w pic)) i

module _ (w h r : ℕ) (pic : List ℕ) where
  pub turn-start : (before levels squares : List ℕ) → length before ≡ 2 * cells w h → levels ≡ table_of w h (level_at w pic) → squares ≡ table_of w h (square_at w pic)
      → TurnInv w h r pic (put_mid (cells w h) (2 * cells w h - cells w h) (put_mid 0 (cells w h - 0) before levels) squares) 0
  unfolding list_of
  turn-start before levels squares long el es =
      let c = cells w h in
      let A = table_of w h (level_at w pic) in
      let S = table_of w h (square_at w pic) in
      let r₁ = put_mid 0 (c - 0) before A in
      let s₁ : r₁ ≡ A ++ drop c before = put_next [] before before A 0 c (omega arith) refl refl in
      let s₂ : put_mid c (2 * c - c) r₁ S ≡ A ++ S ++ drop (2 * c) before = put_next A before r₁ S c (2 * c) (omega arith) (length-table w h _) s₁ in
      let past : length before ≤ 2 * c = omega arith in
      record {
        within = omega arith;
        filled = rw (el, es) (s₂ ∙ rw (drop_of_length-le before past, append-nil));
      }

  module _ (pair : List ℕ) (i : ℕ) (t : TurnInv w h r pic pair i) where
    abbrev A : List ℕ
    A = table_of w h (level_at w pic)

    abbrev S : List ℕ
    S = table_of w h (square_at w pic)

    abbrev sums : List ℕ
    sums = part w h r (sum_in w r pic) A i

    abbrev roots : List ℕ
    roots = part w h r (root_in w r pic) S i

    sums-long : length sums ≡ cells w h
    sums-long = part_length w h r (sum_in w r pic) (level_at w pic) i t.within

    roots-long : length roots ≡ cells w h
    roots-long = part_length w h r (root_in w r pic) (square_at w pic) i t.within

    pub turn-length : length pair ≡ 2 * cells w h
    turn-length = omega (arith, ap length t.filled ∙ length-append sums roots, sums-long, roots-long)

    pub turning : Picture w h pic → TablesFrom pair w h i pic
    turning p = record {
      picture = p;
      levels = record {
        long = omega (arith, turn-length);
        same = λ j l k. rw (t.filled, zero-add j) (get_or-append sums roots 0 j (rw sums-long k) ∙ filled-rest i (window_cell w h r (sum_in w r pic)) A j 0 l);
      };
      squares = record {
        long = omega (arith, turn-length);
        same = λ j l k. rw (t.filled, ← sums-long) (get_or-append-add sums roots j 0 ∙ filled-rest i (window_cell w h r (root_in w r pic)) S j 0 l);
      };
    }

    pub turn-again : i < cells w h → (u v : ℕ) → u ≡ window_cell w h r (sum_in w r pic) i → v ≡ window_cell w h r (root_in w r pic) i
        → TurnInv w h r pic (set (set pair i u) (cells w h + i) v) (i + 1)
    turn-again l u v eu ev = record {
      within = omega arith;
      filled =
          ap (λ k. set k (cells w h + i) v) (ap (λ k. set k i u) t.filled ∙ set_before sums roots i u (rw sums-long l))
          ∙ ap (λ n. set (set sums i u ++ roots) (n + i) v) (sym (length-set sums i u ∙ sums-long))
          ∙ set_after (set sums i u) roots i v
          ∙ ap₂ (λ j k. j ++ k) (filled_next i (window_cell w h r (sum_in w r pic)) A u (rw length-table l) eu) (filled_next i (window_cell w h r (root_in w r pic)) S v (rw length-table l) ev);
    }

    pub turn-done : cells w h ≤ i → pair ≡ picture_tables w h r pic
    unfolding picture_tables window_table
    turn-done l =
        t.filled
        ∙ ap₂ (λ j k. j ++ k)
        (filled-end i (cells w h) (window_cell w h r (sum_in w r pic)) A (omega (arith, t.within)) (length-table w h (level_at w pic)))
        (filled-end i (cells w h) (window_cell w h r (root_in w r pic)) S (omega (arith, t.within)) (length-table w h (square_at w pic)))
