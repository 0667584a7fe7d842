-- The cells of rows as bytes and back: what the loops over cells and rows need. Assumes nothing.
use Prim.Native.Nat.{ℕ, zero, suc, ◌+◌, ◌-◌, ◌*◌, ◌≤◌, ◌<◌}
use mathlib.Core.Path.{◌≡◌, refl, sym, ap, ◌∙◌}
use mathlib.Core.List.{List, [], ◌∷◌, ◌++◌, append-nil, append_assoc}
use native.Mathlib.Nat.{add-sub_cancel_left, mul_comm, zero-add, suc-add}
use native.Mathlib.Numerals.{add-one}
use native.Mathlib.Omega.{arith}
use borrow.Rule.Slice.PartMut.{put_mid}
use lib.ListN.{length, get_or, set, take, drop, length-append, length-set, length-take, length-drop, drop_of_length-le, take-append-drop}
use lib.Seq.{take-suc, length-take-le, drop-drop, take_at, drop_at, take-append-le, drop-append-le, drop-cons, set_at, append_snoc}
use lib.Ieee.{Float}
use Rattle.lists.specs.Rows.{row_of, bottom_up}
use Rattle.lists.proofs.Lists.{put_next}
use Rattle.lists.proofs.Rows.{Upward, UpwardRoom, upward-none, upward-more, upward-all, upward-room, row-long, bottom_up-length}
use Rattle.netpbm.specs.declared.order.Order.{Order}
use Rattle.netpbm.specs.Pfm.{cell_bytes, cells_bytes, file_cell, file_cells}
use Rattle.netpbm.proofs.Orders.{cells-length}

-- the row at hand, and those passed with it, lie within the map
pub row_room : (w h y : ℕ) (cells done : List Float) → Upward w h cells y done → 0 < y → length cells ≡ w * h → UpwardRoom w h y done
row_room w h y cells done u some long = upward-room w h cells y done u some long

module _ (o : Order) where
  -- ---- writing

  -- the bytes of some cells and then others
  pub bytes-append : (a b : List Float) → cells_bytes o (a ++ b) ≡ cells_bytes o a ++ cells_bytes o b
  unfolding cells_bytes
  bytes-append [] b = refl
  bytes-append (x ∷ a) b = ap (λ s. cell_bytes o x ++ s) (bytes-append a b) ∙ sym (append_assoc (cell_bytes o x) (cells_bytes o a) (cells_bytes o b))

  -- one cell more
  pub bytes-more : (cells : List Float) (i : ℕ) (d : Float) → i < length cells → cells_bytes o (take (i + 1) cells) ≡ cells_bytes o (take i cells) ++ cell_bytes o (get_or cells i d)
  unfolding cells_bytes
  bytes-more cells i d l = rw (add-one, take-suc cells i d, bytes-append, append-nil)

  -- the first i cells take four bytes each
  pub bytes-long : (cells : List Float) (i : ℕ) → i ≤ length cells → length (cells_bytes o (take i cells)) ≡ 4 * i
  bytes-long cells i l = rw (cells-length, length-take-le)

  -- ---- reading

  -- as many cells as were asked for
  cells_count : (n : ℕ) (s : List ℕ) → length (file_cells o n s) ≡ n
  unfolding file_cells
  cells_count zero s = refl
  cells_count (suc n) s = ap suc (cells_count n (drop 4 s))

  -- some cells and then others
  cells-split : (n m : ℕ) (s : List ℕ) → file_cells o (n + m) s ≡ file_cells o n s ++ file_cells o m (drop (4 * n) s)
  unfolding file_cells
  cells-split zero m s = rw zero-add
  cells-split (suc n) m s =
      let far : 4 * suc n ≡ 4 + 4 * n = omega arith in
      rw (suc-add, far, ← drop-drop (4 * n) 4 s) (ap (λ r. file_cell o (take 4 s) ∷ r) (cells-split n m (drop 4 s)))

  -- bytes past the cells do not count
  cells-front : (n : ℕ) (a b : List ℕ) → 4 * n ≤ length a → file_cells o n (a ++ b) ≡ file_cells o n a
  unfolding file_cells
  cells-front zero a b l = refl
  cells-front (suc n) a b l =
      let four : 4 ≤ length a = omega arith in
      rw (take-append-le, drop-append-le) (ap (λ r. file_cell o (take 4 a) ∷ r) (cells-front n (drop 4 a) b (rw length-drop (omega arith))))

  -- a row of the cells, from its bytes
  cells-row : (w n y : ℕ) (s : List ℕ) → y * w + w ≤ n → length s ≡ 4 * n → file_cells o w (take (4 * w) (drop (4 * (y * w)) s)) ≡ row_of w (file_cells o n s) y
  cells-row w n y s l long =
      let t = drop (4 * (y * w)) s in
      let m = n - (y * w + w) in
      let parts : n ≡ y * w + (w + m) = omega arith in
      let four : 4 * w ≤ length (take (4 * w) t) = simp (length-take, length-drop) (omega arith) in
      rw (parts, cells-split (y * w) (w + m) s, drop_at _ _ (y * w) (cells_count (y * w) s), cells-split w m t, take_at _ _ w (cells_count w t))
      (sym (cells-front w (take (4 * w) t) (drop (4 * w) t) four) ∙ ap (file_cells o w) (take-append-drop (4 * w) t))

-- the first i cells of s were put over those of old
pub record Filled (o : Order) (s : List ℕ) (old : List Float) (i : ℕ) (new : List Float) : Type 0 where
  pub within : i ≤ length old
  pub long : length new ≡ length old
  pub stand : new ≡ file_cells o i s ++ drop i old

module _ (o : Order) (s : List ℕ) (old : List Float) where
  -- before the first
  pub filled_none : Filled o s old 0 old
  unfolding file_cells
  filled_none = record { within = omega arith; long = refl; stand = refl }

  -- one cell more
  pub filled_more : (i : ℕ) (new : List Float) (x : Float) → Filled o s old i new → i < length old → x ≡ file_cell o (take 4 (drop (4 * i) s)) → Filled o s old (i + 1) (set new i x)
  unfolding file_cells
  filled_more i new x f l e = record {
    within = omega arith;
    long = rw length-set f.long;
    stand = rw (f.stand, cells-split o i 1 s, add-one, append_snoc, drop-cons old i x, set_at _ _ _ x i (cells_count o i s), e);
  }

  -- after the last
  pub filled_all : (i : ℕ) (new : List Float) → Filled o s old i new → length old ≤ i → new ≡ file_cells o (length old) s
  filled_all i new f l =
      let last : length old ≡ i = omega (arith, f.within) in
      f.stand ∙ rw (drop_of_length-le old l, append-nil, last)

-- a part of n elements has n
part-long : {A : Type 0} (from n : ℕ) (l : List A) → from + n ≤ length l → length (take (from + n - from) (drop from l)) ≡ n
part-long from n l h = rw add-sub_cancel_left (length-take-le n (drop from l) (rw length-drop (omega arith)))

-- the rows of s from row y on, the bottom one first, were put over the first `from` cells of old
pub record FilledRows (o : Order) (w h : ℕ) (s : List ℕ) (old : List Float) (y from : ℕ) (new : List Float) : Type 0 where
  pub rows : List Float
  pub passed : Upward w h (file_cells o (w * h) s) y rows
  pub place : from ≡ length rows
  pub long : length new ≡ length old
  pub stand : new ≡ rows ++ drop from old

module _ (o : Order) (w h : ℕ) (s : List ℕ) (old : List Float) where
  -- before the bottom row
  pub rows_none : FilledRows o w h s old h 0 old
  rows_none = record { rows = []; passed = upward-none w h (file_cells o (w * h) s); place = refl; long = refl; stand = refl }

  module _ (y from : ℕ) (new : List Float) (f : FilledRows o w h s old y from new) where
    -- the next row is there
    pub rows_room : 0 < y → UpwardRoom w h y f.rows
    rows_room some = upward-room w h (file_cells o (w * h) s) y f.rows f.passed some (cells_count o (w * h) s)

    -- the part that is lent for it has its length
    part-size : 0 < y → length old ≡ w * h → length (take (from + w - from) (drop from new)) ≡ w
    part-size some wide = part-long from w new (omega (arith, (rows_room some).passed, f.place, f.long))

    -- and a part of the bytes with a row has four for a cell
    pub rows_lent : 0 < y → length old ≡ w * h → (at : ℕ) → at + 4 * w ≤ length s
        → length (take (at + 4 * w - at) (drop at s)) ≡ 4 * length (take (from + w - from) (drop from new))
    rows_lent some wide at inside = rw (part-size some wide) (part-long at (4 * w) s inside)

    -- one row more
    pub rows_more : (part : List Float) → 0 < y → length old ≡ w * h → length s ≡ 4 * (w * h)
        → part ≡ file_cells o (length (take (from + w - from) (drop from new))) (take (4 * ((y - 1) * w) + 4 * w - 4 * ((y - 1) * w)) (drop (4 * ((y - 1) * w)) s))
        → FilledRows o w h s old (y - 1) (from + w) (put_mid from (from + w - from) new part)
    rows_more part some wide deep made =
        let room = rows_room some in
        let all = file_cells o (w * h) s in
        let row = row_of w all (y - 1) in
        let is : part ≡ row = made ∙ rw (part-size some wide, add-sub_cancel_left) (cells-row o w (w * h) (y - 1) s room.next deep) in
        let count : length (f.rows ++ row) ≡ from + w =
        length-append f.rows row ∙ omega (arith, f.place, row-long w all (y - 1) (rw cells_count room.next)) in
        let put = put_next f.rows old new part from (from + w) (omega arith) (sym f.place) f.stand ∙ ap (λ p. f.rows ++ p ++ drop (from + w) old) is in
        record {
          rows = f.rows ++ row;
          passed = upward-more w h all y f.rows f.passed some;
          place = sym count;
          long = ap length put ∙ length-append (f.rows ++ row) (drop (from + w) old) ∙ omega (arith, count, length-drop (from + w) old, room.passed, f.place);
          stand = put;
        }

    -- after the top row
    pub rows_all : y ≤ 0 → length old ≡ w * h → new ≡ bottom_up w h (file_cells o (w * h) s)
    rows_all none wide =
        let all = file_cells o (w * h) s in
        let is = upward-all w h all y f.rows f.passed none in
        let enough : h * w ≤ length all = rw cells_count (omega (arith, mul_comm w h)) in
        let past : length old ≤ from = omega (arith, f.place, ap length is, bottom_up-length w h all enough) in
        f.stand ∙ rw (drop_of_length-le old past, append-nil) is
