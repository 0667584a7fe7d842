-- The loop over a table's rows, once for every kind of table: f is the picture's values.
use Prim.Native.Nat.{ℕ, zero, suc, ◌+◌, ◌*◌, ◌-◌, ◌^◌, ◌≤◌, ◌<◌, zero-le}
use mathlib.Core.Path.{◌≡◌, sym, ap, ap₂, ◌∙◌}
use mathlib.Core.List.{List, [], ◌++◌, append-nil, append_assoc}
use native.Mathlib.Numerals.{add-one}
use native.Mathlib.Nat.{add-mul, le_refl, zero-mul, one-mul, min-le_left, le_antisymm, le_trans, mul-le-mul, mul_comm, suc-mul, add-sub_cancel_left}
use mathlib.Core.Logic.{⊎_elim}
use native.Mathlib.Omega.{arith}
use borrow.Rule.Slice.PartMut.{put_mid, same_len_mid}
use lib.ListN.{length, get_or, take, drop, replicate, length-replicate, length-append, length-drop, length-take, drop_of_length-le, get_or-eq_default}
use lib.Seq.{length-take-le, take_at, drop_at, drop-drop, take-take, drop-append-add}
use Rattle.options.specs.Limits.{side_most}
use Rattle.lists.proofs.Tests.{lt-or-le}
use Rattle.lists.proofs.Rows.{row_at}
use Rattle.lists.proofs.Lists.{list_of-length, list_of-at, list_of-same, list_of-const}
use Rattle.lists.specs.Lists.{list_of}
use Rattle.lists.specs.Rows.{level_at}
use Rattle.lists.specs.Sums.{sum_to, sum_rect}
use Rattle.windows.specs.Table.{RowReady, next_row, table_rows, table_of}
use Rattle.lists.proofs.Sums.{sum_to-bound}

-- what the code lends: rows y and y + 1 of the table
abbrev pub lent_rows : ℕ → ℕ → List ℕ → List ℕ
lent_rows w y table = take (y * (w + 1) + 2 * (w + 1) - y * (w + 1)) (drop (y * (w + 1)) table)

abbrev row : ℕ → (ℕ → ℕ → ℕ) → ℕ → List ℕ
row w f y = list_of (w + 1) (λ x. sum_rect x y f)

-- the loop has filled the rows up to y
pub record TableInv (w h : ℕ) (f : ℕ → ℕ → ℕ) (start table : List ℕ) (y : ℕ) : Type 0 where
  pub within : y ≤ h
  pub size : length table ≡ (w + 1) * (h + 1)
  pub filled : table ≡ table_rows w (y + 1) f ++ drop ((y + 1) * (w + 1)) start

-- where rows y and y + 1 of the table and row y of the picture lie
pub record Spots (w h y : ℕ) : Type 0 where
  pub table-end : y * (w + 1) + 2 * (w + 1) ≤ (w + 1) * (h + 1)
  pub picture-end : y * w + w ≤ w * h
  pub table-most : (w + 1) * (h + 1) ≤ (side_most + 1) * (side_most + 1)
  pub picture-most : w * h ≤ side_most * side_most

rows_fit : (s n m : ℕ) → n ≤ m → n * s ≤ s * m
rows_fit s n m l = rw (mul_comm s m) (mul-le-mul l (le_refl s))

pub spots : (w h y : ℕ) → w ≤ side_most → h ≤ side_most → y < h → Spots w h y
spots w h y lw lh l =
    let w1 : w + 1 ≤ side_most + 1 = omega arith in
    let h1 : h + 1 ≤ side_most + 1 = omega arith in
    record {
      table-end = rw (← add-mul y 2 (w + 1)) (rows_fit (w + 1) (y + 2) (h + 1) (omega arith));
      picture-end = rw (← suc-mul y w) (rows_fit w (suc y) h l);
      table-most = mul-le-mul w1 h1;
      picture-most = mul-le-mul lw lh;
    }

pub length-rows : (w n : ℕ) (f : ℕ → ℕ → ℕ) → length (table_rows w n f) ≡ n * (w + 1)
unfolding table_rows
length-rows w zero f = sym (zero-mul (w + 1))
length-rows w (suc n) f =
    length-append (table_rows w n f) (list_of (w + 1) (λ x. sum_rect x n f))
    ∙ ap₂ (λ a b. a + b) (length-rows w n f) (list_of-length (w + 1) (λ x. sum_rect x n f))
    ∙ sym (suc-mul n (w + 1))

pub length-table : (w h : ℕ) (f : ℕ → ℕ → ℕ) → length (table_of w h f) ≡ (w + 1) * (h + 1)
unfolding table_of
length-table w h f = length-rows w (h + 1) f ∙ mul_comm (h + 1) (w + 1)

-- the sum over w columns and h rows of values of at most m
pub sum_rect-bound : (m w h : ℕ) (f : ℕ → ℕ → ℕ) → ((x y : ℕ) → f x y ≤ m) → sum_rect w h f ≤ h * (w * m)
unfolding sum_rect
sum_rect-bound m w h f small =
    sum_to-bound (w * m) h (λ y. sum_to w (λ x. f x y)) (λ y _. sum_to-bound m w (λ x. f x y) (λ x _. small x y))

module _ (w h : ℕ) (f : ℕ → ℕ → ℕ) (small : (x y : ℕ) → f x y ≤ 65025) (start : List ℕ) (lw : w ≤ side_most) (lh : h ≤ side_most) (table : List ℕ) (y : ℕ) (i : TableInv w h f start table y) (more : y < h) where
  at : Spots w h y
  at = spots w h y lw lh more

  split : table ≡ table_rows w y f ++ (row w f y ++ drop ((y + 1) * (w + 1)) start)
  unfolding table_rows
  split = i.filled ∙ rw (add-one y, append_assoc)

  rest : drop (y * (w + 1)) table ≡ row w f y ++ drop ((y + 1) * (w + 1)) start
  rest = rw split (drop_at (table_rows w y f) _ (y * (w + 1)) (length-rows w y f))

  first : take (y * (w + 1)) table ≡ table_rows w y f
  first = rw split (take_at (table_rows w y f) _ (y * (w + 1)) (length-rows w y f))

  pub lent_first : take (w + 1) (lent_rows w y table) ≡ row w f y
  lent_first =
      rw (add-sub_cancel_left, rest)
      (take-take (w + 1) (2 * (w + 1)) _ (omega arith) ∙ take_at (row w f y) _ (w + 1) (list_of-length (w + 1) _))

  lent_length : length (lent_rows w y table) ≡ 2 * (w + 1)
  lent_length = rw add-sub_cancel_left (length-take-le (2 * (w + 1)) _ (rw length-drop (omega (arith, at, i.size))))

  -- the upper of the two rows that are lent has room for another row's sum
  room : (x : ℕ) → get_or (row w f y) x 0 < 2 ^ 52
  room x =
      ⊎_elim
      (λ (l : x < w + 1).
      let few : y * (x * 65025) ≤ side_most * (side_most * 65025) = mul-le-mul {n₂ = side_most} {m₂ = side_most * 65025} (omega arith) (omega arith) in
      rw (list_of-at (w + 1) (λ x. sum_rect x y f) x 0 l) (omega (arith, sum_rect-bound 65025 x y f small)))
      (λ (l : w + 1 ≤ x). rw (get_or-eq_default (row w f y) 0 {n = x} (rw list_of-length l)) (omega arith))
      (lt-or-le x (w + 1))

  pub table-ready : RowReady w (take (w + 1) (lent_rows w y table))
  table-ready =
      rw lent_first record { width = lw; size = list_of-length (w + 1) (λ x. sum_rect x y f); room = room }

  pub rows-even : length (drop (w + 1) (lent_rows w y table)) ≡ length (take (w + 1) (lent_rows w y table))
  rows-even = rw (lent_first, list_of-length) (length-drop (w + 1) (lent_rows w y table) ∙ omega (arith, lent_length))

  module _ (after left : List ℕ) (joined : after ≡ take (w + 1) (lent_rows w y table) ++ left) (made : left ≡ next_row w (λ x. f x y) (take (w + 1) (lent_rows w y table))) where
    after_is : after ≡ row w f y ++ row w f (suc y)
    unfolding next_row sum_rect sum_to
    after_is =
        joined
        ∙ rw (made, lent_first)
        (ap (λ l. row w f y ++ l) (list_of-same (w + 1) _ _ (λ x l. ap (λ a. a + sum_to x (λ x. f x y)) (list_of-at (w + 1) (λ x. sum_rect x y f) x 0 l))))

    after-length : length after ≡ length (lent_rows w y table)
    after-length = rw (after_is, lent_length) (simp (length-append, list_of-length) (omega arith))

    after-rest : drop (y * (w + 1) + 2 * (w + 1) - y * (w + 1)) (drop (y * (w + 1)) table) ≡ drop ((y + 1 + 1) * (w + 1)) start
    after-rest =
        let two : 2 * (w + 1) ≡ length (row w f y) + (w + 1) = rw list_of-length (omega arith) in
        let next : (y + 1) * (w + 1) + (w + 1) ≡ (y + 1 + 1) * (w + 1) = rw (add-one (y + 1)) (sym (suc-mul (y + 1) (w + 1))) in
        rw (add-sub_cancel_left, rest, two)
        (drop-append-add (row w f y) _ (w + 1) ∙ drop-drop (w + 1) ((y + 1) * (w + 1)) start ∙ ap (λ k. drop k start) next)

    pub table-again : TableInv w h f start (put_mid (y * (w + 1)) (y * (w + 1) + 2 * (w + 1) - y * (w + 1)) table after) (y + 1)
    unfolding table_rows
    table-again =
        record {
          within = omega arith;
          size = same_len_mid (y * (w + 1)) (y * (w + 1) + 2 * (w + 1) - y * (w + 1)) table after after-length ∙ i.size;
          filled = rw (first, after_is, after-rest, add-one (y + 1), add-one y) (simp append_assoc);
        }

-- every level of a picture is at most 255
pub level-small : (w : ℕ) (pic : List ℕ) → ((i : ℕ) → get_or pic i 0 ≤ 255) → (x y : ℕ) → level_at w pic x y ≤ 255
level-small w pic small x y =
    ⊎_elim
    (λ (l : x < w). rw (row_at w pic y x 0 l) (small (y * w + x)))
    (λ (l : w ≤ x).
    rw (get_or-eq_default (take w (drop (y * w) pic)) 0 {n = x} (rw length-take (le_trans (min-le_left w _) l)))
    zero-le)
    (lt-or-le x w)

-- the first row is within the table
pub first_fits : (w h : ℕ) (table : List ℕ) → length table ≡ (w + 1) * (h + 1) → w + 1 ≤ length table
first_fits w h table e = omega (arith, rows_fit (w + 1) 1 (h + 1) (omega arith))

pub first-row : (w h : ℕ) (table : List ℕ) → length table ≡ (w + 1) * (h + 1) → length (take (w + 1) table) ≡ w + 1
first-row w h table e = length-take-le (w + 1) table (first_fits w h table e)

pub table-start : (w h : ℕ) (f : ℕ → ℕ → ℕ) (before cleared : List ℕ) → length before ≡ (w + 1) * (h + 1) → cleared ≡ replicate (w + 1) 0
    → TableInv w h f (cleared ++ drop (w + 1) before) (cleared ++ drop (w + 1) before) 0
unfolding table_rows sum_rect sum_to
table-start w h f before cleared e made =
    record {
      within = zero-le;
      size = rw made (simp (length-append, length-replicate, length-drop) (omega (arith, rows_fit (w + 1) 1 (h + 1) (omega arith))));
      filled = rw (made, one-mul (w + 1), drop_at (replicate (w + 1) 0) (drop (w + 1) before) (w + 1) (length-replicate (w + 1) 0), list_of-const {A = ℕ} (w + 1) 0);
    }

pub table_done : (w h : ℕ) (f : ℕ → ℕ → ℕ) (start table : List ℕ) (y : ℕ) → TableInv w h f start table y → h ≤ y → table ≡ table_of w h f
unfolding table_of
table_done w h f start table y i l =
    let last : y ≡ h = le_antisymm i.within l in
    let whole : table ≡ table_rows w (h + 1) f ++ drop ((h + 1) * (w + 1)) start = rw last at i.filled in
    let many : length table ≡ (h + 1) * (w + 1) + (length start - (h + 1) * (w + 1)) =
    ap length whole ∙ simp (length-append, length-rows, length-drop) in
    let none : drop ((h + 1) * (w + 1)) start ≡ [] =
    drop_of_length-le start {i = (h + 1) * (w + 1)} (omega (arith, i.size, mul_comm (h + 1) (w + 1))) in
    whole ∙ rw (none, append-nil)
