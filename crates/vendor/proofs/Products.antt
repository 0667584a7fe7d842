-- The products of two windows' levels, row by row. Assumes nothing.
use Prim.Native.Nat.{ℕ, ◌+◌, ◌-◌, ◌*◌, ◌≤◌, ◌<◌}
use mathlib.Core.Path.{◌≡◌, sym, ap, ap₂, ◌∙◌}
use mathlib.Core.List.{List}
use native.Mathlib.Nat.{add_assoc, add-sub_cancel_left, mul-le-mul}
use native.Mathlib.Omega.{arith}
use borrow.Rule.Slice.PartMut.{mid_len}
use lib.IntN.{ℤ, pos, negsuc, ◌+ℤ◌}
use lib.ListN.{length, get_or, drop}
use lib.Seq.{get_or-take, get_or-drop}
use Rattle.std.specs.List.{zip}
use Rattle.std.proofs.lemmas.Slice.Zip.{length-zip, get_or-zip}
use Rattle.std.proofs.lemmas.Grind.{get_or_default_zero}
use Rattle.lists.specs.Rows.{row_of, level_at}
use Rattle.lists.specs.Sums.{sum_to, sum_rect}
use Rattle.lists.proofs.Rows.{row_at}
use Rattle.lists.proofs.Sums.{sum_to-same, sum_to-bound}
use Rattle.windows.specs.Table.{column_at, cross_at}
use Rattle.windows.specs.Window.{window_sum}
use Rattle.windows.specs.Parts.{product_in}
use Rattle.windows.proofs.Tables.{Spots, spots, level-small}
use Rattle.windows.proofs.Crossed.{lent}
use Rattle.costs.proofs.Spans.{Apart, apart-says, apart-is}
use Rattle.windows.specs.Window.{Inside}
use Rattle.costs.specs.Rooms.{WindowFits}

-- a pair of two rows' levels gives the product at its column
pub pair-product : (a b : List ℕ) → length b ≡ length a → (i : ℕ) (q : ℕ × ℕ) → i < length (zip a b) → q ≡ get_or (zip a b) i q
    → (i < length a) × (q.0 * q.1 ≡ product_in a b i)
pair-product a b same i q below e =
    let in_a : i < length a = omega (arith, length-zip a b) in
    let in_b : i < length b = omega arith in
    let pair = e ∙ get_or-zip a b i q in_a in_b in (
      in_a,
      ap₂ (λ m n. m * n) (ap (λ (p : ℕ × ℕ). p.0) pair ∙ get_or_default_zero a i q.0 in_a) (ap (λ (p : ℕ × ℕ). p.1) pair ∙ get_or_default_zero b i q.1 in_b),
    )

-- two pictures, with a window at (x, y) of the first and one at (x', y) of the second
pub record TwoWindows (a b : List ℕ) (w h r x x' y : ℕ) : Type 0 where
  pub frame : WindowFits w h r
  pub a-bytes : length a ≡ w * h
  pub b-bytes : length b ≡ w * h
  pub first : Inside w h x y r
  pub second : Inside w h x' y r

-- a part of n cells that is lent has n cells, and its cell i is the list's i cells further on
part_length : (k n : ℕ) (l : List ℕ) → k + n ≤ length l → length (lent k n l) ≡ n
part_length k n l fits = mid_len k (k + n) l fits ∙ add-sub_cancel_left k n

part_at : (k n i : ℕ) (l : List ℕ) → i < n → get_or (lent k n l) i 0 ≡ get_or l (k + i) 0
part_at k n i l h = rw add-sub_cancel_left (get_or-take n (drop k l) i 0 h ∙ get_or-drop k l i 0)

-- the products of the levels of row j of the window at (x, y) of a by those of the window at (x', y) of b, added
abbrev pub row_sum : ℕ → List ℕ → List ℕ → ℕ → ℕ → ℕ → ℕ → ℕ → ℕ
row_sum w a b r x x' y j = sum_to (2 * r + 1) (λ i. level_at w a (x - r + i) (y - r + j) * level_at w b (x' - r + i) (y - r + j))

-- a column that moves with its window
moved : (x x' r i : ℕ) (s : ℤ) → pos x +ℤ s ≡ pos x' → r ≤ x → r ≤ x' → pos (x - r + i) +ℤ s ≡ pos (x' - r + i)
moved x x' r i s e l l' = apart-is (x - r + i) (x' - r + i) s (go s (apart-says x x' s e))
  where
    go : (s : ℤ) → Apart x s x' → Apart (x - r + i) s (x' - r + i)
    go (pos d) e = omega arith
    go (negsuc d) e = omega arith

module _ {a b : List ℕ} {w h r x x' y : ℕ} (p : TwoWindows a b w h r x x' y) where
  -- all rows together
  pub rows-sum : (s : ℤ) → pos x +ℤ s ≡ pos x' → sum_to (2 * r + 1) (row_sum w a b r x x' y) ≡ window_sum (cross_at w a b s) x y r
  unfolding window_sum sum_rect
  rows-sum s e =
      sum_to-same (2 * r + 1) _ _
      (λ j _.
      sum_to-same (2 * r + 1) _ _
      (λ i _. ap (λ z. level_at w a (x - r + i) (y - r + j) * column_at (row_of w b (y - r + j)) z) (sym (moved x x' r i s e p.first.left p.second.left))))

  module _ (j : ℕ) (l : j < 2 * r + 1) where
    -- row j lies within the pictures
    pub row-spots : Spots w h (y - r + j)
    row-spots = spots w h (y - r + j) p.frame.w-most p.frame.h-most (omega (arith, p.first.top, p.first.bottom))

    -- where its two parts begin, and that the first has the window's width
    abbrev here : ℕ
    here = (y - r + j) * w + (x - r)

    abbrev there : ℕ
    there = (y - r + j) * w + (x' - r)

    pub here-length : length (lent here (2 * r + 1) a) ≡ 2 * r + 1
    here-length = part_length here (2 * r + 1) a (omega (arith, row-spots, p.a-bytes, p.first.left, p.first.right))

    -- the level of a picture in a lent part of its row
    level-part : (c i : ℕ) (pic : List ℕ) → i < 2 * r + 1 → c + i < w → get_or (lent ((y - r + j) * w + c) (2 * r + 1) pic) i 0 ≡ level_at w pic (c + i) (y - r + j)
    level-part c i pic k in_row =
        part_at ((y - r + j) * w + c) (2 * r + 1) i pic k
        ∙ ap (λ n. get_or pic n 0) (add_assoc ((y - r + j) * w) c i)
        ∙ sym (row_at w pic (y - r + j) (c + i) 0 in_row)

    -- what the two parts' products come to
    pub row_made : (v : ℕ) → v ≡ sum_to (length (lent here (2 * r + 1) a)) (product_in (lent here (2 * r + 1) a) (lent there (2 * r + 1) b)) → v ≡ row_sum w a b r x x' y j
    row_made v e =
        e
        ∙ ap (λ n. sum_to n (product_in (lent here (2 * r + 1) a) (lent there (2 * r + 1) b))) here-length
        ∙ sum_to-same (2 * r + 1) _ _
        (λ i k.
        ap₂ (λ m n. m * n)
        (level-part (x - r) i a k (omega (arith, p.first.left, p.first.right)))
        (level-part (x' - r) i b k (omega (arith, p.second.left, p.second.right))))

  -- of bytes these sums are small
  module _ (la : (i : ℕ) → get_or a i 0 ≤ 255) (lb : (i : ℕ) → get_or b i 0 ≤ 255) where
    pub row-most : (j : ℕ) → row_sum w a b r x x' y j ≤ 31 * 65025
    row-most j =
        omega (arith, p.frame.r-most, sum_to-bound 65025 (2 * r + 1) (λ i. level_at w a (x - r + i) (y - r + j) * level_at w b (x' - r + i) (y - r + j)) (λ i _. mul-le-mul (level-small w a la _ _) (level-small w b lb _ _)))

    pub rows-most : (j : ℕ) → sum_to j (row_sum w a b r x x' y) ≤ j * (31 * 65025)
    rows-most j = sum_to-bound (31 * 65025) j (row_sum w a b r x x' y) (λ k _. row-most k)
