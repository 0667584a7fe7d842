-- A window's pixels in one row: what the laws over n levels say of windows of a picture.
use Prim.Native.Nat.{ℕ, zero, suc, ◌+◌, ◌*◌, ◌-◌, ◌/◌, ◌%◌, ◌≤◌, ◌<◌}
use mathlib.Core.Path.{◌≡◌, sym, ap, ap₂, ◌∙◌}
use mathlib.Core.List.{List}
use mathlib.Core.Logic.{⊎_elim}
use native.Mathlib.Nat.{le_refl, suc-mul, zero-mul, mul-add-mod_self_right, mod-eq_of_lt, mul-add-div_right, div-eq_of_lt, add-zero, mul-le-mul, mod-lt, div-lt_iff_lt-mul}
use native.Mathlib.Omega.{arith}
use borrow.Author.Tests.{lt-ltb, le-ltb}
use lib.ListN.{get_or}
use lib.IntN.{ℤ, pos, negsuc, nat_abs, ◌+ℤ◌, pos-ne-negsuc}
use Rattle.lists.proofs.Tests.{lt-or-le}
use Rattle.lists.specs.Rows.{level_at, row_of}
use Rattle.lists.specs.Sums.{sum_to, sum_rect}
use Rattle.windows.specs.Table.{square_at, column_at, cross_at}
use Rattle.windows.specs.Window.{window_sum}
use Rattle.windows.specs.Moments.{variance_of, covariance_of, var_of, cov_of}
use Rattle.windows.proofs.Bounds.{Below53, window-fits}
use Rattle.windows.proofs.Tables.{level-small}
use Rattle.lists.proofs.Sums.{sum_to-same, sum_to-split}

-- a sum over rows of w columns, pixel by pixel
sum_rect-flat : (w h : ℕ) (f : ℕ → ℕ → ℕ) → 0 < w → sum_rect w h f ≡ sum_to (h * w) (λ k. f (k % w) (k / w))
unfolding sum_rect sum_to
sum_rect-flat w zero f p = rw (zero-mul w)
sum_rect-flat w (suc h) f p =
    let flat : ℕ → ℕ = λ k. f (k % w) (k / w) in
    let last : sum_to w (λ x. f x h) ≡ sum_to w (λ i. flat (h * w + i)) =
    sum_to-same w _ _
    (λ i l.
    ap₂ f
    (sym (mul-add-mod_self_right h w i ∙ mod-eq_of_lt l))
    (sym (mul-add-div_right p h i ∙ ap (λ k. h + k) (div-eq_of_lt l) ∙ add-zero h))) in
    rw (suc-mul h w) (ap₂ (λ a b. a + b) (sum_rect-flat w h f p) last ∙ sym (sum_to-split (h * w) w flat))

-- the level of f at pixel k of the window centred at (x, y), row by row
abbrev pub pixel : (ℕ → ℕ → ℕ) → ℕ → ℕ → ℕ → ℕ → ℕ
pixel f x y r k = f (x - r + k % (2 * r + 1)) (y - r + k / (2 * r + 1))

-- how many pixels it has
abbrev pub count : ℕ → ℕ
count r = (2 * r + 1) * (2 * r + 1)

pub window-flat : (f : ℕ → ℕ → ℕ) (x y r : ℕ) → window_sum f x y r ≡ sum_to (count r) (pixel f x y r)
unfolding window_sum
window-flat f x y r = sum_rect-flat (2 * r + 1) (2 * r + 1) (λ i j. f (x - r + i) (y - r + j)) (omega arith)

-- a column that moves with its window
moved-along : (x x' r i : ℕ) (s : ℤ) → pos x +ℤ s ≡ pos x' → r ≤ x → r ≤ x' → pos (x - r + i) +ℤ s ≡ pos (x' - r + i)
moved-along x x' r i (pos b) e l l' = let n : x + b ≡ x' = ap nat_abs e in ap pos (omega arith)
moved-along x x' r i (negsuc b) e l l' =
    ⊎_elim
    (λ (h : x < suc b). absurd (pos-ne-negsuc x' (suc b - suc x) (sym e ∙ rw (lt-ltb x (suc b) h))))
    (λ (h : suc b ≤ x).
    let n : x - suc b ≡ x' = ap nat_abs (rw (le-ltb x (suc b) h) at e) in
    rw (le-ltb (x - r + i) (suc b) (omega arith)) (ap pos (omega arith)))
    (lt-or-le x (suc b))

module _ (w : ℕ) (a b : List ℕ) (x x' y r : ℕ) where
  -- the variance from the two sums of a window is that of its pixels' levels
  pub window-var : variance_of (count r) (window_sum (level_at w a) x y r) (window_sum (square_at w a) x y r) ≡ var_of (count r) (pixel (level_at w a) x y r)
  window-var = ap₂ (variance_of (count r)) (window-flat (level_at w a) x y r) (window-flat (square_at w a) x y r)

  -- the products of a's window by b's shifted levels are those of the two windows' pixels
  pub window-cross : (s : ℤ) → pos x +ℤ s ≡ pos x' → r ≤ x → r ≤ x'
      → window_sum (cross_at w a b s) x y r ≡ sum_to (count r) (λ k. pixel (level_at w a) x y r k * pixel (level_at w b) x' y r k)
  window-cross s e l l' =
      window-flat (cross_at w a b s) x y r
      ∙ sum_to-same (count r) _ _
      (λ k _.
      ap (λ z. pixel (level_at w a) x y r k * column_at (row_of w b (y - r + k / (2 * r + 1))) z)
      (moved-along x x' r (k % (2 * r + 1)) s e l l'))

  -- the covariance from the three sums is that of the two windows' pixels
  pub window-cov : (s : ℤ) → pos x +ℤ s ≡ pos x' → r ≤ x → r ≤ x'
      → covariance_of (count r) (window_sum (level_at w a) x y r) (window_sum (level_at w b) x' y r) (window_sum (cross_at w a b s) x y r)
      ≡ cov_of (count r) (pixel (level_at w a) x y r) (pixel (level_at w b) x' y r)
  window-cov s e l l' = rw (window-flat (level_at w a) x y r, window-flat (level_at w b) x' y r, window-cross s e l l')

-- at most 961 pixels
pub count_most : (r : ℕ) → r ≤ 15 → count r ≤ 961
count_most r l = let side : 2 * r + 1 ≤ 31 = omega arith in mul-le-mul side side

-- two windows of pictures of bytes: every product that a variance or a covariance needs is below 2^53
pub windows-fit : (w : ℕ) (a b : List ℕ) (x x' y r : ℕ) → r ≤ 15 → ((i : ℕ) → get_or a i 0 ≤ 255) → ((i : ℕ) → get_or b i 0 ≤ 255)
    → Below53 (count r) (pixel (level_at w a) x y r) (pixel (level_at w b) x' y r)
windows-fit w a b x x' y r l la lb =
    window-fits (count r) _ _ (count_most r l) (λ k _. level-small w a la _ _) (λ k _. level-small w b lb _ _)

-- pixel k is the one at column k % side and row k / side, and each of the window is some pixel
module _ (f : ℕ → ℕ → ℕ) (x y r : ℕ) where
  pixel-at : (i j : ℕ) → i < 2 * r + 1 → pixel f x y r (j * (2 * r + 1) + i) ≡ f (x - r + i) (y - r + j)
  pixel-at i j l =
      ap₂ (λ c d. f (x - r + c) (y - r + d))
      (mul-add-mod_self_right j (2 * r + 1) i ∙ mod-eq_of_lt l)
      (mul-add-div_right (omega arith) j i ∙ ap (λ k. j + k) (div-eq_of_lt l) ∙ add-zero j)

  pixel-in : (i j : ℕ) → i < 2 * r + 1 → j < 2 * r + 1 → j * (2 * r + 1) + i < count r
  pixel-in i j li lj =
      let fits : suc j * (2 * r + 1) ≤ count r = mul-le-mul lj (le_refl (2 * r + 1)) in
      omega (arith, suc-mul j (2 * r + 1))

  -- the window shows one level exactly when its pixels do
  pub shows-one : ((k l : ℕ) → k < count r → l < count r → pixel f x y r k ≡ pixel f x y r l)
      → (i j i' j' : ℕ) → i < 2 * r + 1 → j < 2 * r + 1 → i' < 2 * r + 1 → j' < 2 * r + 1 → f (x - r + i) (y - r + j) ≡ f (x - r + i') (y - r + j')
  shows-one flat i j i' j' li lj li' lj' =
      sym (pixel-at i j li) ∙ flat _ _ (pixel-in i j li lj) (pixel-in i' j' li' lj') ∙ pixel-at i' j' li'

  pub pixels-one : ((i j i' j' : ℕ) → i < 2 * r + 1 → j < 2 * r + 1 → i' < 2 * r + 1 → j' < 2 * r + 1 → f (x - r + i) (y - r + j) ≡ f (x - r + i') (y - r + j'))
      → (k l : ℕ) → k < count r → l < count r → pixel f x y r k ≡ pixel f x y r l
  pixels-one one k l lk ll =
      let some : 0 < 2 * r + 1 = omega arith in
      one _ _ _ _ (mod-lt k some) ((div-lt_iff_lt-mul some).1 lk) (mod-lt l some) ((div-lt_iff_lt-mul some).1 ll)
