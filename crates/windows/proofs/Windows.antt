-- A window's sum from the four corners of a table.
use Prim.Native.Nat.{ℕ, zero, suc, ◌+◌, ◌*◌, ◌-◌, ◌≤◌, ◌<◌}
use mathlib.Core.Path.{◌≡◌, ap, ◌∙◌}
use mathlib.Core.List.{List}
use mathlib.Core.Logic.{⊎_elim}
use native.Mathlib.Nat.{eq-or-lt_of_le, le_of_suc-le-suc, mul-le-mul_right, suc-mul}
use native.Mathlib.Omega.{arith}
use lib.ListN.{length, get_or, get_or-append}
use lib.Seq.{get_or-append-add}
use Rattle.lists.proofs.Lists.{list_of-at}
use Rattle.lists.specs.Lists.{list_of}
use Rattle.lists.specs.Sums.{sum_to, sum_rect}
use Rattle.windows.specs.Table.{table_rows, table_of}
use Rattle.windows.specs.Window.{window_sum, Inside}
use Rattle.lists.proofs.Sums.{sum_to-same, sum_to-plus, sum_to-split}
use Rattle.windows.proofs.Tables.{length-rows}

-- cell x of row y of the first n rows
rows_at : (w n : ℕ) (f : ℕ → ℕ → ℕ) (x y : ℕ) → x ≤ w → y < n → get_or (table_rows w n f) (y * (w + 1) + x) 0 ≡ sum_rect x y f
unfolding table_rows
rows_at w zero f x y lx ly = absurd (omega arith)
rows_at w (suc n) f x y lx ly =
    ⊎_elim
    (λ (e : y ≡ n).
    rw (e, ← length-rows w n f)
    (get_or-append-add (table_rows w n f) (list_of (w + 1) (λ x. sum_rect x n f)) x 0
    ∙ list_of-at (w + 1) (λ x. sum_rect x n f) x 0 (omega arith)))
    (λ (l : y < n).
    let fits : suc y * (w + 1) ≤ n * (w + 1) = mul-le-mul_right (w + 1) l in
    get_or-append (table_rows w n f) _ 0 (y * (w + 1) + x) (rw length-rows (omega (arith, suc-mul y (w + 1))))
    ∙ rows_at w n f x y lx l)
    (eq-or-lt_of_le (le_of_suc-le-suc ly))

-- the cell in column x and row y of a table, and that it is one
pub cell_at : (w h : ℕ) (f : ℕ → ℕ → ℕ) (x y : ℕ) → x ≤ w → y ≤ h → get_or (table_of w h f) (y * (w + 1) + x) 0 ≡ sum_rect x y f
unfolding table_of
cell_at w h f x y lx ly = rows_at w (h + 1) f x y lx (omega arith)

pub cell_in : (w h : ℕ) (f : ℕ → ℕ → ℕ) (x y : ℕ) → x ≤ w → y ≤ h → y * (w + 1) + x < length (table_of w h f)
unfolding table_of
cell_in w h f x y lx ly =
    let l : suc y ≤ h + 1 = omega arith in
    let fits : suc y * (w + 1) ≤ (h + 1) * (w + 1) = mul-le-mul_right (w + 1) l in
    rw length-rows (omega (arith, suc-mul y (w + 1)))

-- m rows more
taller : (x y m : ℕ) (f : ℕ → ℕ → ℕ) → sum_rect x (y + m) f ≡ sum_rect x y f + sum_rect x m (λ i j. f i (y + j))
unfolding sum_rect
taller x y m f = sum_to-split y m (λ j. sum_to x (λ i. f i j))

-- n columns more
wider : (x n m : ℕ) (f : ℕ → ℕ → ℕ) → sum_rect (x + n) m f ≡ sum_rect x m f + sum_rect n m (λ i j. f (x + i) j)
unfolding sum_rect
wider x n m f =
    sum_to-same m _ _ (λ j _. sum_to-split x n (λ i. f i j))
    ∙ sum_to-plus m (λ j. sum_to x (λ i. f i j)) (λ j. sum_to n (λ i. f (x + i) j))

-- below the window's top edge, what lies left of the window, and what lies left of its right edge
pub record Strips (f : ℕ → ℕ → ℕ) (x y r : ℕ) : Type 0 where
  pub strip : ℕ
  pub left : sum_rect (x - r) (y + r + 1) f ≡ sum_rect (x - r) (y - r) f + strip
  pub right : sum_rect (x + r + 1) (y + r + 1) f ≡ sum_rect (x + r + 1) (y - r) f + (strip + window_sum f x y r)

pub strips : (f : ℕ → ℕ → ℕ) (x y r : ℕ) → r ≤ x → r ≤ y → Strips f x y r
unfolding window_sum
strips f x y r lx ly =
    let n = 2 * r + 1 in
    let across : x + r + 1 ≡ x - r + n = omega arith in
    let down : y + r + 1 ≡ y - r + n = omega arith in
    record {
      strip = sum_rect (x - r) n (λ i j. f i (y - r + j));
      left = rw down (taller (x - r) (y - r) n f);
      right =
          rw down
          (taller (x + r + 1) (y - r) n f
          ∙ ap (λ k. sum_rect (x + r + 1) (y - r) f + k) (rw across (wider (x - r) n n (λ i j. f i (y - r + j)))));
    }

-- what follows of the four cells that the code reads: right and below, right and above, left and below, left and above
module _ (w h : ℕ) (f : ℕ → ℕ → ℕ) (x y r : ℕ) (table : List ℕ) (i : Inside w h x y r) (e : table ≡ table_of w h f) where
  pub cell-is : (column row v : ℕ) → column ≤ w → row ≤ h → v ≡ get_or table (row * (w + 1) + column) 0 → v ≡ sum_rect column row f
  cell-is column row v lc lr read = read ∙ rw e (cell_at w h f column row lc lr)

  pub right-order : (a b : ℕ) → a ≡ get_or table ((y + r + 1) * (w + 1) + (x + r + 1)) 0 → b ≡ get_or table ((y - r) * (w + 1) + (x + r + 1)) 0 → b ≤ a
  right-order a b ea eb =
      omega (
        arith,
        (strips f x y r i.left i.top).right,
        cell-is (x + r + 1) (y + r + 1) a (omega arith) (omega arith) ea,
        cell-is (x + r + 1) (y - r) b (omega arith) (omega arith) eb,
      )

  pub left-order : (c d : ℕ) → c ≡ get_or table ((y + r + 1) * (w + 1) + (x - r)) 0 → d ≡ get_or table ((y - r) * (w + 1) + (x - r)) 0 → d ≤ c
  left-order c d ec ed =
      omega (
        arith,
        (strips f x y r i.left i.top).left,
        cell-is (x - r) (y + r + 1) c (omega arith) (omega arith) ec,
        cell-is (x - r) (y - r) d (omega arith) (omega arith) ed,
      )

  pub window-is : (a b c d : ℕ)
      → a ≡ get_or table ((y + r + 1) * (w + 1) + (x + r + 1)) 0 → b ≡ get_or table ((y - r) * (w + 1) + (x + r + 1)) 0
      → c ≡ get_or table ((y + r + 1) * (w + 1) + (x - r)) 0 → d ≡ get_or table ((y - r) * (w + 1) + (x - r)) 0
      → (c - d ≤ a - b) × (a - b - (c - d) ≡ window_sum f x y r)
  window-is a b c d ea eb ec ed =
      omega (
        arith,
        (strips f x y r i.left i.top).left,
        (strips f x y r i.left i.top).right,
        cell-is (x + r + 1) (y + r + 1) a (omega arith) (omega arith) ea,
        cell-is (x + r + 1) (y - r) b (omega arith) (omega arith) eb,
        cell-is (x - r) (y + r + 1) c (omega arith) (omega arith) ec,
        cell-is (x - r) (y - r) d (omega arith) (omega arith) ed,
      )
