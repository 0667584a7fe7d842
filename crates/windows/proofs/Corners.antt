-- A window's sum from four cells of a table that stands somewhere in a room. Assumes nothing.
use Prim.Native.Nat.{ℕ, ◌+◌, ◌*◌, ◌-◌, ◌≤◌, ◌<◌}
use mathlib.Core.Path.{◌≡◌, refl, ap, ◌∙◌}
use mathlib.Core.List.{List}
use native.Mathlib.Nat.{add-mul}
use native.Mathlib.Omega.{arith}
use lib.ListN.{get_or}
use Rattle.windows.specs.Table.{table_of}
use Rattle.windows.specs.Window.{window_sum, Inside, cells, corner_at, TableFrom, corner_sum, Corners}
use Rattle.windows.proofs.Tables.{length-table}
use Rattle.windows.proofs.Windows.{cell_in, right-order, left-order, window-is}

module _ (room : List ℕ) (off w h : ℕ) (f : ℕ → ℕ → ℕ) (x y r : ℕ) (inside : Inside w h x y r) (t : TableFrom room off (corner_at w x y r) w h f) where
  below : (y + r + 1) * (w + 1) ≡ (y - r) * (w + 1) + (2 * r + 1) * (w + 1)
  below =
      let rows : y + r + 1 ≡ y - r + (2 * r + 1) = omega (arith, inside.top) in
      ap (λ k. k * (w + 1)) rows ∙ add-mul (y - r) (2 * r + 1) (w + 1)

  -- the cell in a column and a row of the window's edges
  spot : (k column row : ℕ) → column ≤ w → row ≤ h → k ≡ off + (row * (w + 1) + column) → corner_at w x y r ≤ row * (w + 1) + column
      → get_or room k 0 ≡ get_or (table_of w h f) (row * (w + 1) + column) 0
  spot k column row lc lr e l =
      let in_table : row * (w + 1) + column < cells w h = omega (arith, cell_in w h f column row lc lr, length-table w h f) in
      ap (λ k. get_or room k 0) e ∙ t.same (row * (w + 1) + column) l in_table

  abbrev start : ℕ
  start = off + corner_at w x y r

  last : get_or room (start + (2 * r + 1) * (w + 1) + (2 * r + 1)) 0 ≡ get_or (table_of w h f) ((y + r + 1) * (w + 1) + (x + r + 1)) 0
  last = spot _ (x + r + 1) (y + r + 1) (omega (arith, inside.right)) (omega (arith, inside.bottom)) (omega (arith, below, inside.left)) (omega (arith, below, inside.left))

  right-top : get_or room (start + (2 * r + 1)) 0 ≡ get_or (table_of w h f) ((y - r) * (w + 1) + (x + r + 1)) 0
  right-top = spot _ (x + r + 1) (y - r) (omega (arith, inside.right)) (omega (arith, inside.bottom)) (omega (arith, inside.left)) (omega (arith, inside.left))

  left-bottom : get_or room (start + (2 * r + 1) * (w + 1)) 0 ≡ get_or (table_of w h f) ((y + r + 1) * (w + 1) + (x - r)) 0
  left-bottom = spot _ (x - r) (y + r + 1) (omega (arith, inside.right)) (omega (arith, inside.bottom)) (omega (arith, below, inside.left)) (omega (arith, below, inside.left))

  left-top : get_or room start 0 ≡ get_or (table_of w h f) ((y - r) * (w + 1) + (x - r)) 0
  left-top = spot _ (x - r) (y - r) (omega (arith, inside.right)) (omega (arith, inside.bottom)) refl (omega arith)

  pub corners : Corners room (w + 1) start (2 * r + 1)
  corners = record {
    last = omega (arith, below, inside.left, t.long, cell_in w h f (x + r + 1) (y + r + 1) (omega (arith, inside.right)) (omega (arith, inside.bottom)), length-table w h f);
    right = right-order w h f x y r (table_of w h f) inside refl _ _ last right-top;
    left = left-order w h f x y r (table_of w h f) inside refl _ _ left-bottom left-top;
    both = (window-is w h f x y r (table_of w h f) inside refl _ _ _ _ last right-top left-bottom left-top).0;
  }

  pub corner-sum : corner_sum room (w + 1) start (2 * r + 1) ≡ window_sum f x y r
  unfolding corner_sum
  corner-sum = (window-is w h f x y r (table_of w h f) inside refl _ _ _ _ last right-top left-bottom left-top).1
