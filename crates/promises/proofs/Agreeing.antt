-- The left-right test of a row reads that row of the right map only. Assumes nothing.
use Prim.Native.Nat.{ℕ, ◌+◌, ◌*◌, ◌≤◌, ◌<◌}
use mathlib.Core.Path.{◌≡◌, refl, sym, ap, ◌∙◌}
use mathlib.Core.Bool.{Bool, true, false, not, cond, ◌&&◌}
use mathlib.Core.List.{List}
use native.Mathlib.Omega.{arith}
use lib.Dec.{T}
use lib.IntN.{pos}
use lib.ListN.{length, get_or}
use lib.Ieee.{Float, nan, binary32, of_bits, of_int, lt, le, to_unsigned}
use lib.Ieee.Scale.{finite}
use Rattle.lists.specs.Rows.{row_of}
use Rattle.lists.proofs.Tests.{or-false}
use Rattle.lists.proofs.Lists.{list_of-at, list_of-length}
use Rattle.lists.proofs.Rows.{in-row, in-column}
use Rattle.options.specs.Limits.{side_most}
use Rattle.maps.specs.Cells.{cell_of}
use Rattle.choices.specs.LeftRight.{column, near, outside, confirms, tested_cell, left_right}
use Rattle.choices.proofs.Columns.{column-number, column-index}
use Rattle.promises.proofs.Rows.{row_same, cell-of-row}

-- a column that is not outside is an index of the row
column-in : (w x : ℕ) (d : Float) → x < w → w ≤ side_most → T (finite d) → outside w (column x d) ≡ false → to_unsigned 64 (column x d) < w
unfolding of_bits
column-in w x d lx lw f e =
    let t = or-false (lt (column x d) (of_bits binary32 0)) (le (of_int binary32 (pos w)) (column x d)) e in
    (column-index (column x d) w (omega arith) (omega (arith, lw)) (column-number x d (omega arith) f) t.0 t.1).inside

-- two right maps with the same row y
module _ (w : ℕ) (limit : Float) (right right' : List Float) (y : ℕ) (wide : w ≤ side_most) (same : row_of w right y ≡ row_of w right' y) where
  confirms-same : (x : ℕ) (d : Float) → x < w → T (finite d) → confirms w limit right (y * w + x) d ≡ confirms w limit right' (y * w + x) d
  unfolding confirms
  confirms-same x d l f = rw (in-column w x y l, in-row w x y l) (go (outside w (column x d)) refl)
    where
      go : (t : Bool) → outside w (column x d) ≡ t
          → cond t false (near limit d (cell_of (get_or right (y * w + to_unsigned 64 (column x d)) nan)))
          ≡ cond t false (near limit d (cell_of (get_or right' (y * w + to_unsigned 64 (column x d)) nan)))
      go true e = refl
      go false e = ap (λ v. near limit d (cell_of v)) (cell-of-row w right right' y (to_unsigned 64 (column x d)) nan same (column-in w x d l wide f e))

  tested-same : (x : ℕ) (d : Float) → x < w → tested_cell w limit right (y * w + x) d ≡ tested_cell w limit right' (y * w + x) d
  unfolding tested_cell
  tested-same x d l = go (finite d) (confirms-same x d l)
    where
      go : (t : Bool) → (T t → confirms w limit right (y * w + x) d ≡ confirms w limit right' (y * w + x) d)
          → cond (t && not (confirms w limit right (y * w + x) d)) nan d ≡ cond (t && not (confirms w limit right' (y * w + x) d)) nan d
      go true e = ap (λ b. cond (not b) nan d) (e tt)
      go false e = refl

-- ---- a map after the test, cell by cell
pub tested-length : (w : ℕ) (limit : Float) (left right : List Float) → length (left_right w limit left right) ≡ length left
unfolding left_right
tested-length w limit left right = list_of-length (length left) _

tested_at : (w : ℕ) (limit : Float) (left right : List Float) (p : ℕ) → p < length left → get_or (left_right w limit left right) p nan ≡ tested_cell w limit right p (get_or left p nan)
unfolding left_right
tested_at w limit left right p l = list_of-at (length left) _ p nan l

-- the mark stays the mark
pub mark-stays : (w : ℕ) (limit : Float) (left right : List Float) (p : ℕ) → p < length left → get_or left p nan ≡ nan → get_or (left_right w limit left right) p nan ≡ nan
unfolding tested_cell
mark-stays w limit left right p l e = tested_at w limit left right p l ∙ ap (tested_cell w limit right p) e

-- THEOREM: where row y of both maps is the same, row y after the test is the same
pub tested-rows : (w : ℕ) (limit : Float) (left right left' right' : List Float) (y : ℕ) → w ≤ side_most → length left ≡ length left'
    → row_of w left y ≡ row_of w left' y → row_of w right y ≡ row_of w right' y → row_of w (left_right w limit left right) y ≡ row_of w (left_right w limit left' right') y
tested-rows w limit left right left' right' y wide e f g =
    row_same w (left_right w limit left right) (left_right w limit left' right') y nan (tested-length w limit left right ∙ e ∙ sym (tested-length w limit left' right'))
    (λ x lx l.
    let p = y * w + x in
    let inside : p < length left = rw tested-length at l in
    let inside' : p < length left' = omega arith in
    tested_at w limit left right p inside
    ∙ tested-same w limit right right' y wide g x (get_or left p nan) lx
    ∙ ap (tested_cell w limit right' p) (cell-of-row w left left' y x nan f lx)
    ∙ sym (tested_at w limit left' right' p inside'))
