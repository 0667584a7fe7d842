-- A plane from its rows. Assumes nothing.
use Prim.Native.Nat.{ℕ, ◌+◌, ◌*◌, ◌-◌, ◌≤◌, ◌<◌}
use mathlib.Core.Path.{◌≡◌, sym, ap, ap₂, ◌∙◌}
use mathlib.Core.List.{List, ◌++◌}
use native.Mathlib.Nat.{suc-mul, mul_comm, mul-le-mul_right, mul-le-mul, add-sub_cancel_left}
use native.Mathlib.Numerals.{add-one}
use native.Mathlib.Omega.{arith}
use borrow.Rule.Slice.PartMut.{put_mid, mid_of, mid_len}
use lib.IntN.{ℤ}
use lib.ListN.{length, drop}
use Rattle.options.specs.Limits.{side_most}
use Rattle.lists.specs.Lists.{list_of}
use Rattle.options.specs.Costs.{stored}
use Rattle.costs.specs.Raw.{shifted_cost}
use Rattle.costs.specs.Volume.{row_cells, plane_cell}
use Rattle.lists.proofs.Lists.{list_of-same, part-next}
use Rattle.lists.proofs.Rows.{in-column, in-row}

-- part k of n parts of m cells lies within m * n cells
pub part-fits : (m n k : ℕ) → k < n → k * m + m ≤ m * n
part-fits m n k l = omega (arith, mul-le-mul_right m l, suc-mul k m, mul_comm m n)

pub area-most : (w h : ℕ) → w ≤ side_most → h ≤ side_most → w * h ≤ side_most * side_most
area-most w h lw lh = mul-le-mul lw lh

-- a part that is lent has its length
pub part_length : {A : Type 0} (m k : ℕ) (l : List A) → k * m + m ≤ length l → length (mid_of (k * m) (k * m + m - k * m) l) ≡ m
part_length m k l fits = mid_len (k * m) (k * m + m) l fits ∙ add-sub_cancel_left (k * m) m

-- one more part of m cells
pub next-part : {A : Type 0} (m k : ℕ) (g : ℕ → A) (d now part : List A) → now ≡ list_of (k * m) g ++ drop (k * m) d → part ≡ list_of m (λ i. g (k * m + i))
    → put_mid (k * m) (k * m + m - k * m) now part ≡ list_of ((k + 1) * m) g ++ drop ((k + 1) * m) d
next-part m k g d now part is made =
    let next : k * m + m ≡ (k + 1) * m = rw (add-one k) (sym (suc-mul k m)) in
    let size : k * m + m - k * m ≡ m = add-sub_cancel_left (k * m) m in
    part-next (k * m) (k * m + m) g d now part (omega arith) is (made ∙ ap (λ n. list_of n (λ i. g (k * m + i))) (sym size))
    ∙ ap (λ n. list_of n g ++ drop n d) next

-- row y is part y of the plane
pub row-part : (w h r : ℕ) (a b : List ℕ) (s : ℤ) (y : ℕ) → row_cells w h r a b s y ≡ list_of w (λ i. plane_cell w h r a b s (y * w + i))
unfolding row_cells
row-part w h r a b s y =
    list_of-same w _ _ (λ x l. sym (ap₂ (λ c t. stored (shifted_cost w h r a b s c t)) (in-column w x y l) (in-row w x y l)))
