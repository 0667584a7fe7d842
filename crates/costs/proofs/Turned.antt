-- THE LEFT VOLUME is the right one turned, so one of them is enough to have both. Assumes nothing.
use Prim.Native.Nat.{ℕ, ◌+◌, ◌*◌, ◌/◌, ◌%◌, ◌≤◌, ◌<◌}
use mathlib.Core.Path.{◌≡◌, refl, sym, ap, ◌∙◌}
use mathlib.Core.Bool.{true}
use mathlib.Core.List.{List}
use mathlib.Core.Logic.{⊎_elim}
use native.Mathlib.Nat.{mod-lt, div-lt_iff_lt-mul, mul_comm}
use native.Mathlib.Omega.{arith}
use borrow.Author.Tests.{lt-ltb, le-ltb}
use lib.IntN.{ℤ, pos, negsuc, neg_ℤ, ◌+ℤ◌, neg_ℤ-neg_ℤ, +ℤ-neg_ℤ_cancel, pos-ne-negsuc}
use lib.Ieee.{Float, inf}
use lib.ListN.{get_or}
use Rattle.lists.specs.Turned.{in_row, turned_cell, turned}
use Rattle.lists.proofs.Lists.{list_of-same}
use Rattle.lists.proofs.Rows.{row_below, mul-pos-left}
use Rattle.lists.proofs.Tests.{lt-or-le}
use Rattle.options.specs.declared.Side.TheVariants.{Left, Right}
use Rattle.options.specs.Costs.{stored}
use Rattle.costs.specs.Raw.{raw_cost}
use Rattle.costs.specs.Volume.{raw_volume}
use Rattle.costs.proofs.Frames.{blank-unless}
use Rattle.costs.proofs.Laws.{raw-cost-mirror, volume-cell}

-- what lies d to the left is d away
back-right : (x x' : ℕ) (d : ℤ) → pos x +ℤ neg_ℤ d ≡ pos x' → pos x' +ℤ d ≡ pos x
back-right x x' d e = ap (λ z. z +ℤ d) (sym e) ∙ ap (λ z. (pos x +ℤ neg_ℤ d) +ℤ z) (sym (neg_ℤ-neg_ℤ d)) ∙ +ℤ-neg_ℤ_cancel (pos x) (neg_ℤ d)

module _ (w h r : ℕ) (first : ℤ) (count : ℕ) (left right : List ℕ) where
  abbrev seen : List Float
  seen = raw_volume Right w h r first count left right

  cell : (x y k : ℕ) → x < w → y < h → k < count → (z : ℤ) → pos x +ℤ neg_ℤ (first +ℤ pos k) ≡ z
      → stored (raw_cost Left w h r first left right x y k) ≡ in_row (inf true) w z (λ x'. get_or seen (k * (w * h) + (y * w + x')) (inf true))
  unfolding in_row raw_cost
  cell x y k lx ly lk (negsuc n) e = ap stored (sym (blank-unless w h r left right _ x y (λ i x' f. pos-ne-negsuc x' n (sym f.column ∙ e))))
  cell x y k lx ly lk (pos x') e =
      ⊎_elim
      (λ (l : x' < w).
      rw (lt-ltb x' w l)
      (sym (volume-cell Right w h r first count left right x' y k (inf true) l ly lk ∙ ap stored (raw-cost-mirror w h r first left right x' x y k (back-right x x' (first +ℤ pos k) e)))))
      (λ (l : w ≤ x').
      rw (le-ltb x' w l)
      (ap stored (sym (blank-unless w h r left right _ x y (λ i x₂ f. let n : x₂ ≡ x' = same x₂ x' (sym f.column ∙ e) in omega (arith, f.right))))))
      (lt-or-le x' w)
    where
      same : (m n : ℕ) → pos m ≡ pos n → m ≡ n
      same m n e = cc

  -- THEOREM: the left volume is the right one turned
  pub left-turned : raw_volume Left w h r first count left right ≡ turned (inf true) w h first count seen
  unfolding raw_volume turned turned_cell
  left-turned =
      list_of-same (count * (w * h)) _ _
      (λ c l.
      let area : 0 < w * h = mul-pos-left c (w * h) count (rw (mul_comm count (w * h)) at l) in
      let inside : c % (w * h) < w * h = mod-lt c area in
      cell (c % (w * h) % w) (c % (w * h) / w) (c / (w * h)) (mod-lt _ (mul-pos-left _ w h inside)) (row_below w h _ inside) ((div-lt_iff_lt-mul area).1 l) _ refl)
