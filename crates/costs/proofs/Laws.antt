-- THE LAWS of the raw cost: it lies from -1 to 1, the two sides mirror each other, and where its cells lie in the volume. Assumes nothing.
use Prim.Native.Nat.{ℕ, ◌+◌, ◌*◌, ◌/◌, ◌≤◌, ◌<◌}
use mathlib.Core.Path.{◌≡◌, refl, sym, ap, ap₂, ◌∙◌, subst}
use mathlib.Core.Bool.{Bool, true, false, cond, ◌&&◌, or_comm}
use mathlib.Core.List.{List}
use mathlib.Core.Logic.{⊎_elim}
use native.Mathlib.Nat.{mul_comm, suc-mul, mul-le-mul_right, eq-zero-or-pos}
use native.Mathlib.Omega.{arith}
use lib.Dec.{eqb}
use lib.IntN.{ℤ, pos, nat_abs, neg_ℤ, ◌+ℤ◌, +ℤ-neg_ℤ_cancel}
use lib.Ieee.{Float, nan, inf, fin, Format, binary64, up, down, unlike, mul}
use lib.ListN.{get_or}
use Rattle.options.specs.Limits.{block_most}
use Rattle.options.specs.Frame.{within}
use Rattle.options.proofs.Frames.{within-says}
use Rattle.lists.specs.Rows.{level_at}
use Rattle.numbers.specs.Root.{root_of}
use Rattle.numbers.proofs.CostBound.{cost-in-range}
use Rattle.options.specs.declared.RawCost.{RawCost}
use Rattle.options.specs.declared.RawCost.TheVariants.{Blank, Corr}
use Rattle.options.specs.declared.Side.{Side}
use Rattle.options.specs.declared.Side.TheVariants.{Left, Right}
use Rattle.lists.specs.Sums.{sum_to}
use Rattle.windows.specs.Moments.{cov_of}
use Rattle.lists.proofs.Sums.{sum_to-same}
use Rattle.windows.proofs.Cauchy.{cauchy}
use Rattle.windows.proofs.Flat.{pixel, count, window-var, window-cov}
use Rattle.costs.specs.Raw.{window_var, window_cov, one_level, correlation, pair_cost, target_cost, shifted_cost, raw_cost}
use Rattle.options.specs.Costs.{stored, Within, InRange}
use Rattle.costs.specs.Rooms.{Picture}
use Rattle.costs.specs.Volume.{raw_volume, volume_cell}
use Rattle.lists.proofs.Lists.{list_of-at}
use Rattle.lists.proofs.Rows.{in-column, in-row}
use Rattle.costs.proofs.Readings.{var-most}
use Rattle.costs.proofs.PairCosts.{blank-here, blank-there, not-blank}
use Rattle.costs.proofs.Frames.{target_found, by-windows}

-- ---- two windows, s columns apart
module _ (w : ℕ) (a b : List ℕ) (s : ℤ) (x x' y r : ℕ) (apart : pos x +ℤ s ≡ pos x') (l : r ≤ x) (l' : r ≤ x') where
  pub cov-is : window_cov w a b s x x' y r ≡ cov_of (count r) (pixel (level_at w a) x y r) (pixel (level_at w b) x' y r)
  unfolding window_cov
  cov-is = window-cov w a b x x' y r s apart l l'

  -- cov² ≤ varA·varB
  pub cov-most : nat_abs (window_cov w a b s x x' y r) * nat_abs (window_cov w a b s x x' y r) ≤ window_var w a x y r * window_var w b x' y r
  unfolding window_var
  cov-most =
      rw (cov-is, window-var w a a x x y r, window-var w b b x' x' y r)
      (cauchy (count r) (pixel (level_at w a) x y r) (pixel (level_at w b) x' y r))

not_equal : (v : Float) → Blank ≡ Corr v → ⊥
not_equal v e = let n : ◌≡◌ {A = ℕ} 0 1 = cc in omega arith

-- ---- a raw cost that is not blank comes from two windows in their pictures
record Shown (w h r : ℕ) (a b : List ℕ) (s : ℤ) (x y : ℕ) (v : Float) : Type 0 where
  other : ℕ
  apart : pos x +ℤ s ≡ pos other
  left : r ≤ x
  left' : r ≤ other
  pair : pair_cost w r a b s x other y ≡ Corr v

module _ (w h r : ℕ) (a b : List ℕ) (s : ℤ) (x y : ℕ) (v : Float) where
  shown : shifted_cost w h r a b s x y ≡ Corr v → Shown w h r a b s x y v
  shown shows =
      by-windows w h r s x y
      (λ i x' f. record { other = x'; apart = f.column; left = i.left; left' = f.left; pair = target_found w h r a b s x y i x' f ∙ shows })
      (λ blank. absurd (not_equal v (blank a b ∙ shows)))

  pair-bound : r ≤ block_most / 2 → Picture w h a → Picture w h b → Shown w h r a b s x y v → Within v
  unfolding correlation
  pair-bound few pa pb o =
      ⊎_elim
      (λ (ea : window_var w a x y r ≡ 0). absurd (not_equal v (blank-here w r a b s x o.other y ea ∙ o.pair)))
      (λ (na : 0 < window_var w a x y r).
      ⊎_elim
      (λ (eb : window_var w b o.other y r ≡ 0). absurd (not_equal v (blank-there w r a b s x o.other y eb ∙ o.pair)))
      (λ (nb : 0 < window_var w b o.other y r).
      let same : Corr v ≡ Corr (correlation (window_cov w a b s x o.other y r) (window_var w a x y r) (window_var w b o.other y r)) =
      sym o.pair ∙ not-blank w r a b s x o.other y (λ e. omega arith) (λ e. omega arith) in
      let is : v ≡ correlation (window_cov w a b s x o.other y r) (window_var w a x y r) (window_var w b o.other y r) = cc in
      subst Within (sym is)
      (cost-in-range (window_var w a x y r) (window_var w b o.other y r) na (var-most w h a x y r few pa) nb (var-most w h b o.other y r few pb)
      (window_cov w a b s x o.other y r) (cov-most w a b s x o.other y r o.apart o.left o.left')))
      (eq-zero-or-pos (window_var w b o.other y r)))
      (eq-zero-or-pos (window_var w a x y r))

shifted-bound : (w h r : ℕ) (a b : List ℕ) (s : ℤ) (x y : ℕ) → r ≤ block_most / 2 → Picture w h a → Picture w h b → InRange (shifted_cost w h r a b s x y)
shifted-bound w h r a b s x y few pa pb = go (shifted_cost w h r a b s x y) refl
  where
    go : (c : RawCost) → shifted_cost w h r a b s x y ≡ c → InRange c
    go Blank e = tt
    go (Corr v) e = pair-bound w h r a b s x y v few pa pb (shown w h r a b s x y v e)

-- THEOREM: a raw cost is blank or lies from -1 to 1
pub raw-cost-bound : (side : Side) (w h r : ℕ) (first : ℤ) (left right : List ℕ) (x y k : ℕ) → r ≤ block_most / 2 → Picture w h left → Picture w h right
    → InRange (raw_cost side w h r first left right x y k)
unfolding raw_cost
raw-cost-bound Left w h r first left right x y k few pl pr = shifted-bound w h r left right _ x y few pl pr
raw-cost-bound Right w h r first left right x y k few pl pr = shifted-bound w h r right left _ x y few pr pl

-- ---- the mirror
unlike-comm : (s t : Bool) → unlike s t ≡ unlike t s
unlike-comm true true = refl
unlike-comm true false = refl
unlike-comm false true = refl
unlike-comm false false = refl

-- a product of floats does not depend on the order of its factors
pub product-comm : (f : Format) (x y : Float) → mul f x y ≡ mul f y x
unfolding mul
product-comm f nan nan = refl
product-comm f nan (inf t) = refl
product-comm f nan (fin t n d) = refl
product-comm f (inf s) nan = refl
product-comm f (inf s) (inf t) = ap inf (unlike-comm s t)
product-comm f (inf s) (fin t n d) = ap (λ u. cond (eqb n 0) nan (inf u)) (unlike-comm s t)
product-comm f (fin s m e) nan = refl
product-comm f (fin s m e) (inf t) = ap (λ u. cond (eqb m 0) nan (inf u)) (unlike-comm s t)
product-comm f (fin s m e) (fin t n d) = rw (unlike-comm s t, mul_comm (m * up e) (n * up d), mul_comm (down e) (down d))

cov-comm : (n : ℕ) (a b : ℕ → ℕ) → cov_of n a b ≡ cov_of n b a
cov-comm n a b = rw (sum_to-same n (λ i. a i * b i) (λ i. b i * a i) (λ i _. mul_comm (a i) (b i)), mul_comm (sum_to n a) (sum_to n b))

-- two windows give the same raw cost from either side
pub pair-mirror : (w r : ℕ) (a b : List ℕ) (s t : ℤ) (x x' y : ℕ) → pos x +ℤ s ≡ pos x' → pos x' +ℤ t ≡ pos x → r ≤ x → r ≤ x'
    → pair_cost w r a b s x x' y ≡ pair_cost w r b a t x' x y
unfolding pair_cost correlation
pair-mirror w r a b s t x x' y e e' l l' =
    rw (
      or_comm (one_level w a x y r) (one_level w b x' y r),
      cov-is w a b s x x' y r e l l' ∙ cov-comm (count r) (pixel (level_at w a) x y r) (pixel (level_at w b) x' y r) ∙ sym (cov-is w b a t x' x y r e' l' l),
      product-comm binary64 (root_of (window_var w a x y r)) (root_of (window_var w b x' y r)),
    )

-- three tests in either order
either_order : (f g m : Bool) (p q : RawCost) → (f ≡ true → g ≡ true → p ≡ q) → cond (f && m) (cond g p Blank) Blank ≡ cond (g && m) (cond f q Blank) Blank
either_order true true true p q h = h refl refl
either_order true true false p q h = refl
either_order true false true p q h = refl
either_order true false false p q h = refl
either_order false true true p q h = refl
either_order false true false p q h = refl
either_order false false m p q h = refl

-- THEOREM: the right-referenced raw cost at (x, y, k) is the left-referenced one at (x + d, y, k), d = first + k
pub raw-cost-mirror : (w h r : ℕ) (first : ℤ) (left right : List ℕ) (x x' y k : ℕ) → pos x +ℤ (first +ℤ pos k) ≡ pos x'
    → raw_cost Right w h r first left right x y k ≡ raw_cost Left w h r first left right x' y k
unfolding raw_cost shifted_cost target_cost
raw-cost-mirror w h r first left right x x' y k e =
    let d = first +ℤ pos k in
    let back : pos x' +ℤ neg_ℤ d ≡ pos x = ap (λ z. z +ℤ neg_ℤ d) (sym e) ∙ +ℤ-neg_ℤ_cancel (pos x) d in
    rw (e, back)
    (either_order (within w r x) (within w r x') (within h r y) (pair_cost w r right left d x x' y) (pair_cost w r left right (neg_ℤ d) x' x y)
    (λ f g. pair-mirror w r right left d (neg_ℤ d) x x' y e back (within-says w r x f).0 (within-says w r x' g).0))

-- THEOREM: cell k·w·h + y·w + x of the volume has index k of pixel (x, y)
pub volume-cell : (side : Side) (w h r : ℕ) (first : ℤ) (count : ℕ) (left right : List ℕ) (x y k : ℕ) (o : Float) → x < w → y < h → k < count
    → get_or (raw_volume side w h r first count left right) (k * (w * h) + (y * w + x)) o ≡ stored (raw_cost side w h r first left right x y k)
unfolding raw_volume
volume-cell side w h r first count left right x y k o lx ly lk =
    let in-plane : y * w + x < w * h = omega (arith, mul-le-mul_right w ly, suc-mul y w, mul_comm w h) in
    let in-volume : k * (w * h) + (y * w + x) < count * (w * h) = omega (arith, mul-le-mul_right (w * h) lk, suc-mul k (w * h)) in
    list_of-at (count * (w * h)) _ (k * (w * h) + (y * w + x)) o in-volume
    ∙ ap₂ (λ j p. volume_cell side w h r first left right j p) (in-row (w * h) (y * w + x) k in-plane) (in-column (w * h) (y * w + x) k in-plane)
    ∙ ap₂ (λ c t. stored (raw_cost side w h r first left right c t k)) (in-column w x y lx) (in-row w x y lx)
