-- The quotient of two windows that lie in their pictures is of moderate size, so that it is narrowed without a branch. Assumes nothing.
use Prim.Native.Nat.{ℕ, zero, suc, ◌*◌, ◌^◌, ◌≤◌, ◌<◌}
use mathlib.Core.Path.{◌≡◌, refl, sym, ap, ◌∙◌, subst}
use mathlib.Core.List.{List}
use mathlib.Core.Logic.{⊎_elim}
use native.Mathlib.Nat.{zero-mul, mul-zero, eq-zero-or-pos, mul-pos}
use native.Mathlib.Omega.{arith}
use borrow.Author.Tests.{ne_eqb, eq-eqb}
use lib.IntN.{ℤ, pos, negsuc, nat_abs}
use lib.Ieee.{binary64, of_bits, of_int, mul, div}
use Rattle.numbers.specs.Narrow.{Moderate}
use Rattle.numbers.specs.Root.{root_of}
use Rattle.numbers.proofs.CostBound.{cost-moderate, none-moderate}
use Rattle.windows.specs.Moments.{covariance_of}
use Rattle.costs.specs.Raw.{pixels, window_var, window_cov}
use Rattle.costs.specs.Quotient.{one, divisor_of, Divisible}
use Rattle.costs.specs.Rooms.{WindowsSummed}
use Rattle.costs.proofs.RootBits.{bits_back}
use Rattle.costs.proofs.Readings.{var-most, root-here, root-there}
use Rattle.costs.proofs.PairCosts.{pos-of-ne, root_a, root_b, sum_a, sum_b, flat-here, flat-there, spread-here, spread-there, no-nan-here, no-nan-there, cov-is}
use Rattle.costs.proofs.Laws.{cov-most}

-- a number whose square is at most 0
no-square : (z : ℤ) → nat_abs z * nat_abs z ≤ 0 → z ≡ pos 0
no-square (pos zero) l = refl
no-square (pos (suc n)) l = absurd (omega (arith, mul-pos (some n) (some n)))
  where
    some : (n : ℕ) → 0 < suc n
    some n = omega arith
no-square (negsuc n) l = absurd (omega (arith, mul-pos (some n) (some n)))
  where
    some : (n : ℕ) → 0 < suc n
    some n = omega arith

none-over-one : Moderate (div binary64 (of_int binary64 (pos 0)) one)
unfolding of_bits
none-over-one = none-moderate

module _ {room : List ℕ} {w h r x x' y both : ℕ} (p : WindowsSummed room w h r x x' y both) where
  abbrev va : ℕ
  va = window_var w p.a x y r

  abbrev vb : ℕ
  vb = window_var w p.b x' y r

  abbrev cov : ℤ
  cov = window_cov w p.a p.b p.s x x' y r

  most : nat_abs cov * nat_abs cov ≤ va * vb
  most = cov-most w p.a p.b p.s x x' y r p.apart p.first.left p.second.left

  -- where a window is flat the covariance is 0
  none : va * vb ≡ 0 → Moderate (div binary64 (of_int binary64 cov) one)
  none e = subst (λ (z : ℤ). Moderate (div binary64 (of_int binary64 z) one)) (sym (no-square cov (subst (λ (n : ℕ). nat_abs cov * nat_abs cov ≤ n) e most))) none-over-one

  va-most : va ≤ 2 ^ 53
  va-most = var-most w h p.a x y r p.held.frame.r-most p.held.first

  vb-most : vb ≤ 2 ^ 53
  vb-most = var-most w h p.b x' y r p.held.frame.r-most p.held.second

  spread : (root_a p ≡ 0 → ⊥) → (root_b p ≡ 0 → ⊥) → Moderate (div binary64 (of_int binary64 cov) (mul binary64 (of_bits binary64 (root_a p)) (of_bits binary64 (root_b p))))
  spread n n' =
      let la = pos-of-ne _ (spread-here p p.held n) in
      let lb = pos-of-ne _ (spread-there p p.held n') in
      let ra : of_bits binary64 (root_a p) ≡ root_of va = ap (of_bits binary64) (root-here p.held x y p.first) ∙ bits_back _ la va-most in
      let rb : of_bits binary64 (root_b p) ≡ root_of vb = ap (of_bits binary64) (root-there p.held x' y p.second) ∙ bits_back _ lb vb-most in
      rw (ra, rb) (cost-moderate va vb la va-most lb vb-most cov most)

  moderate : Moderate (div binary64 (of_int binary64 cov) (divisor_of (root_a p) (root_b p)))
  moderate =
      ⊎_elim
      (λ (z : root_a p ≡ 0). rw (eq-eqb (root_a p) 0 z) (none (ap (λ (n : ℕ). n * vb) (flat-here p p.held z) ∙ zero-mul vb)))
      (λ (n : 0 < root_a p).
      ⊎_elim
      (λ (z : root_b p ≡ 0). rw (ne_eqb (root_a p) 0 (λ e. omega arith), eq-eqb (root_b p) 0 z) (none (ap (λ (n : ℕ). va * n) (flat-there p p.held z) ∙ mul-zero va)))
      (λ (n' : 0 < root_b p). rw (ne_eqb (root_a p) 0 (λ e. omega arith), ne_eqb (root_b p) 0 (λ e. omega arith)) (spread (λ e. omega arith) (λ e. omega arith)))
      (eq-zero-or-pos (root_b p)))
      (eq-zero-or-pos (root_a p))

  -- what the quotient asks for
  pub divisible : Divisible (of_int binary64 (covariance_of (pixels r) (sum_a p) (sum_b p) both)) (root_a p) (root_b p)
  divisible = record {
    a-number = no-nan-here p;
    b-number = no-nan-there p;
    moderate = rw (cov-is p p.s p.held p.sum) moderate;
  }
