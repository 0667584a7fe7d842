-- n levels and what they become under v ↦ m·v + s: variance and covariance. Assumes nothing.
use Prim.Native.Nat.{ℕ, suc, ◌+◌, ◌-◌, ◌*◌, ◌<◌}
use mathlib.Core.Path.{◌≡◌, sym, ap, ap₂, ◌∙◌}
use native.Mathlib.Nat.{one-mul}
use native.Mathlib.Omega.{arith}
use lib.IntN.{ℤ, pos, negsuc, neg_ℤ, ◌*ℤ◌}
use Rattle.windows.specs.Moments.{var_of, cov_of}
use Rattle.lists.proofs.Sums.{sum_to-same}
use Rattle.windows.proofs.Laws.{var-affine}
use Rattle.windows.proofs.Cauchy.{cov-affine}

-- each of n levels v becomes m·v + s: with s = u - t, over naturals
pub record Affine (n m : ℕ) (a a' : ℕ → ℕ) : Type 0 where
  pub t : ℕ
  pub u : ℕ
  pub is : (i : ℕ) → i < n → a' i + t ≡ m * a i + u

-- equal levels have equal variances and covariances
var-same : (n : ℕ) (a b : ℕ → ℕ) → ((i : ℕ) → i < n → a i ≡ b i) → var_of n a ≡ var_of n b
var-same n a b h = ap₂ (λ s q. n * q - s * s) (sum_to-same n a b h) (sum_to-same n _ _ (λ i l. ap (λ v. v * v) (h i l)))

cov-same : (n : ℕ) (a b c d : ℕ → ℕ) → ((i : ℕ) → i < n → a i ≡ c i) → ((i : ℕ) → i < n → b i ≡ d i) → cov_of n a b ≡ cov_of n c d
cov-same n a b c d h g =
    rw (sum_to-same n a c h, sum_to-same n b d g, sum_to-same n (λ i. a i * b i) (λ i. c i * d i) (λ i l. ap₂ (λ v z. v * z) (h i l) (g i l)))

once : (z : ℤ) → pos 1 *ℤ z ≡ z
once (pos n) = ap pos (one-mul n)
once (negsuc n) = ap (λ v. neg_ℤ (pos v)) (one-mul (suc n))

module _ {n m : ℕ} {a a' : ℕ → ℕ} (e : Affine n m a a') where
  shifted : (i : ℕ) → i < n → 1 * a' i + e.t ≡ m * a i + e.u
  shifted i l = omega (arith, e.is i l)

  -- the variance becomes m²·var
  pub var-changed : var_of n a' ≡ m * m * var_of n a
  var-changed =
      sym (var-affine n 1 e.t a' ∙ one-mul (var_of n a'))
      ∙ var-same n (λ i. 1 * a' i + e.t) (λ i. m * a i + e.u) shifted
      ∙ var-affine n m e.u a

module _ {n m l : ℕ} {a a' b b' : ℕ → ℕ} (e : Affine n m a a') (g : Affine n l b b') where
  -- the covariance becomes m·l·cov
  pub cov-changed : cov_of n a' b' ≡ pos (m * l) *ℤ cov_of n a b
  cov-changed =
      sym (cov-affine n 1 e.t 1 g.t a' b' ∙ once (cov_of n a' b'))
      ∙ cov-same n (λ i. 1 * a' i + e.t) (λ i. 1 * b' i + g.t) (λ i. m * a i + e.u) (λ i. l * b i + g.u) (shifted e) (shifted g)
      ∙ cov-affine n m e.u l g.u a b
