-- THE SCALING LAW: two windows whose levels become 2^i·v + s and 2^j·v + t have the raw cost that they had. Assumes nothing.
use Prim.Native.Nat.{ℕ, ◌*◌, ◌/◌, ◌^◌, ◌≤◌, ◌<◌}
use mathlib.Core.Path.{◌≡◌, sym, ap, ◌∙◌}
use mathlib.Core.List.{List}
use mathlib.Core.Logic.{⊎_elim}
use native.Mathlib.Nat.{le_trans, le_of_eq, mul-zero, mul-pos, eq-zero-or-pos}
use native.Mathlib.Omega.{arith}
use lib.IntN.{ℤ, pos, ◌+ℤ◌}
use Rattle.lists.specs.Rows.{level_at}
use Rattle.numbers.proofs.Squares.{four, four-pos}
use Rattle.numbers.proofs.CostScale.{cost-scales}
use Rattle.options.specs.Limits.{block_most}
use Rattle.options.specs.declared.RawCost.TheVariants.{Corr}
use Rattle.windows.specs.Moments.{var_of, cov_of}
use Rattle.windows.proofs.Cauchy.{cauchy}
use Rattle.windows.proofs.Flat.{pixel, count, window-var}
use Rattle.windows.proofs.Affine.{Affine, var-changed, cov-changed}
use Rattle.costs.specs.Raw.{window_var, window_cov, correlation, pair_cost}
use Rattle.costs.specs.Rooms.{Picture}
use Rattle.costs.proofs.Readings.{var-most}
use Rattle.costs.proofs.PairCosts.{blank-here, blank-there, not-blank}
use Rattle.costs.proofs.Laws.{cov-is}

-- the variance of levels that are changed so
scaled-var : {n : ℕ} {a a' : ℕ → ℕ} (i : ℕ) → Affine n (2 ^ i) a a' → var_of n a' ≡ 4 ^ i * var_of n a
scaled-var {n} {a} {a'} i e = var-changed e ∙ ap (λ m. m * var_of n a) (sym (four i))

-- the correlation is the same, bit for bit
correlation-same : {n : ℕ} {a a' b b' : ℕ → ℕ} (i j : ℕ) → Affine n (2 ^ i) a a' → Affine n (2 ^ j) b b' → var_of n a' ≤ 2 ^ 53 → var_of n b' ≤ 2 ^ 53 → 0 < var_of n a → 0 < var_of n b
    → correlation (cov_of n a' b') (var_of n a') (var_of n b') ≡ correlation (cov_of n a b) (var_of n a) (var_of n b)
unfolding correlation
correlation-same {n} {a} {a'} {b} {b'} i j e g most most' A B =
    let va = scaled-var i e in
    let vb = scaled-var j g in
    rw (cov-changed e g, va, vb)
    (cost-scales (var_of n a) (var_of n b) i j (cov_of n a b) A B (le_trans (le_of_eq (sym va)) most) (le_trans (le_of_eq (sym vb)) most') (cauchy n a b))

module _ (w h r : ℕ) (a b a' b' : List ℕ) (few : r ≤ block_most / 2) (pa : Picture w h a') (pb : Picture w h b') (s : ℤ) (x x' y : ℕ) (apart : pos x +ℤ s ≡ pos x') (l : r ≤ x) (l' : r ≤ x')
    (i j : ℕ) (e : Affine (count r) (2 ^ i) (pixel (level_at w a) x y r) (pixel (level_at w a') x y r)) (g : Affine (count r) (2 ^ j) (pixel (level_at w b) x' y r) (pixel (level_at w b') x' y r)) where
  var-is : (c : List ℕ) (z : ℕ) → window_var w c z y r ≡ var_of (count r) (pixel (level_at w c) z y r)
  unfolding window_var
  var-is c z = window-var w c c z z y r

  va : window_var w a' x y r ≡ 4 ^ i * window_var w a x y r
  va = var-is a' x ∙ scaled-var i e ∙ ap (λ v. 4 ^ i * v) (sym (var-is a x))

  vb : window_var w b' x' y r ≡ 4 ^ j * window_var w b x' y r
  vb = var-is b' x' ∙ scaled-var j g ∙ ap (λ v. 4 ^ j * v) (sym (var-is b x'))

  none : (k v v' : ℕ) → v' ≡ 4 ^ k * v → v ≡ 0 → v' ≡ 0
  none k v v' e z = e ∙ rw z (mul-zero (4 ^ k))

  some : (k v v' : ℕ) → v' ≡ 4 ^ k * v → 0 < v → v' ≡ 0 → ⊥
  some k v v' e p z = let q = mul-pos (four-pos k) p in omega arith

  same : 0 < window_var w a x y r → 0 < window_var w b x' y r
      → correlation (window_cov w a' b' s x x' y r) (window_var w a' x y r) (window_var w b' x' y r) ≡ correlation (window_cov w a b s x x' y r) (window_var w a x y r) (window_var w b x' y r)
  same A B =
      rw (cov-is w a' b' s x x' y r apart l l', cov-is w a b s x x' y r apart l l', var-is a' x, var-is b' x', var-is a x, var-is b x')
      (correlation-same i j e g (rw (var-is a' x) at (var-most w h a' x y r few pa)) (rw (var-is b' x') at (var-most w h b' x' y r few pb)) (rw (var-is a x) at A) (rw (var-is b x') at B))

  -- THEOREM: the raw cost of the two windows is the same
  pub pair-scaled : pair_cost w r a' b' s x x' y ≡ pair_cost w r a b s x x' y
  pair-scaled =
      ⊎_elim
      (λ (ea : window_var w a x y r ≡ 0). sym (blank-here w r a' b' s x x' y (none i _ _ va ea)) ∙ blank-here w r a b s x x' y ea)
      (λ (na : 0 < window_var w a x y r).
      ⊎_elim
      (λ (eb : window_var w b x' y r ≡ 0). sym (blank-there w r a' b' s x x' y (none j _ _ vb eb)) ∙ blank-there w r a b s x x' y eb)
      (λ (nb : 0 < window_var w b x' y r).
      not-blank w r a' b' s x x' y (some i _ _ va na) (some j _ _ vb nb)
      ∙ ap Corr (same na nb)
      ∙ sym (not-blank w r a b s x x' y (λ z. omega arith) (λ z. omega arith)))
      (eq-zero-or-pos (window_var w b x' y r)))
      (eq-zero-or-pos (window_var w a x y r))
