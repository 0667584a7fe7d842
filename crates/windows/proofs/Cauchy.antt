-- Covariance: Cauchy-Schwarz, and its change under v ↦ m·v + s. Over any n pairs of levels.
use Prim.Native.Nat.{ℕ, zero, suc, ◌+◌, ◌*◌, ◌-◌, ◌≤◌, ◌<◌, zero-le}
use mathlib.Core.Path.{◌≡◌, refl, sym, ap, ap₂, ◌∙◌}
use mathlib.Core.Logic.{⊎_elim}
use native.Mathlib.Nat.{mul-add, add-mul, mul_comm, mul_assoc, mul_left_comm, mul-mul-mul_comm, mul-le-mul, mul-zero, zero-mul, one-mul, sub-zero, add-zero, le_refl}
use native.Mathlib.Nat.{mul-lt-mul_of_pos_left, eq-zero-or-pos, mul-sub, mul-le-mul_left, mul_right_comm, add-sub_of_le}
use native.Mathlib.Omega.{arith}
use borrow.Author.Tests.{lt-ltb, le-ltb}
use lib.IntN.{pos, negsuc, nat_abs, neg_ℤ, sub_ℕ, ◌-ℤ◌, ◌*ℤ◌, zero-*ℤ}
use Rattle.lists.proofs.Tests.{lt-or-le}
use Rattle.lists.specs.Sums.{sum_to}
use Rattle.windows.specs.Moments.{var_of, cov_of}
use Rattle.lists.proofs.Sums.{sum_to-same, sum_to-plus, sum_to-scale, sum_to-const, sum_to-member}
use Rattle.windows.proofs.Laws.{dist, var-not-cut, var-reflected}

-- (x + y)² = x² + 2xy + y²
square : (x y : ℕ) → (x + y) * (x + y) ≡ x * x + 2 * (x * y) + y * y
square x y = simp (mul-add, add-mul) (omega (arith, mul_comm x y))

-- (tx + sy)² = t²x² + 2ts·xy + s²y²
square-of : (t s x y : ℕ) → (t * x + s * y) * (t * x + s * y) ≡ t * t * (x * x) + 2 * (t * s * (x * y)) + s * s * (y * y)
square-of t s x y =
    square (t * x) (s * y) ∙ rw (mul-mul-mul_comm t x t x, mul-mul-mul_comm t x s y, mul-mul-mul_comm s y s y)

-- the same, summed
sum-square-of : (n t s : ℕ) (a b : ℕ → ℕ)
    → sum_to n (λ i. (t * a i + s * b i) * (t * a i + s * b i))
    ≡ t * t * sum_to n (λ i. a i * a i) + 2 * (t * s * sum_to n (λ i. a i * b i)) + s * s * sum_to n (λ i. b i * b i)
sum-square-of n t s a b =
    sum_to-same n _ _ (λ i _. square-of t s (a i) (b i))
    ∙ sum_to-plus n (λ i. t * t * (a i * a i) + 2 * (t * s * (a i * b i))) (λ i. s * s * (b i * b i))
    ∙ ap₂ (λ u v. u + v)
    (sum_to-plus n (λ i. t * t * (a i * a i)) (λ i. 2 * (t * s * (a i * b i)))
    ∙ ap₂ (λ u v. u + v)
    (sum_to-scale n (t * t) (λ i. a i * a i))
    (sum_to-scale n 2 (λ i. t * s * (a i * b i)) ∙ ap (λ k. 2 * k) (sum_to-scale n (t * s) (λ i. a i * b i))))
    (sum_to-scale n (s * s) (λ i. b i * b i))

-- a quadratic form that is nowhere negative
form-bound : (A B c : ℕ) → ((t s : ℕ) → 2 * (t * s * c) ≤ t * t * A + s * s * B) → c * c ≤ A * B
form-bound A B c form =
    ⊎_elim
    (λ (e : B ≡ 0).
    ⊎_elim
    (λ (z : c ≡ 0). rw z zero-le)
    (λ (p : 0 < c).
    let few : 2 * ((A + 1) * c) ≤ A = simp (e, one-mul, mul-zero, add-zero) at (form 1 (A + 1)) in
    let many : (A + 1) * 1 ≤ (A + 1) * c = mul-le-mul (le_refl (A + 1)) p in
    absurd (omega arith))
    (eq-zero-or-pos c))
    (λ (p : 0 < B).
    ⊎_elim
    (λ (l : A * B < c * c).
    absurd
    (omega (
      arith,
      form B c,
      mul-lt-mul_of_pos_left l p,
      mul_assoc B c c,
      mul_comm (c * c) B,
      mul_assoc B B A ∙ ap (λ k. B * k) (mul_comm B A),
    )))
    (λ (l : c * c ≤ A * B). l)
    (lt-or-le (A * B) (c * c)))
    (eq-zero-or-pos B)

-- the form that the variance of t·a + s·b gives, where the covariance is -c
form_of : (n t s sa sb saa sbb sab A B c : ℕ) → n * saa ≡ sa * sa + A → n * sbb ≡ sb * sb + B → n * sab + c ≡ sa * sb
    → (t * sa + s * sb) * (t * sa + s * sb) ≤ n * (t * t * saa + 2 * (t * s * sab) + s * s * sbb)
    → 2 * (t * s * c) ≤ t * t * A + s * s * B
form_of n t s sa sb saa sbb sab A B c ea eb ec l =
    let scaled : n * (t * t * saa + 2 * (t * s * sab) + s * s * sbb) ≡ t * t * (n * saa) + 2 * (t * s * (n * sab)) + s * s * (n * sbb) =
    mul-add n _ _ ∙ ap₂ (λ u v. u + v) (mul-add n _ _ ∙ ap₂ (λ u v. u + v) (mul_left_comm n (t * t) saa) (mul_left_comm n 2 _ ∙ ap (λ k. 2 * k) (mul_left_comm n (t * s) sab))) (mul_left_comm n (s * s) sbb) in
    omega (
      arith,
      square-of t s sa sb,
      ap (λ k. t * t * k) ea ∙ mul-add (t * t) (sa * sa) A,
      ap (λ k. s * s * k) eb ∙ mul-add (s * s) (sb * sb) B,
      sym (mul-add (t * s) (n * sab) c) ∙ ap (λ k. t * s * k) ec,
    )

-- where the covariance is -c
below : (n : ℕ) (a b : ℕ → ℕ) (c : ℕ) → n * sum_to n (λ i. a i * b i) + c ≡ sum_to n a * sum_to n b → c * c ≤ var_of n a * var_of n b
below n a b c e =
    form-bound (var_of n a) (var_of n b) c
    (λ t s.
    form_of n t s (sum_to n a) (sum_to n b) (sum_to n (λ i. a i * a i)) (sum_to n (λ i. b i * b i)) (sum_to n (λ i. a i * b i))
    (var_of n a) (var_of n b) c (omega (arith, var-not-cut n a)) (omega (arith, var-not-cut n b)) e
    (rw (← sum-square-of n t s a b, ← sum_to-scale n t a, ← sum_to-scale n s b, ← sum_to-plus n (λ i. t * a i) (λ i. s * b i))
    (var-not-cut n (λ i. t * a i + s * b i))))

-- where the covariance is c: the levels of b are reflected
above : (n : ℕ) (a b : ℕ → ℕ) (c : ℕ) → n * sum_to n (λ i. a i * b i) ≡ sum_to n a * sum_to n b + c → c * c ≤ var_of n a * var_of n b
above n a b c e =
    let top = sum_to n b in
    let sa = sum_to n a in
    let b' : ℕ → ℕ = λ i. top - b i in
    let low : (i : ℕ) → i < n → b i ≤ top = sum_to-member n b in
    let levels : sum_to n b + sum_to n b' ≡ n * top =
    sym (sum_to-plus n b b') ∙ sum_to-same n _ _ (λ i l. omega (arith, low i l)) ∙ sum_to-const n top in
    let products : sum_to n (λ i. a i * b i) + sum_to n (λ i. a i * b' i) ≡ top * sa =
    sym (sum_to-plus n (λ i. a i * b i) (λ i. a i * b' i))
    ∙ sum_to-same n _ (λ i. top * a i)
    (λ i l. sym (mul-add (a i) (b i) (b' i)) ∙ ap (λ k. a i * k) (add-sub_of_le (low i l)) ∙ mul_comm (a i) top)
    ∙ sum_to-scale n top a in
    rw (← var-reflected n top b low)
    (below n a b' c
    (omega (
      arith,
      sym (mul-add n _ _) ∙ ap (λ k. n * k) products,
      sym (mul-add sa _ _) ∙ ap (λ k. sa * k) levels,
      sym (mul_assoc n top sa) ∙ mul_comm (n * top) sa,
    )))

-- what a whole number's difference is, by the order of the two
pub minus : (p q : ℕ) → pos p -ℤ pos q ≡ sub_ℕ p q
minus p zero = rw (le-ltb p 0 zero-le, add-zero, sub-zero)
minus p (suc q) = refl

abs-minus : (p q : ℕ) → nat_abs (pos p -ℤ pos q) ≡ dist p q
abs-minus p q =
    ap nat_abs (minus p q)
    ∙ ⊎_elim
    (λ (l : p < q). rw (lt-ltb p q l) (omega arith))
    (λ (l : q ≤ p). rw (le-ltb p q l) (omega arith))
    (lt-or-le p q)

-- Cauchy-Schwarz: cov² ≤ varA·varB
pub cauchy : (n : ℕ) (a b : ℕ → ℕ) → nat_abs (cov_of n a b) * nat_abs (cov_of n a b) ≤ var_of n a * var_of n b
cauchy n a b =
    let p = n * sum_to n (λ i. a i * b i) in
    let q = sum_to n a * sum_to n b in
    rw (abs-minus p q)
    (⊎_elim
    (λ (l : p < q). below n a b (dist p q) (omega arith))
    (λ (l : q ≤ p). above n a b (dist p q) (omega arith))
    (lt-or-le p q))

-- equal differences
same-minus : (p q r s : ℕ) → p + s ≡ r + q → sub_ℕ p q ≡ sub_ℕ r s
same-minus p q r s e =
    ⊎_elim
    (λ (l : p < q). rw (lt-ltb p q l, lt-ltb r s (omega arith)) (ap negsuc (omega arith)))
    (λ (l : q ≤ p). rw (le-ltb p q l, le-ltb r s (omega arith)) (ap pos (omega arith)))
    (lt-or-le p q)

-- a multiple of a difference
scale-minus : (k p q : ℕ) → sub_ℕ (k * p) (k * q) ≡ pos k *ℤ sub_ℕ p q
scale-minus k p q =
    ⊎_elim
    (λ (e : k ≡ 0). rw (e, zero-mul p, zero-mul q) (sym (zero-*ℤ (sub_ℕ p q))))
    (λ (many : 0 < k).
    ⊎_elim
    (λ (l : p < q).
    let less : k * p < k * q = mul-lt-mul_of_pos_left l many in
    let gap : k * suc (q - suc p) ≡ suc (k * q - suc (k * p)) =
    ap (λ d. k * d) (suc-sub p q l) ∙ mul-sub k q p ∙ sym (suc-sub (k * p) (k * q) less) in
    rw (lt-ltb p q l, lt-ltb (k * p) (k * q) less) (sym (ap (λ z. neg_ℤ (pos z)) gap)))
    (λ (l : q ≤ p).
    rw (le-ltb p q l, le-ltb (k * p) (k * q) (mul-le-mul_left k l)) (ap pos (sym (mul-sub k p q))))
    (lt-or-le p q))
    (eq-zero-or-pos k)
  where
    suc-sub : (p q : ℕ) → p < q → suc (q - suc p) ≡ q - p
    suc-sub p q l = omega arith

-- (mx + s)(ky + u) = mk·xy + mu·x + sk·y + su
product-of : (m s k u x y : ℕ) → (m * x + s) * (k * y + u) ≡ m * k * (x * y) + m * u * x + (s * k * y + s * u)
product-of m s k u x y =
    simp (mul-add, add-mul) (omega (arith, mul-mul-mul_comm m x k y, mul_right_comm m x u, mul_assoc s k y))

sum-product-of : (n m s k u : ℕ) (a b : ℕ → ℕ)
    → sum_to n (λ i. (m * a i + s) * (k * b i + u))
    ≡ m * k * sum_to n (λ i. a i * b i) + m * u * sum_to n a + (s * k * sum_to n b + n * (s * u))
sum-product-of n m s k u a b =
    sum_to-same n _ _ (λ i _. product-of m s k u (a i) (b i))
    ∙ sum_to-plus n (λ i. m * k * (a i * b i) + m * u * a i) (λ i. s * k * b i + s * u)
    ∙ ap₂ (λ p q. p + q)
    (sum_to-plus n (λ i. m * k * (a i * b i)) (λ i. m * u * a i) ∙ ap₂ (λ p q. p + q) (sum_to-scale n (m * k) _) (sum_to-scale n (m * u) a))
    (sum_to-plus n (λ i. s * k * b i) (λ _. s * u) ∙ ap₂ (λ p q. p + q) (sum_to-scale n (s * k) b) (sum_to-const n (s * u)))

sum-affine : (n m s : ℕ) (a : ℕ → ℕ) → sum_to n (λ i. m * a i + s) ≡ m * sum_to n a + n * s
sum-affine n m s a = sum_to-plus n (λ i. m * a i) (λ _. s) ∙ ap₂ (λ p q. p + q) (sum_to-scale n m a) (sum_to-const n s)

affine-numbers : (n m s k u sa sb sab : ℕ)
    → n * (m * k * sab + m * u * sa + (s * k * sb + n * (s * u))) + m * k * (sa * sb)
    ≡ m * k * (n * sab) + (m * sa + n * s) * (k * sb + n * u)
affine-numbers n m s k u sa sb sab =
    omega (
      arith,
      mul-add n (m * k * sab + m * u * sa) (s * k * sb + n * (s * u)),
      mul-add n (m * k * sab) (m * u * sa),
      mul-add n (s * k * sb) (n * (s * u)),
      mul_left_comm n (m * k) sab,
      product-of m (n * s) k (n * u) sa sb,
      sym (mul_assoc n (m * u) sa) ∙ ap (λ z. z * sa) (mul_left_comm n m u),
      sym (mul_assoc n (s * k) sb) ∙ ap (λ z. z * sb) (sym (mul_assoc n s k)),
      sym (mul_assoc n n (s * u)) ∙ sym (mul-mul-mul_comm n s n u),
    )

-- under v ↦ m·v + s of the one and v ↦ k·v + u of the other the covariance becomes m·k·cov
pub cov-affine : (n m s k u : ℕ) (a b : ℕ → ℕ) → cov_of n (λ i. m * a i + s) (λ i. k * b i + u) ≡ pos (m * k) *ℤ cov_of n a b
cov-affine n m s k u a b =
    let sa = sum_to n a in
    let sb = sum_to n b in
    let sab = sum_to n (λ i. a i * b i) in
    rw (sum-product-of n m s k u a b, sum-affine n m s a, sum-affine n k u b)
    (minus (n * (m * k * sab + m * u * sa + (s * k * sb + n * (s * u)))) ((m * sa + n * s) * (k * sb + n * u))
    ∙ same-minus _ _ (m * k * (n * sab)) (m * k * (sa * sb)) (affine-numbers n m s k u sa sb sab)
    ∙ scale-minus (m * k) (n * sab) (sa * sb)
    ∙ ap (λ z. pos (m * k) *ℤ z) (sym (minus (n * sab) (sa * sb))))
