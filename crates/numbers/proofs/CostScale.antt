-- THE SCALING LAW of the raw cost: variances 4 ^ i and 4 ^ j times as large and a covariance 2 ^ i * 2 ^ j times as large give the same raw cost, bit for bit, already
-- before it is narrowed. The two roots have the same digits and fewer places, rounding commutes with a power of two in the normal range, and so numerator and
-- denominator of the quotient grow alike. Assumes nothing.
use Rattle.std.proofs.Common.{◌≡◌, ℕ, zero, suc, ◌+◌, ◌*◌, ◌/◌, ◌^◌, ◌<◌, ◌≤◌, true, false, T, ℤ, pos, negsuc, ◌*ℤ◌, neg_ℤ, nat_abs, sym, refl, ap, ◌∙◌, le_trans, le_of_eq, lt_irrefl, zero-lt-suc, mul_assoc, mul_comm, mul-le-mul, mul-le-mul_left, mul-pos, mul_left_comm, lit≤, pow_pos, pow_mono, pow-add}
use native.Mathlib.Nat.{mul-mul-mul_comm}
use lib.Ieee.{Float, binary64, size, round, mul, div, of_int}
use lib.Ieee.Exact.{HasValue}
use lib.Ieee.Scale.{grid, round_same, round_val, round_under, grid_scale, normal_of_fraction}
use lib.Ieee.Positive.{positive, positive-finite, value_pos}
use Rattle.numbers.specs.Narrow.{narrowed}
use Rattle.numbers.specs.Root.{places, root_of}
use Rattle.numbers.proofs.Rooted.{digits, digits-lo, places-most, scaled-least, part-most, fewer-places, same_digits}
use Rattle.numbers.proofs.CostBound.{square-power, product_is, product-positive, div-at, negative, covariance-value}

-- a positive multiple of a signed number keeps its sign, and its size is multiplied
times-is : (k : ℕ) (z : ℤ) → 0 < k → (negative (pos k *ℤ z) ≡ negative z) × (nat_abs (pos k *ℤ z) ≡ k * nat_abs z)
times-is k (pos n) K = (refl, refl)
times-is k (negsuc n) K = go (k * suc n) (mul-pos K (zero-lt-suc n))
  where
    go : (m : ℕ) → 0 < m → (negative (neg_ℤ (pos m)) ≡ true) × (nat_abs (neg_ℤ (pos m)) ≡ m)
    go zero h = absurd (lt_irrefl 0 h)
    go (suc m) h = (refl, refl)

-- a root is 1 at least
one-least : (n : ℕ) → 1 ≤ n → n ≤ 2 ^ 53 → 2 ^ places n ≤ digits n
one-least n lo hi = le_trans (pow_mono (places-most n lo hi)) (digits-lo n lo hi)

module _ (a b i j : ℕ) (alo : 1 ≤ a) (blo : 1 ≤ b) (ahi : 4 ^ i * a ≤ 2 ^ 53) (bhi : 4 ^ j * b ≤ 2 ^ 53) where
  abbrev N : ℕ
  N = digits a * digits b

  abbrev D : ℕ
  D = 2 ^ places a * 2 ^ places b

  abbrev K : ℕ
  K = 2 ^ i * 2 ^ j

  a-most : a ≤ 2 ^ 53
  a-most = part-most a i alo ahi

  b-most : b ≤ 2 ^ 53
  b-most = part-most b j blo bhi

  a-least : 1 ≤ 4 ^ i * a
  a-least = scaled-least a i alo ahi

  b-least : 1 ≤ 4 ^ j * b
  b-least = scaled-least b j blo bhi

  D-pos : 0 < D
  D-pos = mul-pos (pow_pos (places a)) (pow_pos (places b))

  K-pos : 0 < K
  K-pos = mul-pos (pow_pos i) (pow_pos j)

  abbrev plain : Float
  plain = mul binary64 (root_of a) (root_of b)

  abbrev scaled : Float
  scaled = mul binary64 (root_of (4 ^ i * a)) (root_of (4 ^ j * b))

  plain-positive : T (positive plain)
  plain-positive = product-positive a b alo a-most blo b-most

  scaled-positive : T (positive scaled)
  scaled-positive = product-positive (4 ^ i * a) (4 ^ j * b) a-least ahi b-least bhi

  plain-is : plain ≡ round binary64 false N D
  plain-is = product_is a b alo a-most blo b-most

  -- the same digits, over fewer places
  scaled-is : scaled ≡ round binary64 false (N * 2 ^ (i + j)) D
  scaled-is =
      product_is (4 ^ i * a) (4 ^ j * b) a-least ahi b-least bhi
      ∙ ap (λ (x : ℕ). round binary64 false (x * digits (4 ^ j * b)) (2 ^ p * 2 ^ q)) (same_digits a i alo ahi)
      ∙ ap (λ (y : ℕ). round binary64 false (digits a * y) (2 ^ p * 2 ^ q)) (same_digits b j blo bhi)
      ∙ round_same binary64 false N (2 ^ p * 2 ^ q) (N * 2 ^ (i + j)) D (mul-pos (pow_pos p) (pow_pos q)) D-pos
      (rw (← fewer-places a i alo ahi, ← fewer-places b j blo bhi, pow-add 2 p i, pow-add 2 q j, pow-add 2 i j) (simp (mul_assoc, mul_comm, mul_left_comm)))
    where
      p : ℕ
      p = places (4 ^ i * a)

      q : ℕ
      q = places (4 ^ j * b)

  -- so N / D is 1 at least
  normal : 53 ≤ size (N * 2 ^ 1074 / D)
  normal = normal_of_fraction binary64 N D D-pos (le_trans (le_of_eq (mul_comm (2 ^ 52) D)) (mul-le-mul (mul-le-mul (one-least a alo a-most) (one-least b blo b-most)) (lit≤ tt)))

  -- the product of the roots in units of the smallest value
  abbrev g : ℕ
  g = grid binary64 N D

  rounded : (x : Float) (n : ℕ) → T (positive x) → x ≡ round binary64 false n D → HasValue x false (grid binary64 n D) (2 ^ 1074)
  rounded x n p e = rw e (round_val binary64 n D (round_under binary64 n D (rw e at (positive-finite x p))))

  plain_value : HasValue plain false g (2 ^ 1074)
  plain_value = rounded plain N plain-positive plain-is

  scaled_value : HasValue scaled false (g * K) (2 ^ 1074)
  scaled_value = rw (← pow-add 2 i j, ← grid_scale binary64 N D (i + j) D-pos normal) (rounded scaled (N * 2 ^ (i + j)) scaled-positive scaled-is)

  scaled-square : (c : ℕ) → c * c ≤ a * b → K * c * (K * c) ≤ 4 ^ i * a * (4 ^ j * b)
  scaled-square c h =
      le_trans (le_of_eq (mul-mul-mul_comm K c K c ∙ ap (λ (x : ℕ). x * (c * c)) (square-power i j)))
      (le_trans (mul-le-mul_left (4 ^ i * 4 ^ j) h) (le_of_eq (mul-mul-mul_comm (4 ^ i) (4 ^ j) a b)))

  -- the same quotient, before it is narrowed
  pub quotient-scales : (z : ℤ) → nat_abs z * nat_abs z ≤ a * b → div binary64 (of_int binary64 (pos K *ℤ z)) scaled ≡ div binary64 (of_int binary64 z) plain
  quotient-scales z h =
      let c = nat_abs z in
      let s = negative z in
      let U = 2 ^ 1074 in
      let w = times-is K z K-pos in
      let G : 0 < g = value_pos plain g U plain-positive (pow_pos 1074) plain_value in
      let value : HasValue (of_int binary64 (pos K *ℤ z)) s (K * c) 1 =
      rw (← w.0, ← w.1) (covariance-value (4 ^ i * a) (4 ^ j * b) a-least ahi b-least bhi (pos K *ℤ z) (rw w.1 (scaled-square c h))) in
      div-at binary64 (of_int binary64 (pos K *ℤ z)) scaled s (K * c) (g * K) U (mul-pos G K-pos) (pow_pos 1074) value scaled_value
      ∙ round_same binary64 s (K * c * U) (g * K) (c * U) g (mul-pos G K-pos) G (simp (mul_assoc, mul_comm, mul_left_comm))
      ∙ sym (div-at binary64 (of_int binary64 z) plain s c g U G (pow_pos 1074) (covariance-value a b alo a-most blo b-most z h) plain_value)

-- THEOREM: variances 4 ^ i and 4 ^ j times as large, and a covariance 2 ^ i * 2 ^ j times as large, leave the raw cost as it is
pub cost-scales : (a b i j : ℕ) (z : ℤ) → 1 ≤ a → 1 ≤ b → 4 ^ i * a ≤ 2 ^ 53 → 4 ^ j * b ≤ 2 ^ 53 → nat_abs z * nat_abs z ≤ a * b
    → narrowed (div binary64 (of_int binary64 (pos (2 ^ i * 2 ^ j) *ℤ z)) (mul binary64 (root_of (4 ^ i * a)) (root_of (4 ^ j * b))))
    ≡ narrowed (div binary64 (of_int binary64 z) (mul binary64 (root_of a) (root_of b)))
cost-scales a b i j z alo blo ahi bhi h = ap narrowed (quotient-scales a b i j alo blo ahi bhi z h)
