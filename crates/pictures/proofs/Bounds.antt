-- How far f64's operations can go above the exact result, for values from 0 to 2,048: by one part in 2 ^ 41 of one at most. Minus zero counts as zero. Assumes nothing.
use Rattle.std.proofs.Common.{◌≡◌, ℕ, suc, ◌+◌, ◌-◌, ◌*◌, ◌/◌, ◌%◌, ◌^◌, ◌<◌, ◌≤◌, Bool, true, false, cond, not, T, ltb, ℤ, sym, refl, ap, ◌∙◌, subst, zero-le, le_trans, le_of_eq, le_refl, lt_of_le_of_lt, le_of_lt, mul-le-mul_right, mul_assoc, mul_comm, div-lt_iff_lt-mul, mul-le-mul, mul-pos, mul-zero, div-add-mod', zero-mul, le_of_mul-le-mul_right, mul_left_comm, arith, lit<, eqb→eq, pow_pos, pow_mono}
use Prim.Native.Nat.{compare, Ordering}
use native.Mathlib.Nat.{mul-mul-mul_comm}
use lib.Dec.{is_le, compare_is_eq, nleb→lt}
use lib.Ieee.{Float, nan, inf, fin, binary64, up, down, unlike, size, nearest, round, add, mul}
use lib.Ieee as ieee
use lib.Ieee.Digits.{size-le}
use lib.Ieee.Exact.{HasValue}
use lib.Ieee.Fits.{down_pos}
use lib.Ieee.Nearest.{closest}
use lib.Ieee.Order.{drop}
use lib.Ieee.Scale.{grid, round_val}
use Rattle.pictures.proofs.Values.{round-none, Upto, upto-of-value}

-- one part in this many
abbrev pub parts : ℕ
parts = 2 ^ 41

-- ---- rounding to the nearest goes up by half the divisor at most
pub closest-above : (n u : ℕ) → 2 * (closest n u * u) ≤ 2 * n + u
closest-above n u = go (compare (n % u * 2) u) (eqb→eq (n % u * 2) u) (nleb→lt (n % u * 2) u)
  where
    stays : (w r : ℕ) → w * u + r ≡ n → 2 * (w * u) ≤ 2 * n + u
    stays w r e = omega arith

    goes : (w q r : ℕ) → q ≤ suc w → w * u + r ≡ n → u ≤ r * 2 → 2 * (q * u) ≤ 2 * n + u
    goes w q r h e k = omega (arith, mul-le-mul_right u h)

    tie : (w : ℕ) → w + w % 2 ≤ suc w
    tie w = omega arith

    go : (o : Ordering) → (T (compare_is_eq o) → n % u * 2 ≡ u) → (T (not (is_le o)) → u < n % u * 2) → 2 * (nearest (n / u) o * u) ≤ 2 * n + u
    go Ordering.lt a b = stays (n / u) (n % u) (div-add-mod' n u)
    go Ordering.eq a b = goes (n / u) (n / u + n / u % 2) (n % u) (tie (n / u)) (div-add-mod' n u) (le_of_eq (sym (a tt)))
    go Ordering.gt a b = goes (n / u) (suc (n / u)) (n % u) (le_refl (suc (n / u))) (div-add-mod' n u) (le_of_lt (b tt))

-- ---- a fraction up to 2,048, rounded, in units of the smallest value

module _ (a c : ℕ) (C : 0 < c) (h : a ≤ 2048 * c) where
  -- at most 1,033 digits are dropped
  dropped : 2 ^ drop 53 (a * 2 ^ 1074) c ≤ 2 ^ 1033
  dropped = pow_mono {i = drop 53 (a * 2 ^ 1074) c} {j = 1033} (by (size (a * 2 ^ 1074 / c)) (size-le (a * 2 ^ 1074 / c) 1086 ((div-lt_iff_lt-mul C).1 (below (2 ^ 1074) (pow_pos 1074)))))
    where
      by : (z : ℕ) → z ≤ 1086 → z - 53 ≤ 1033
      by z k = omega arith

      below : (u : ℕ) → 0 < u → a * u < 4096 * u * c
      below u U = lt_of_le_of_lt (mul-le-mul_right u h) (more u U)
        where
          more : (u : ℕ) → 0 < u → 2048 * c * u < 4096 * u * c
          more u U = omega (arith, mul-pos U C)

  -- the result is above the fraction by 2 ^ 1033 units at most
  pub grid-above : grid binary64 a c * c ≤ a * 2 ^ 1074 + 2 ^ 1033 * c
  grid-above =
      let k = drop 53 (a * 2 ^ 1074) c in
      half (closest (a * 2 ^ 1074) (c * 2 ^ k)) (2 ^ k) (a * 2 ^ 1074) (2 ^ 1033) dropped (closest-above (a * 2 ^ 1074) (c * 2 ^ k))
    where
      half : (q t n e : ℕ) → t ≤ e → 2 * (q * (c * t)) ≤ 2 * n + c * t → q * t * c ≤ n + e * c
      half q t n e l k = omega (arith, mul-le-mul_right c l)

  pub grid-value : HasValue (round binary64 false a c) false (grid binary64 a c) (2 ^ 1074)
  grid-value = round_val binary64 a c (lt_of_le_of_lt (le_of_mul-le-mul_right (le_trans grid-above (most (2 ^ 1074) (2 ^ 1033))) C) (lit< tt))
    where
      most : (u e : ℕ) → a * u + e * c ≤ (2048 * u + e) * c
      most u e = omega (arith, mul-le-mul_right u h)

-- a negative sign is a zero's
abbrev pub Signed : Bool → ℕ → Type 0
Signed true n = n ≡ 0
Signed false n = Unit {0}

-- n / d, at most a / c, rounds to at most one part more, where c is so many parts of e
pub upto-round : (s : Bool) (n d a e : ℕ) → 0 < d → 0 < e → Signed s n → n * (parts * e) ≤ a * d → a ≤ 2048 * (parts * e) → Upto (round binary64 s n d) (a + e) (parts * e)
upto-round true n d a e D E z h k = subst (λ (x : Float). Upto x (a + e) (parts * e)) (sym (round-none true n d D z)) refl
upto-round false n d a e D E z h k =
    upto-of-value (round binary64 false n d) (grid binary64 n d) (2 ^ 1074) (a + e) (parts * e) (pow_pos 1074) (grid-value n d D small)
    (le_of_mul-le-mul_right (by (grid binary64 n d) (2 ^ 1074) (2 ^ 1033) (grid-above n d D small) (le_of_eq (mul_comm (2 ^ 1033) parts))) D)
  where
    small : n ≤ 2048 * d
    small = le_of_mul-le-mul_right (le_trans h (le_trans (mul-le-mul_right d k) (le_of_eq (simp (mul_assoc, mul_comm, mul_left_comm))))) (mul-pos (pow_pos 41) E)

    by : (g u t : ℕ) → g * d ≤ n * u + t * d → t * parts ≤ u → g * (parts * e) * d ≤ (a + e) * u * d
    by g u t i j = omega (arith, mul-le-mul_right (parts * e) i, mul-le-mul_right u h, mul-le-mul_right (e * d) j)

-- the parts of the bound
upto-size : (s : Bool) (m : ℕ) (e : ℤ) (a c : ℕ) → Upto (fin s m e) a c → m * up e * c ≤ a * down e
upto-size true m e a c v = le_trans (le_of_eq (ap (λ (z : ℕ). z * c) v ∙ zero-mul c)) zero-le
upto-size false m e a c v = v

upto-sign : (s : Bool) (m : ℕ) (e : ℤ) (a c : ℕ) → Upto (fin s m e) a c → Signed s (m * up e)
upto-sign true m e a c v = v
upto-sign false m e a c v = tt

-- ---- the product
signed_product : (s t : Bool) (m n : ℕ) → Signed s m → Signed t n → Signed (unlike s t) (m * n)
signed_product true true m n p q = tt
signed_product true false m n p q = ap (λ (z : ℕ). z * n) p ∙ zero-mul n
signed_product false true m n p q = ap (λ (z : ℕ). m * z) q ∙ mul-zero m
signed_product false false m n p q = tt

pub upto-mul : (x y : Float) (a c b d e : ℕ) → 0 < e → c * d ≡ parts * e → a * b ≤ 2048 * (c * d) → Upto x a c → Upto y b d → Upto (mul binary64 x y) (a * b + e) (parts * e)
unfolding mul
upto-mul nan y a c b d e E q h v w = absurd v
upto-mul (inf s) y a c b d e E q h v w = absurd v
upto-mul (fin s m i) nan a c b d e E q h v w = absurd w
upto-mul (fin s m i) (inf t) a c b d e E q h v w = absurd w
upto-mul (fin s m i) (fin t n j) a c b d e E q h v w =
    upto-round (unlike s t) (m * up i * (n * up j)) (down i * down j) (a * b) e (mul-pos (down_pos i) (down_pos j)) E
    (signed_product s t (m * up i) (n * up j) (upto-sign s m i a c v) (upto-sign t n j b d w))
    (subst (λ (z : ℕ). m * up i * (n * up j) * z ≤ a * b * (down i * down j)) q
    (swap (m * up i) (n * up j) a b (down i) (down j) (mul-le-mul (upto-size s m i a c v) (upto-size t n j b d w))))
    (subst (λ (z : ℕ). a * b ≤ 2048 * z) q h)
  where
    swap : (m n a b i j : ℕ) → m * c * (n * d) ≤ a * i * (b * j) → m * n * (c * d) ≤ a * b * (i * j)
    swap m n a b i j h = rw (mul-mul-mul_comm m n c d, mul-mul-mul_comm a b i j) h

-- ---- the sum of s A / K and t B / K, together at most (a + b) / (parts * e)
module _ (a b e K : ℕ) (E : 0 < e) (k : 0 < K) (h : a + b ≤ 2048 * (parts * e)) where
  rounded : (s : Bool) (n A B : ℕ) → Signed s n → n ≤ A + B → (A + B) * (parts * e) ≤ (a + b) * K → Upto (round binary64 s n K) (a + b + e) (parts * e)
  rounded s n A B p l q = upto-round s n K (a + b) e k E p (le_trans (mul-le-mul_right (parts * e) l) q) h

  zero-signed : (s : Bool) (n : ℕ) → n ≡ 0 → Signed s n
  zero-signed true n p = p
  zero-signed false n p = tt

  summed : (s t : Bool) (A B : ℕ) → Signed s A → Signed t B → (A + B) * (parts * e) ≤ (a + b) * K → Upto (ieee.sum binary64 s A t B K) (a + b + e) (parts * e)
  unfolding ieee.sum
  summed true true A B p q l = rounded true (A + B) A B (omega arith) (le_refl (A + B)) l
  summed false false A B p q l = rounded false (A + B) A B tt (le_refl (A + B)) l
  summed true false A B p q l = go (ltb A B)
    where
      go : (t : Bool) → Upto (cond t (round binary64 false (B - A) K) (round binary64 (ltb B A) (A - B) K)) (a + b + e) (parts * e)
      go true = rounded false (B - A) A B tt (omega arith) l
      go false = rounded (ltb B A) (A - B) A B (zero-signed (ltb B A) (A - B) (omega arith)) (omega arith) l
  summed false true A B p q l = go (ltb A B)
    where
      go : (t : Bool) → Upto (cond t (round binary64 true (B - A) K) (round binary64 false (A - B) K)) (a + b + e) (parts * e)
      go true = rounded true (B - A) A B (omega arith) (omega arith) l
      go false = rounded false (A - B) A B tt (omega arith) l

scaled : (s : Bool) (m d : ℕ) → Signed s m → Signed s (m * d)
scaled true m d p = ap (λ (z : ℕ). z * d) p ∙ zero-mul d
scaled false m d p = tt

pub upto_add : (x y : Float) (a b e : ℕ) → 0 < e → a + b ≤ 2048 * (parts * e) → Upto x a (parts * e) → Upto y b (parts * e) → Upto (add binary64 x y) (a + b + e) (parts * e)
unfolding add
upto_add nan y a b e E h v w = absurd v
upto_add (inf s) y a b e E h v w = absurd v
upto_add (fin s m i) nan a b e E h v w = absurd w
upto_add (fin s m i) (inf t) a b e E h v w = absurd w
upto_add (fin s m i) (fin t n j) a b e E h v w =
    summed a b e (down i * down j) E (mul-pos (down_pos i) (down_pos j)) h s t (m * up i * down j) (n * up j * down i)
    (scaled s (m * up i) (down j) (upto-sign s m i a (parts * e) v)) (scaled t (n * up j) (down i) (upto-sign t n j b (parts * e) w))
    (both (m * up i) (n * up j) (down i) (down j) (upto-size s m i a (parts * e) v) (upto-size t n j b (parts * e) w))
  where
    both : (m n i j : ℕ) → m * (parts * e) ≤ a * i → n * (parts * e) ≤ b * j → (m * j + n * i) * (parts * e) ≤ (a + b) * (i * j)
    both m n i j p q = omega (arith, mul-le-mul_right j p, mul-le-mul_right i q)
