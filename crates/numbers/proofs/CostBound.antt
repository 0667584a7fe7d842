-- The raw cost of a covariance z and two variances a and b, z / (root a * root b), each step rounded once to an `f64` and the quotient narrowed to an `f32`:
-- it lies from -1 to 1 wherever z * z ≤ a * b, and before it is narrowed it is a zero or from 2 ^ -126 to 2 in size. Assumes nothing.
use Rattle.std.proofs.Common.{◌≡◌, ℕ, suc, ◌+◌, ◌*◌, ◌/◌, ◌^◌, ◌<◌, ◌≤◌, Bool, true, false, cond, not, ◌&&◌, ◌||◌, T, eqb, ltb, ℤ, pos, negsuc, nat_abs, refl, ap, ◌∙◌, ⊎_elim, true≢false, lt_of_lt_of_le, le_of_suc-le-suc, lt_of_le_of_lt, le_of_lt, mul-le-mul_right, eq-zero-or-pos, mul-le-mul, le_antisymm, mul-le-mul_left, mul-pos, zero-mul, div-mul-le_self, le_of_mul-le-mul_right, arith, lit<, lit≤, ltb→lt, nltb→le, pow_pos, pow-add, lt-ltb, ne_eqb}
use native.Mathlib.Nat.{mul-mul-mul_comm}
use lib.Ieee.{Float, nan, inf, fin, Format, binary32, binary64, up, down, unlike, round, mul, div, eq, le, of_int, of_bits}
use lib.Ieee.Fits.{up_pos, down_pos, and_i, eq→eqb}
use lib.Ieee.Back.{round_whole}
use lib.Ieee.Exact.{HasValue}
use lib.Ieee.Order.{round_mono}
use lib.Ieee.Scale.{round_same}
use lib.Ieee.Positive.{num, den, den_pos, positive, positive_of_value, value_pos, own_value, values_of_le, between, mul_at}
use Rattle.numbers.specs.Narrow.{narrowed, Moderate, nothing}
use Rattle.numbers.specs.Plain.{magnitude_of}
use Rattle.numbers.specs.Root.{places, root_of}
use Rattle.numbers.proofs.Moderately.{round-nothing, round-within}
use Rattle.numbers.proofs.Patterns.{sized-round}
use Rattle.numbers.proofs.Squares.{four, root-lt}
use Rattle.numbers.proofs.Values.{le-says}
use Rattle.numbers.proofs.Rooted.{digits, digits-lo, digits-hi, digits-near, places-most, round-value, root-value}

-- ---- whole numbers: with x and y for the digits of the two roots, and d for 2 ^ (the places of both)

pub square-power : (i j : ℕ) → 2 ^ i * 2 ^ j * (2 ^ i * 2 ^ j) ≡ 4 ^ i * 4 ^ j
square-power i j = rw (four i, four j) (mul-mul-mul_comm (2 ^ i) (2 ^ j) (2 ^ i) (2 ^ j))

-- c times the scale is below (x + 1 / 2) * (y + 1 / 2)
product-above : (c a b i j x y : ℕ) → c * c ≤ a * b → 4 * (a * 4 ^ i) < (2 * x + 1) * (2 * x + 1) → 4 * (b * 4 ^ j) < (2 * y + 1) * (2 * y + 1)
    → 4 * (c * (2 ^ i * 2 ^ j)) < (2 * x + 1) * (2 * y + 1)
product-above c a b i j x y h k l = root-lt (4 * (c * (2 ^ i * 2 ^ j))) ((2 * x + 1) * (2 * y + 1)) (by (2 ^ i * 2 ^ j) (4 ^ i) (4 ^ j) (2 * x + 1) (2 * y + 1) (square-power i j) k l)
  where
    by : (w p q u v : ℕ) → w * w ≡ p * q → 4 * (a * p) < u * u → 4 * (b * q) < v * v → 4 * (c * w) * (4 * (c * w)) < u * v * (u * v)
    by w p q u v e k l = omega (arith, ap (λ (z : ℕ). c * c * z) e, mul-le-mul_right (p * q) h, mul-le-mul k l)

-- the product's 53 leading digits
abbrev lead : ℕ → ℕ → ℕ
lead x y = x * y / 2 ^ 53

lead-lo : (x y : ℕ) → 2 ^ 52 ≤ x → 2 ^ 52 ≤ y → 2 ^ 51 ≤ lead x y
lead-lo x y h k = omega (arith, mul-le-mul h k)

product_lt : (x y : ℕ) → x < 2 ^ 53 → y < 2 ^ 53 → x * y < 2 ^ 106
product_lt x y h k = omega (arith, mul-le-mul h k)

lead-hi : (x y : ℕ) → x * y < 2 ^ 106 → lead x y < 2 ^ 53
lead-hi x y h = omega arith

numerator : (x y e : ℕ) → x < 2 ^ 53 → y < 2 ^ 53 → 4 * e < (2 * x + 1) * (2 * y + 1) → e ≤ (lead x y + 3) * 2 ^ 53
numerator x y e h k l = omega arith

-- c / (n / m) is at most 1 + 2 ^ -29, where n / m is at least t * 2 ^ 53 / d
core : (c d t m n : ℕ) → 0 < d → 2 ^ 51 ≤ t → t * 2 ^ 53 * m ≤ n * d → c * d ≤ (t + 3) * 2 ^ 53 → c * m * 2 ^ 29 ≤ (2 ^ 29 + 1) * n
core c d t m n D lo h k = le_of_mul-le-mul_right {k = d} (omega (arith, mul-le-mul_right (m * 2 ^ 29) k, mul-le-mul_right (2 ^ 53 * m) (slack t lo))) D
  where
    slack : (t : ℕ) → 2 ^ 51 ≤ t → (t + 3) * 2 ^ 29 ≤ (2 ^ 29 + 1) * t
    slack t l = omega arith

-- ---- the product of two roots

root-positive : (n : ℕ) → 1 ≤ n → n ≤ 2 ^ 53 → T (positive (root_of n))
root-positive n lo hi = positive_of_value (root_of n) (digits n) (2 ^ places n) (root-value n lo hi) (lt_of_lt_of_le (pow_pos 52) (digits-lo n lo hi))

module _ (a b : ℕ) (alo : 1 ≤ a) (ahi : a ≤ 2 ^ 53) (blo : 1 ≤ b) (bhi : b ≤ 2 ^ 53) where
  abbrev x : ℕ
  x = digits a

  abbrev y : ℕ
  y = digits b

  abbrev d : ℕ
  d = 2 ^ places a * 2 ^ places b

  abbrev product : Float
  product = mul binary64 (root_of a) (root_of b)

  d-pos : 0 < d
  d-pos = mul-pos (pow_pos (places a)) (pow_pos (places b))

  pub product_is : product ≡ round binary64 false (x * y) d
  product_is = mul_at binary64 (root_of a) (root_of b) x (2 ^ places a) y (2 ^ places b) (root-positive a alo ahi) (root-positive b blo bhi) (pow_pos (places a)) (pow_pos (places b)) (root-value a alo ahi) (root-value b blo bhi)

  below : x * y < 2 ^ 106
  below = product_lt x y (digits-hi a alo ahi) (digits-hi b blo bhi)

  lead-least : 2 ^ 51 ≤ lead x y
  lead-least = lead-lo x y (digits-lo a alo ahi) (digits-lo b blo bhi)

  few : places a + places b ≤ 1074
  few = let h : places a ≤ 52 = places-most a alo ahi in let k : places b ≤ 52 = places-most b blo bhi in omega arith

  -- a float just below the product, and one above it
  abbrev lower : Float
  lower = round binary64 false (lead x y * 2 ^ 53) d

  abbrev upper : Float
  upper = round binary64 false (1 * 2 ^ 106) d

  lower-value : HasValue lower false (lead x y * 2 ^ 53) d
  lower-value = rw (← pow-add 2 (places a) (places b)) (round-value (lead x y) 53 (places a + places b) (lead-hi x y below) (lit≤ tt) few)

  lower-positive : T (positive lower)
  lower-positive = positive_of_value lower (lead x y * 2 ^ 53) d lower-value (mul-pos (lt_of_lt_of_le (pow_pos 51) lead-least) (pow_pos 53))

  upper-value : HasValue upper false (1 * 2 ^ 106) d
  upper-value = rw (← pow-add 2 (places a) (places b)) (round-value 1 106 (places a + places b) (lit< tt) (lit≤ tt) few)

  upper-positive : T (positive upper)
  upper-positive = positive_of_value upper (1 * 2 ^ 106) d upper-value (lit< tt)

  above_lower : T (le lower product)
  above_lower = rw product_is (round_mono binary64 (lead x y * 2 ^ 53) d (x * y) d d-pos d-pos (mul-le-mul_right d (div-mul-le_self (x * y) (2 ^ 53))))

  below-upper : T (le product upper)
  below-upper = rw product_is (round_mono binary64 (x * y) d (1 * 2 ^ 106) d d-pos d-pos (mul-le-mul_right d (le_of_lt below)))

  pub product-positive : T (positive product)
  product-positive = between lower product upper lower-positive upper-positive above_lower below-upper

  -- it is at most 2 ^ 106, so that 1 over it is no less than 2 ^ -126
  product-most : num product ≤ 2 ^ 106 * den product
  product-most =
      by (num product) (den product) d d-pos
      (values_of_le product upper (num product) (den product) (1 * 2 ^ 106) d product-positive upper-positive (own_value product product-positive) upper-value below-upper)
    where
      by : (n m d : ℕ) → 0 < d → n * d ≤ 1 * 2 ^ 106 * m → n ≤ 2 ^ 106 * m
      by n m d D h = omega (arith, mul-le-mul_left n D)

  -- c over the product is at most 1 + 2 ^ -29
  ratio : (c : ℕ) → c * c ≤ a * b → c * den product * 2 ^ 29 ≤ (2 ^ 29 + 1) * num product
  ratio c h =
      core c d (lead x y) (den product) (num product) d-pos lead-least
      (values_of_le lower product (lead x y * 2 ^ 53) d (num product) (den product) lower-positive product-positive lower-value (own_value product product-positive) above_lower)
      (numerator x y (c * d) (digits-hi a alo ahi) (digits-hi b blo bhi) (product-above c a b (places a) (places b) x y h (digits-near a alo ahi).1 (digits-near b blo bhi).1))

-- ---- the quotient of a whole number c and b / d
pub div-at : (f : Format) (v r : Float) (s : Bool) (c b d : ℕ) → 0 < b → 0 < d → HasValue v s c 1 → HasValue r false b d → div f v r ≡ round f s (c * d) b
unfolding div
div-at f nan r s c b d B D h k = absurd h
div-at f (inf t) r s c b d B D h k = absurd h
div-at f (fin t m e) nan s c b d B D h k = absurd k
div-at f (fin t m e) (inf u) s c b d B D h k = absurd k
div-at f (fin t m e) (fin true n g) s c b d B D h k = absurd (true≢false k.0)
div-at f (fin t m e) (fin false n g) s c b d B D h k =
    let N : 0 < n = ltb→lt 0 n (positive_of_value (fin false n g) b d k B) in
    ap (λ (z : Bool). cond z (cond (eqb m 0) nan (inf (unlike t false))) (round f (unlike t false) (m * up e * down g) (n * up g * down e))) (ne_eqb n 0 (λ (z : n ≡ 0). some n N z))
    ∙ ap (λ (z : Bool). round f z (m * up e * down g) (n * up g * down e)) (plain t ∙ h.0)
    ∙ round_same f s (m * up e * down g) (n * up g * down e) (c * d) b (mul-pos (mul-pos N (up_pos g)) (down_pos e)) B (cross (m * up e) (down g) (n * up g) (down e) h.1 k.1)
  where
    some : (n : ℕ) → 0 < n → n ≡ 0 → ⊥
    some n l z = omega arith

    plain : (t : Bool) → unlike t false ≡ t
    plain true = refl
    plain false = refl

    cross : (m y n x : ℕ) → m * 1 ≡ c * x → n * d ≡ b * y → m * y * b ≡ c * d * (n * x)
    cross m y n x p q = omega (arith, ap (λ (z : ℕ). z * (b * y)) p, ap (λ (z : ℕ). c * x * z) q)

-- ---- the quotient narrowed

abbrev pub one : Float
one = fin false 1 (pos 0)

abbrev pub minus_one : Float
minus_one = fin true 1 (pos 0)

-- 1 + 2 ^ -29
abbrev barely : Float
barely = fin false (2 ^ 29 + 1) (negsuc 28)

barely-is : round binary64 false (2 ^ 29 + 1) (2 ^ 29) ≡ barely
unfolding round
barely-is = refl

barely-narrowed : round binary32 false (2 ^ 29 + 1) (2 ^ 29) ≡ one
unfolding round
barely-narrowed = refl

-- the test that `le` makes of two numbers negated
turned : (p q : ℕ) → p ≤ q → T (ltb p q || (eqb q p && true))
turned p q h = go (ltb p q) (nltb→le p q)
  where
    go : (z : Bool) → (T (not z) → q ≤ p) → T (z || (eqb q p && true))
    go true k = tt
    go false k = and_i (eqb q p) true (eq→eqb (le_antisymm (k tt) h)) tt

-- what is at most 1 + 2 ^ -29 in size is narrowed to at most 1 in size
narrowed-to-one : (v : Float) → T (le (magnitude_of v) barely) → T (le (magnitude_of (narrowed v)) one)
unfolding le magnitude_of narrowed
narrowed-to-one nan h = absurd h
narrowed-to-one (inf s) h = absurd h
narrowed-to-one (fin s m e) h =
    rw (sized-round binary32 s (m * up e) (down e), ← barely-narrowed)
    (round_mono binary32 (m * up e) (down e) (2 ^ 29 + 1) (2 ^ 29) (down_pos e) (pow_pos 29) (le-says (m * up e * 2 ^ 29) ((2 ^ 29 + 1) * 1 * down e) h))

-- at most 1 in size is from -1 to 1
both_ways : (v : Float) → T (le (magnitude_of v) one) → T (le minus_one v) × T (le v one)
unfolding le magnitude_of
both_ways nan h = absurd h
both_ways (inf s) h = absurd h
both_ways (fin false m e) h = (rw (lt-ltb 0 (1 * 1 * down e + m * up e * 1) (omega (arith, down_pos e))) tt, h)
both_ways (fin true m e) h = (turned (m * up e * 1) (1 * 1 * down e) (le-says (m * up e * 1) (1 * 1 * down e) h), rw (lt-ltb 0 (m * up e * 1 + 1 * 1 * down e) (omega (arith, down_pos e))) tt)

-- ---- a covariance z with z * z ≤ a * b, over two variances a and b

-- below zero
abbrev pub negative : ℤ → Bool
negative (pos n) = false
negative (negsuc n) = true

module _ (a b : ℕ) (alo : 1 ≤ a) (ahi : a ≤ 2 ^ 53) (blo : 1 ≤ b) (bhi : b ≤ 2 ^ 53) where
  -- it is at most 2 ^ 53, so it is a float exactly
  pub covariance-value : (z : ℤ) → nat_abs z * nat_abs z ≤ a * b → HasValue (of_int binary64 z) (negative z) (nat_abs z) 1
  unfolding of_int
  covariance-value z h = go z (le_of_suc-le-suc (root-lt (nat_abs z) (suc (2 ^ 53)) (lt_of_le_of_lt h (lt_of_le_of_lt (mul-le-mul ahi bhi) (lit< tt)))))
    where
      go : (z : ℤ) → nat_abs z ≤ 2 ^ 53 → HasValue (of_int binary64 z) (negative z) (nat_abs z) 1
      go (pos c) l = round_whole binary64 false c l
      go (negsuc c) l = round_whole binary64 true (suc c) l

  abbrev quotient : ℤ → Float
  quotient z = div binary64 (of_int binary64 z) (mul binary64 (root_of a) (root_of b))

  -- the product of the roots as a fraction
  abbrev n : ℕ
  n = num (mul binary64 (root_of a) (root_of b))

  abbrev m : ℕ
  m = den (mul binary64 (root_of a) (root_of b))

  n_pos : 0 < n
  n_pos =
      let r = mul binary64 (root_of a) (root_of b) in
      let p : T (positive r) = product-positive a b alo ahi blo bhi in
      value_pos r n m p (den_pos r) (own_value r p)

  quotient_is : (z : ℤ) → nat_abs z * nat_abs z ≤ a * b → quotient z ≡ round binary64 (negative z) (nat_abs z * m) n
  quotient_is z k =
      let r = mul binary64 (root_of a) (root_of b) in
      div-at binary64 (of_int binary64 z) r (negative z) (nat_abs z) n m n_pos (den_pos r) (covariance-value z k) (own_value r (product-positive a b alo ahi blo bhi))

  -- THEOREM: the raw cost lies from -1 to 1
  pub cost-in-range : (z : ℤ) → nat_abs z * nat_abs z ≤ a * b
      → T (le minus_one (narrowed (div binary64 (of_int binary64 z) (mul binary64 (root_of a) (root_of b))))) × T (le (narrowed (div binary64 (of_int binary64 z) (mul binary64 (root_of a) (root_of b)))) one)
  cost-in-range z k =
      both_ways (narrowed (quotient z))
      (narrowed-to-one (quotient z)
      (rw (quotient_is z k, sized-round binary64 (negative z) (nat_abs z * m) n, ← barely-is)
      (round_mono binary64 (nat_abs z * m) n (2 ^ 29 + 1) (2 ^ 29) n_pos (pow_pos 29) (ratio a b alo ahi blo bhi (nat_abs z) k))))

  -- THEOREM: before it is narrowed it is of moderate size
  pub cost-moderate : (z : ℤ) → nat_abs z * nat_abs z ≤ a * b → Moderate (div binary64 (of_int binary64 z) (mul binary64 (root_of a) (root_of b)))
  cost-moderate z k =
      rw (quotient_is z k)
      (⊎_elim
      (λ (e : nat_abs z ≡ 0). round-nothing (negative z) (nat_abs z * m) n n_pos (rw (e, zero-mul m)))
      (λ (l : 0 < nat_abs z).
      round-within (negative z) (nat_abs z * m) n n_pos
      (small (nat_abs z) m n l (product-most a b alo ahi blo bhi))
      (large (nat_abs z * m) n (ratio a b alo ahi blo bhi (nat_abs z) k)))
      (eq-zero-or-pos (nat_abs z)))
    where
      small : (c m n : ℕ) → 0 < c → n ≤ 2 ^ 106 * m → n ≤ c * m * 2 ^ 126
      small c m n C h = omega (arith, mul-le-mul_right m C)

      large : (p n : ℕ) → p * 2 ^ 29 ≤ (2 ^ 29 + 1) * n → p ≤ 2 * n
      large p n h = omega arith

-- nothing over 1.0
pub none-moderate : Moderate (div binary64 (of_int binary64 (pos 0)) (of_bits binary64 (1023 * 2 ^ 52)))
unfolding div of_int of_bits eq
none-moderate = nothing tt
