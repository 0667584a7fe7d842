-- What a float's value, as a fraction, says of the tests and casts on it. Assumes nothing.
use Rattle.std.proofs.Common.{◌≡◌, ℕ, ◌+◌, ◌*◌, ◌/◌, ◌^◌, ◌<◌, ◌≤◌, Bool, true, false, ◌&&◌, ◌||◌, T, eqb, ltb, pos, true≢false, le_of_eq, le_of_lt, div-lt_iff_lt-mul, lt_of_mul-lt-mul_right, mul-lt-mul_of_pos_right, mul_right_comm, arith, eqb→eq, ltb→lt, lt→ltb}
use native.Mathlib.Nat.{min-eq_left}
use lib.Ieee.{Float, fin, nan, inf, lt, to_unsigned, up, down}
use lib.Ieee.Fits.{down_pos, and_l}
use lib.Ieee.Exact.{HasValue}
use lib.Ieee.Nearest.{div_same}

-- an order of fractions, cross-multiplied: where n / d is a / c, and a / c is below b
pub cross : (n d a c b : ℕ) → 0 < d → n * c ≡ a * d → a < b * c → n < b * d
cross n d a c b D e h = lt_of_mul-lt-mul_right c (rw (e, mul_right_comm b d c) (mul-lt-mul_of_pos_right h D))

-- the test that `le` makes of two numbers from zero on
pub le-says : (p q : ℕ) → T (ltb p q || (eqb p q && true)) → p ≤ q
le-says p q h = go (ltb p q) (ltb→lt p q) h
  where
    go : (z : Bool) → (T z → p < q) → T (z || (eqb p q && true)) → p ≤ q
    go true k u = le_of_lt (k tt)
    go false k u = le_of_eq (eqb→eq p q (and_l (eqb p q) true u))

module _ (a c : ℕ) (C : 0 < c) where
  -- a value from zero on is above -1
  pub above_minus_one : (y : Float) → HasValue y false a c → T (lt (fin true 1 (pos 0)) y)
  unfolding lt
  above_minus_one nan v = absurd v
  above_minus_one (inf t) v = absurd v
  above_minus_one (fin true m e) v = absurd (true≢false v.0)
  above_minus_one (fin false m e) v = lt→ltb 0 (1 * 1 * down e + m * up e * 1) (omega (arith, down_pos e))

  pub below_top : (y : Float) → HasValue y false a c → a < 2 ^ 64 * c → T (lt y (fin false 1 (pos 64)))
  unfolding lt
  below_top nan v h = absurd v
  below_top (inf t) v h = absurd v
  below_top (fin true m e) v h = absurd (true≢false v.0)
  below_top (fin false m e) v h = lt→ltb (m * up e * 1) (2 ^ 64 * down e) (omega (arith, cross (m * up e) (down e) a c (2 ^ 64) (down_pos e) v.1 h))

  -- the cast cuts it
  pub cut : (y : Float) → HasValue y false a c → a < 2 ^ 64 * c → to_unsigned 64 y ≡ a / c
  unfolding to_unsigned
  cut nan v h = absurd v
  cut (inf t) v h = absurd v
  cut (fin true m e) v h = absurd (true≢false v.0)
  cut (fin false m e) v h =
      let q : m * up e / down e ≡ a / c = div_same (m * up e) (down e) a c (down_pos e) C v.1 in
      let l : a / c < 2 ^ 64 = (div-lt_iff_lt-mul C).1 h in
      rw q (min-eq_left (omega arith))
