-- An `f64` of moderate size as the nearest `f32`, by its bit pattern: from 2 ^ -126 to 2 the exponent's field is from 897 to 1,024, and a zero has none. Assumes nothing.
use Rattle.std.proofs.Common.{◌≡◌, ℕ, ◌+◌, ◌-◌, ◌*◌, ◌/◌, ◌%◌, ◌^◌, ◌<◌, ◌≤◌, Bool, true, false, cond, not, ◌||◌, T, eqb, pos, sym, refl, ap, ◌∙◌, subst, le_trans, le_of_eq, lt_of_lt_of_le, add-zero, mul-le-mul_right, div-lt_iff_lt-mul, mul-le-mul_left, mul-pos, one-mul, lt_of_not-le, le-div_iff_mul-le, zero-mul, mul-one, not-le_of_lt, arith, lit<, lit≤, eqb→eq, pow_pos, pow_mono, pow-add}
use mathlib.Core.Bool.{beq}
use lib.Ieee.{Float, nan, inf, fin, binary32, binary64, up, down, size, round, le, eq, fits, is_nan, of_bits, to_bits}
use lib.Ieee.Digits.{size-lt, size-le, size_reaches}
use lib.Ieee.Fits.{and_l, down_pos, kept-lt}
use lib.Ieee.Bits.{of_bits-to_bits, to_bits-lt}
use lib.Ieee.Exact.{HasValue}
use lib.Ieee.Nearest.{closest}
use lib.Ieee.Order.{round_mono}
use lib.Ieee.Scale.{round_same}
use Rattle.numbers.specs.Plain.{magnitude_of}
use Rattle.numbers.specs.Narrow.{narrowed, least, two, Moderate, nothing, within}
use Rattle.numbers.proofs.Patterns.{bits-at, sized-round}
use Rattle.numbers.proofs.Narrowing.{sign, narrow-zero, narrow-normal}
use Rattle.numbers.proofs.Values.{le-says}

-- ---- from 2 ^ -126 to 2

-- the pattern of n units, without its sign
abbrev size_of : ℕ → ℕ
size_of n = (size n - 53) * 2 ^ 52 + n / 2 ^ (size n - 53)

size-lo : (n : ℕ) → 2 ^ 948 ≤ n → 897 * 2 ^ 52 ≤ size_of n
size-lo n h = by (size n) (n / 2 ^ (size n - 53)) long kept
  where
    long : 949 ≤ size n
    long = lt_of_not-le (λ (g : size n ≤ 948). not-le_of_lt (lt_of_lt_of_le (size-lt n) (pow_mono g)) h)

    kept : 2 ^ 52 ≤ n / 2 ^ (size n - 53)
    kept = (le-div_iff_mul-le (pow_pos (size n - 53))).1 (le_trans (le_of_eq (sym (pow-add 2 52 (size n - 53)))) (size_reaches n (52 + (size n - 53)) (omega (arith, long))))

    by : (z q : ℕ) → 949 ≤ z → 2 ^ 52 ≤ q → 897 * 2 ^ 52 ≤ (z - 53) * 2 ^ 52 + q
    by z q h l = omega arith

size-hi : (n : ℕ) → n < 2 ^ 1076 → size_of n < 1151 * 2 ^ 52
size-hi n h = by (size n) (n / 2 ^ (size n - 53)) (size-le n 1076 h) (kept-lt 53 n)
  where
    by : (z q : ℕ) → z ≤ 1076 → q < 2 ^ 53 → (z - 53) * 2 ^ 52 + q < 1151 * 2 ^ 52
    by z q h l = omega arith

-- m / d in units of the smallest value, 2 ^ -1074
units-lo : (m d : ℕ) → 0 < d → 1 * 1 * d ≤ m * 2 ^ 126 → 2 ^ 948 ≤ m * 2 ^ 1074 / d
units-lo m d D h = (le-div_iff_mul-le D).1 (by (2 ^ 948) (2 ^ 126) (2 ^ 1074) (pow-add 2 948 126) h)
  where
    by : (p q r : ℕ) → r ≡ p * q → 1 * 1 * d ≤ m * q → p * d ≤ m * r
    by p q r e h = omega (arith, ap (λ (w : ℕ). m * w) e, mul-le-mul_left p h)

units-hi : (m d : ℕ) → 0 < d → m * 1 ≤ 1 * 2 ^ 1 * d → m * 2 ^ 1074 / d < 2 ^ 1076
units-hi m d D h = (div-lt_iff_lt-mul D).1 (by (2 ^ 1074) (2 ^ 1076) (pow-add 2 2 1074) (mul-pos D (pow_pos 1074)) h)
  where
    by : (p r : ℕ) → r ≡ 4 * p → 0 < d * p → m * 1 ≤ 2 * d → m * p < r * d
    by p r e D h = omega (arith, ap (λ (w : ℕ). w * d) e, mul-le-mul_right p h)

-- the sign's bit is the 63rd
unsigned : (s : Bool) (k q : ℕ) → k * 2 ^ 52 + q < 2 ^ 63 → (cond s (2 ^ 63) 0 + k * 2 ^ 52 + q) % 2 ^ 63 ≡ k * 2 ^ 52 + q
unsigned true k q h = omega arith
unsigned false k q h = omega arith

-- a pattern's size in the range of the normal numbers of binary32
record Normal (n : ℕ) : Type 0 where
  pub low : 897 * 2 ^ 52 ≤ n
  pub high : n < 1151 * 2 ^ 52

normal : (x : Float) → T (le least (magnitude_of x)) → T (le (magnitude_of x) two) → Normal (to_bits binary64 x % 2 ^ 63)
unfolding le magnitude_of to_bits
normal nan h k = absurd h
normal (inf s) h k = absurd k
normal (fin s m e) h k =
    let n : ℕ = m * up e * 2 ^ 1074 / down e in
    let lo : 897 * 2 ^ 52 ≤ size_of n = size-lo n (units-lo (m * up e) (down e) (down_pos e) (le-says (1 * 1 * down e) (m * up e * 2 ^ 126) h)) in
    let hi : size_of n < 1151 * 2 ^ 52 = size-hi n (units-hi (m * up e) (down e) (down_pos e) (le-says (m * up e * 1) (1 * 2 ^ 1 * down e) k)) in
    rw (unsigned s (size n - 53) (n / 2 ^ (size n - 53)) (lt_of_lt_of_le hi (lit≤ tt))) (record { low = lo; high = hi })

-- ---- a zero

zero-value : (x : Float) → T (eq x (fin false 0 (pos 0))) → (s : Bool) × HasValue x s 0 1
unfolding eq
zero-value nan h = absurd h
zero-value (inf s) h = absurd h
zero-value (fin s m e) h = (s, (refl, eqb→eq (m * up e * 1) (0 * 1 * down e) (and_l (eqb (m * up e * 1) (0 * 1 * down e)) (beq s false || eqb (m * up e * 1) 0) h)))

zero_bits : (x : Float) → T (eq x (fin false 0 (pos 0))) → to_bits binary64 x % 2 ^ 63 ≡ 0
unfolding size
zero_bits x h = let v = zero-value x h in rw (bits-at binary64 x v.0 0 1 (lit< tt) v.1) (go v.0)
  where
    go : (s : Bool) → (cond s (2 ^ 63) 0 + (size 0 - 53) * 2 ^ 52 + 0 / 2 ^ (size 0 - 53)) % 2 ^ 63 ≡ 0
    go true = refl
    go false = refl

-- ---- the size that is taken

-- what n must be, to be taken for the size of x's pattern: rounded off it is the size of the pattern of `narrowed x`
pub record Taken (x : Float) (n : ℕ) : Type 0 where
  pub low : 896 * 2 ^ 52 ≤ n
  pub high : n < 2 ^ 63
  pub few : closest (n - 896 * 2 ^ 52) (2 ^ 29) ≤ 2 ^ 31 - 2 ^ 23
  pub read : of_bits binary32 (sign (to_bits binary64 x) + closest (n - 896 * 2 ^ 52) (2 ^ 29)) ≡ narrowed x

module _ (x : Float) (p : T (fits binary64 x)) where
  abbrev b : ℕ
  b = to_bits binary64 x

  word : b < 2 ^ 64
  word = to_bits-lt binary64 x p

  again : narrowed (of_bits binary64 b) ≡ narrowed x
  again = ap narrowed (of_bits-to_bits binary64 x p)

  -- a zero is left as it is
  pub taken-zero : eq x (fin false 0 (pos 0)) ≡ true → Taken x (896 * 2 ^ 52)
  taken-zero h =
      let flat : b % 2 ^ 63 ≡ 0 = zero_bits x (subst T (sym h) tt) in
      record {
        low = lit≤ tt;
        high = lit< tt;
        few = lit≤ tt;
        read = ap (of_bits binary32) (add-zero (sign b)) ∙ narrow-zero b word (rw flat (lit< tt)) ∙ again;
      }

  -- any other number's own size
  pub taken-within : Moderate x → eq x (fin false 0 (pos 0)) ≡ false → Taken x (b % 2 ^ 63)
  taken-within (nothing h) k = absurd (subst T k h)
  taken-within (within lo hi) k =
      let n = normal x lo hi in
      let r = narrow-normal b word (closest (b % 2 ^ 63 - 896 * 2 ^ 52) (2 ^ 29)) n.low n.high refl in
      record { low = omega (arith, n.low); high = omega (arith, n.high); few = r.0; read = r.1 ∙ again }

-- a number of moderate size is no NaN
pub moderate-number : (x : Float) → Moderate x → T (not (is_nan x))
unfolding eq le magnitude_of is_nan
moderate-number nan (nothing h) = absurd h
moderate-number nan (within h k) = absurd h
moderate-number (inf s) w = tt
moderate-number (fin s m e) w = tt

-- ---- a rounded fraction n / d

least-is : round binary64 false 1 (2 ^ 126) ≡ least
unfolding round
least-is = refl

two_is : round binary64 false 2 1 ≡ two
unfolding round
two_is = refl

pub round-nothing : (s : Bool) (n d : ℕ) → 0 < d → n ≡ 0 → Moderate (round binary64 s n d)
round-nothing s n d D e = rw (round_same binary64 s n d 0 1 D (lit< tt) (rw (e, zero-mul d))) (nothing (flat s))
  where
    flat : (s : Bool) → T (eq (round binary64 s 0 1) (fin false 0 (pos 0)))
    flat true = unfold round eq in tt
    flat false = unfold round eq in tt

pub round-within : (s : Bool) (n d : ℕ) → 0 < d → d ≤ n * 2 ^ 126 → n ≤ 2 * d → Moderate (round binary64 s n d)
round-within s n d D lo hi =
    within {x = round binary64 s n d}
    (rw (sized-round binary64 s n d, ← least-is) (round_mono binary64 1 (2 ^ 126) n d (pow_pos 126) D (rw one-mul lo)))
    (rw (sized-round binary64 s n d, ← two_is) (round_mono binary64 n d 2 1 D (lit< tt) (rw mul-one hi)))
