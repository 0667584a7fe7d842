-- How large a float is at most, and that the sum of two small ones is finite. Assumes nothing.
use Rattle.std.proofs.Common.{◌≡◌, ℕ, suc, ◌+◌, ◌-◌, ◌*◌, ◌^◌, ◌<◌, ◌≤◌, Bool, true, false, cond, ◌&&◌, T, ltb, ℤ, pos, negsuc, nat_abs, refl, le_refl, mul-le-mul_right, mul-pos, mul-one, arith, lit<, ltb-true}
use mathlib.Core.Bool.{beq, false≢true}
use lib.Ieee.{Float, nan, inf, fin, binary32, up, down, round, sum, add, lt, le, of_int, of_bits}
use lib.Ieee.Fits.{down_pos}
use lib.Ieee.Back.{round_whole}
use lib.Ieee.Exact.{HasValue}
use lib.Ieee.Order.{round_mono}
use lib.Ieee.Scale.{finite}
use Rattle.numbers.specs.Plain.{magnitude_of}
use Rattle.numbers.proofs.Patterns.{sized-round}

-- a number of at most n in size
abbrev pub AtMost : ℕ → Float → Type 0
AtMost n nan = ⊥
AtMost n (inf s) = ⊥
AtMost n (fin s m e) = m * up e ≤ n * down e

-- such a number is finite
pub at-most-finite : (x : Float) (n : ℕ) → AtMost n x → finite x ≡ true
at-most-finite nan n h = absurd h
at-most-finite (inf s) n h = absurd h
at-most-finite (fin s m e) n h = refl

-- a number below 1 in size is such; the pattern is that of 1
pub below_one : (y : Float) → lt (magnitude_of y) (of_bits binary32 0x3f80_0000) ≡ true → AtMost 1 y
unfolding lt magnitude_of of_bits
below_one nan h = absurd (false≢true h)
below_one (inf s) h = absurd (false≢true h)
below_one (fin s m e) h = omega (arith, ltb-true (m * up e * 1) (1 * 1 * down e) h)

-- ---- a whole number

value-at-most : (x : Float) (s : Bool) (a n : ℕ) → HasValue x s a 1 → a ≤ n → AtMost n x
value-at-most nan s a n v h = absurd v
value-at-most (inf t) s a n v h = absurd v
value-at-most (fin t m e) s a n v h = omega (arith, v.1, mul-le-mul_right (down e) h)

whole-round : (s : Bool) (a n : ℕ) → a ≤ n → n < 2 ^ 24 → AtMost n (round binary32 s a 1)
whole-round s a n h l = value-at-most (round binary32 s a 1) s a n (round_whole binary32 s a (omega arith)) h

-- a small whole number is no larger as a float
pub whole-at-most : (z : ℤ) (n : ℕ) → nat_abs z ≤ n → n < 2 ^ 24 → AtMost n (of_int binary32 z)
unfolding of_int
whole-at-most (pos a) n h l = whole-round false a n h l
whole-at-most (negsuc a) n h l = whole-round true (suc a) n h l

-- ---- a sum

-- what is no larger than a number is a number
no-larger : (x y : Float) (n : ℕ) → AtMost n y → T (le (magnitude_of x) y) → finite x ≡ true
unfolding le magnitude_of
no-larger nan y n h t = absurd t
no-larger (inf s) nan n h t = absurd h
no-larger (inf s) (inf r) n h t = absurd h
no-larger (inf s) (fin r m e) n h t = absurd t
no-larger (fin s m e) y n h t = refl

-- a fraction of at most n rounds to a number
round-finite : (s : Bool) (a c n : ℕ) → 0 < c → n < 2 ^ 24 → a ≤ n * c → finite (round binary32 s a c) ≡ true
round-finite s a c n C N h =
    no-larger (round binary32 s a c) (round binary32 false n 1) n (whole-round false n n (le_refl n) N)
    (rw (sized-round binary32 s a c) (round_mono binary32 a c n 1 C (lit< tt) (rw mul-one h)))

-- one of two finite numbers, whichever it is
pub either-finite : (t : Bool) (x y : Float) → finite x ≡ true → finite y ≡ true → finite (cond t x y) ≡ true
either-finite true x y p q = p
either-finite false x y p q = q

sum-finite : (s : Bool) (a : ℕ) (t : Bool) (b c n : ℕ) → 0 < c → n < 2 ^ 24 → a + b ≤ n * c → finite (sum binary32 s a t b c) ≡ true
unfolding sum
sum-finite s a t b c n C N h =
    either-finite (beq s t) _ _ (round-finite s (a + b) c n C N h)
    (either-finite (ltb a b) _ _
    (round-finite t (b - a) c n C N (omega arith))
    (round-finite (s && ltb b a) (a - b) c n C N (omega arith)))

-- a sum of two small numbers is finite
pub add-finite : (x y : Float) (i j : ℕ) → AtMost i x → AtMost j y → i + j < 2 ^ 24 → finite (add binary32 x y) ≡ true
unfolding add
add-finite nan y i j h k l = absurd h
add-finite (inf s) y i j h k l = absurd h
add-finite (fin s m e) nan i j h k l = absurd k
add-finite (fin s m e) (inf t) i j h k l = absurd k
add-finite (fin s m e) (fin t n d) i j h k l =
    sum-finite s (m * up e * down d) t (n * up d * down e) (down e * down d) (i + j)
    (mul-pos (down_pos e) (down_pos d)) l (both (m * up e) (n * up d) (down e) (down d) h k)
  where
    both : (a b x y : ℕ) → a ≤ i * x → b ≤ j * y → a * y + b * x ≤ (i + j) * (x * y)
    both a b x y p q = omega (arith, mul-le-mul_right y p, mul-le-mul_right x q)
