-- How large a number digits write; digits that are written read as their number.
use Prim.Native.Nat.{ℕ, zero, suc, ◌+◌, ◌-◌, ◌*◌, ◌/◌, ◌%◌, ◌^◌, ◌≤◌, ◌<◌}
use mathlib.Core.Path.{◌≡◌, refl, ◌∙◌}
use mathlib.Core.Bool.{Bool, true, false, cond}
use mathlib.Core.List.{List, [], ◌∷◌, ◌++◌}
use native.Mathlib.Numerals.{add-one}
use native.Mathlib.Omega.{arith}
use native.Mathlib.Nat.{lt_of_lt_of_le, pow-suc, pow-succ', mul_assoc, mul-le-mul_right}
use lib.ListN.{length, get_or, drop}
use lib.Seq.{drop-cons}
use lib.Dec.{leb, ltb}
use borrow.Author.Tests.{lt-ltb, le-leb, lt-leb, ltb-true, leb-true}
use Rattle.lists.proofs.Tests.{and_both}
use Rattle.texts.specs.Digits.{digits, digit_byte, places_of, decimal_text, is_digit, all_digits, decimal_from, Numeral}
use Rattle.texts.proofs.Digits.{length_digits}

-- a byte below or above the digits spoils a word
pub digits_low : (w : List ℕ) (i : ℕ) → i < length w → get_or w i 0 < 48 → all_digits (drop i w) ≡ false
digits_low w i h e = rw (drop-cons w i 0 h, lt-leb 48 (get_or w i 0) e)

-- a byte above them does too
pub digits-high : (w : List ℕ) (i : ℕ) → i < length w → 48 ≤ get_or w i 0 → 57 < get_or w i 0 → all_digits (drop i w) ≡ false
digits-high w i h l e = rw (drop-cons w i 0 h, le-leb 48 (get_or w i 0) l, lt-leb (get_or w i 0) 57 e)

-- a digit is one more
pub digits_more : (w : List ℕ) (i : ℕ) → i < length w → 48 ≤ get_or w i 0 → get_or w i 0 ≤ 57 → all_digits (drop i w) ≡ all_digits (drop (i + 1) w)
digits_more w i h l e = rw (add-one, drop-cons w i 0 h, le-leb 48 (get_or w i 0) l, le-leb (get_or w i 0) 57 e)

-- a byte is read as one digit more of the number
pub decimal-more : (n : ℕ) (w : List ℕ) (i : ℕ) → i < length w → decimal_from n (drop i w) ≡ decimal_from (n * 10 + (get_or w i 0 - 48)) (drop (i + 1) w)
decimal-more n w i h = rw (add-one, drop-cons w i 0 h)

-- digits write a number below the power of ten of their count
pub decimal-lt : (w : List ℕ) (n : ℕ) → all_digits w ≡ true → decimal_from n w < (n + 1) * 10 ^ length w
decimal-lt [] n e = omega arith
decimal-lt (b ∷ w) n e =
    let d = and_both (is_digit b) (all_digits w) e in
    let h = leb-true b 57 (and_both (leb 48 b) (leb b 57) d.0).1 in
    let m : n * 10 + (b - 48) + 1 ≤ (n + 1) * 10 = omega arith in
    lt_of_lt_of_le (decimal-lt w (n * 10 + (b - 48)) d.1)
    (rw (pow-succ', ← mul_assoc) (mul-le-mul_right (10 ^ length w) m))

-- ---- digits that are written read as their number

decimal-append : (n : ℕ) (a b : List ℕ) → decimal_from n (a ++ b) ≡ decimal_from (decimal_from n a) b
decimal-append n [] b = refl
decimal-append n (x ∷ a) b = decimal-append (n * 10 + (x - 48)) a b

all_append : (a b : List ℕ) → all_digits a ≡ true → all_digits b ≡ true → all_digits (a ++ b) ≡ true
all_append [] b p q = q
all_append (x ∷ a) b p q =
    let d = and_both (is_digit x) (all_digits a) p in
    rw (d.0, all_append a b d.1 q)

digit-read : (d : ℕ) → d < 10 → digit_byte d ≡ 48 + d
digit-read d h = rw (lt-ltb d 10 h)

digits-read : (k n : ℕ) → n < 10 ^ k → decimal_from 0 (digits 10 k n) ≡ n
digits-read zero n h = omega arith
digits-read (suc k) n h =
    let less : n / 10 < 10 ^ k = omega (arith, pow-suc 10 k) in
    decimal-append 0 (digits 10 k (n / 10)) (digit_byte (n % 10) ∷ [])
    ∙ omega (arith, digits-read k (n / 10) less, digit-read (n % 10) (omega arith))

digits-all : (k n : ℕ) → all_digits (digits 10 k n) ≡ true
digits-all zero n = refl
digits-all (suc k) n =
    let d : n % 10 < 10 = omega arith in
    all_append (digits 10 k (n / 10)) (digit_byte (n % 10) ∷ []) (digits-all k (n / 10))
    (rw (digit-read (n % 10) d, le-leb 48 (48 + n % 10) (omega arith), le-leb (48 + n % 10) 57 (omega arith)))

places-enough : (n : ℕ) → n < 10000 → (1 ≤ places_of n) × (n < 10 ^ places_of n)
places-enough n h = go (ltb n 10) (ltb n 100) (ltb n 1000) refl refl refl
  where
    go : (a b c : Bool) → ltb n 10 ≡ a → ltb n 100 ≡ b → ltb n 1000 ≡ c → (1 ≤ cond a 1 (cond b 2 (cond c 3 4))) × (n < 10 ^ cond a 1 (cond b 2 (cond c 3 4)))
    go true b c p q r = (omega arith, omega (arith, ltb-true n 10 p))
    go false true c p q r = (omega arith, omega (arith, ltb-true n 100 q))
    go false false true p q r = (omega arith, omega (arith, ltb-true n 1000 r))
    go false false false p q r = (omega arith, omega arith)

-- a number that is written is a numeral
pub decimal-numeral : (n : ℕ) → n < 10000 → Numeral (decimal_text n) n
unfolding decimal_text
decimal-numeral n h = record {
  digit = digits-all (places_of n) n;
  some = rw length_digits (places-enough n h).0;
  value = digits-read (places_of n) n (places-enough n h).1;
}
