-- What stands at the front of a header: words, white space and comments, digits and numbers as the code holds them. Assumes nothing.
use Rattle.std.proofs.Common.{◌≡◌, ℕ, ◌+◌, ◌-◌, ◌*◌, ◌<◌, ◌≤◌, min, zero-le, Bool, true, false, cond, List, [], ◌∷◌, length, get_or, take, drop, refl, sym, ap, ◌∙◌, arith, length-take, le-leb, eq-eqb, ne_eqb}
use Rattle.std.specs.Cmp.Lexicographic.{pointwise}
use mathlib.Core.Bool.{true≢false}
use mathlib.Core.Logic.{⊎_elim}
use native.Mathlib.Numerals.{add-one}
use lib.ListN.{drop_of_length-le}
use lib.Seq.{drop-cons}
use lib.Dec.{eqb}
use borrow.Author.Tests.{lt-ltb, le-ltb, lt-leb}
use Rattle.lists.proofs.Tests.{and_both, lt-or-le}
use Rattle.refusals.specs.Steps.{Or, is, refused, Taken}
use Rattle.refusals.proofs.Stepwise.{same-result}
use Rattle.texts.specs.Digits.{is_digit, all_digits, decimal_from}
use Rattle.netpbm.specs.Header.{starts_with, is_white, ends_line, after_blanks, after_comment, digits_of, take_blanks, take_number, take_spaced}
use Rattle.netpbm.specs.Inner.{held, number_most, held_number}

-- the bytes from a place on are the byte there and those after it
byte_at : (s : List ℕ) (i : ℕ) → i < length s → drop i s ≡ get_or s i 0 ∷ drop (i + 1) s
byte_at s i h = rw add-one (drop-cons s i 0 h)

-- ---- words

-- a word that stands at the front is no longer than the bytes
pub word-within : (word s : List ℕ) → starts_with word s ≡ true → length word ≤ length s
unfolding starts_with
word-within [] s e = zero-le
word-within (c ∷ word) [] e = absurd (true≢false (sym e))
word-within (c ∷ word) (b ∷ s) e = omega (arith, word-within word s (and_both (eqb b c) (starts_with word s) e).1)

-- std's test of a word at the front is the definition's
pub word_tested : (word s : List ℕ) → starts_with word s ≡ pointwise eqb (take (length word) s) word
unfolding starts_with
word_tested [] s = refl
word_tested (c ∷ word) [] = refl
word_tested (c ∷ word) (b ∷ s) = rw (word_tested word s)

-- ---- white space and comments

-- either of two lists that are short enough
shorter : (t : Bool) (a b : List ℕ) (n : ℕ) → length a ≤ n → length b ≤ n → length (cond t a b) ≤ n
shorter true a b n p q = p
shorter false a b n p q = q

-- what follows white space, and what follows a comment, is no longer than the bytes
blanks-both : (s : List ℕ) → (length (after_blanks s) ≤ length s) × (length (after_comment s) ≤ length s)
unfolding after_blanks
blanks-both [] = (zero-le, zero-le)
blanks-both (b ∷ s) =
    let i = blanks-both s in
    (shorter (is_white b) _ _ _ (omega arith) (shorter (eqb b 35) _ _ _ (omega arith) (omega arith)), shorter (ends_line b) _ _ _ (omega arith) (omega arith))

-- the same of white space alone
pub blanks-within : (s : List ℕ) → length (after_blanks s) ≤ length s
blanks-within s = (blanks-both s).0

-- a byte and what follows it: white space, a comment's first character, another one
module _ {s rest : List ℕ} {b : ℕ} (front : s ≡ b ∷ rest) where
  pub past_white : is_white b ≡ true → after_blanks s ≡ after_blanks rest
  unfolding after_blanks
  past_white e = rw (front, e)

  pub past_hash : is_white b ≡ false → b ≡ 35 → after_blanks s ≡ after_comment rest
  unfolding after_blanks
  past_hash e h = rw (front, e, eq-eqb b 35 h)

  pub past_other : is_white b ≡ false → (b ≡ 35 → ⊥) → after_blanks s ≡ s
  unfolding after_blanks
  past_other e h = rw (front, e, ne_eqb b 35 h)

  -- within a comment: its end, and another byte
  pub past_end : ends_line b ≡ true → after_comment s ≡ after_blanks rest
  unfolding after_comment
  past_end e = rw (front, e)

  pub past_text : ends_line b ≡ false → after_comment s ≡ after_comment rest
  unfolding after_comment
  past_text e = rw (front, e)

-- where the bytes end
pub blanks_end : (s : List ℕ) → length s ≡ 0 → after_blanks s ≡ s
unfolding after_blanks
blanks_end [] e = refl
blanks_end (b ∷ s) e = absurd (omega arith)

pub comment_end : (s : List ℕ) → length s ≡ 0 → after_comment s ≡ after_blanks s
unfolding after_blanks
comment_end [] e = refl
comment_end (b ∷ s) e = absurd (omega arith)

-- ---- digits

-- the digits at the front are digits
pub digits_all : (s : List ℕ) → all_digits (digits_of s) ≡ true
unfolding digits_of
digits_all [] = refl
digits_all (b ∷ s) = go (is_digit b) refl (digits_all s)
  where
    go : (t : Bool) → is_digit b ≡ t → all_digits (digits_of s) ≡ true → all_digits (cond t (b ∷ digits_of s) []) ≡ true
    go true e i = rw (e, i)
    go false e i = refl

-- they are the front of the bytes
pub digits-front : (s : List ℕ) → take (length (digits_of s)) s ≡ digits_of s
unfolding digits_of
digits-front [] = refl
digits-front (b ∷ s) = elim (is_digit b) as (λ t. take (length (cond t (b ∷ digits_of s) [])) (b ∷ s) ≡ cond t (b ∷ digits_of s) []) [
  | true ↦ ap (λ l. b ∷ l) (digits-front s)
  | false ↦ refl
]

-- they are no more than the bytes
digits-within : (s : List ℕ) → length (digits_of s) ≤ length s
digits-within s = omega (arith, rw length-take at (ap length (digits-front s)))

-- ---- numbers as the code holds them

-- digits behind a number do not make it less
decimal-least : (w : List ℕ) (n : ℕ) → n ≤ decimal_from n w
decimal-least [] n = omega arith
decimal-least (b ∷ w) n = omega (arith, decimal-least w (n * 10 + (b - 48)))

-- digits behind a number write the same as behind what is held of it
held-from : (w : List ℕ) (n : ℕ) → held (decimal_from (held n) w) ≡ held (decimal_from n w)
held-from w n =
    ⊎_elim (λ (h : n < number_most). let e : min n number_most ≡ n = omega arith in rw e)
    (λ (h : number_most ≤ n). omega (arith, decimal-least w (held n), decimal-least w n)) (lt-or-le n number_most)

-- the number of the first i digits of a word is n, as it is held
pub record NumberSoFar (w : List ℕ) (n i : ℕ) : Type 0 where
  pub within : i ≤ length w
  pub small : n ≤ number_most
  pub digit : all_digits (drop i w) ≡ true
  pub same : held (decimal_from n (drop i w)) ≡ held (decimal_from 0 w)

module _ {w : List ℕ} {n i : ℕ} (r : NumberSoFar w n i) where
  -- all digits are passed
  pub numbered_all : length w ≤ i → n ≡ held (decimal_from 0 w)
  numbered_all h = omega (arith, rw (drop_of_length-le w h) at r.same)

  module _ (h : i < length w) where
    -- the digit after them, and those behind it
    pub numbered_digit : (is_digit (get_or w i 0) ≡ true) × (all_digits (drop (i + 1) w) ≡ true)
    numbered_digit = and_both (is_digit (get_or w i 0)) (all_digits (drop (i + 1) w)) (rw (byte_at w i h) at r.digit)

    -- the number with that digit
    pub numbered_next : {m : ℕ} → m ≡ held (n * 10 + (get_or w i 0 - 48)) → NumberSoFar w m (i + 1)
    numbered_next {m} e = record {
      within = omega arith;
      small = omega arith;
      digit = numbered_digit.1;
      same = rw e (held-from (drop (i + 1) w) (n * 10 + (get_or w i 0 - 48)) ∙ rw (byte_at w i h) at r.same);
    }

-- a number that was read is what is held of one that was taken
pub held_is : (o : Or Taken) (n : ℕ) (rest : List ℕ) → is (record { number = n; rest = rest }) ≡ held_number o → (m : ℕ) × (o ≡ is (record { number = m; rest = rest })) × (n ≡ held m)
held_is (is t) n rest e =
    let same = same-result e in
    let past : rest ≡ t.rest = ap (λ (u : Taken). u.rest) same in
    (t.number, rw past, ap (λ (u : Taken). u.number) same)
held_is (refused k) n rest e = cc

pub held_refused : (o : Or Taken) (n : ℕ) → refused n ≡ held_number o → o ≡ refused n
held_refused (is t) n e = cc
held_refused (refused k) n e = cc

-- ---- a number, by how many digits are at the front
module _ (s : List ℕ) (long : ℕ) (e : long ≡ length (digits_of s)) where
  pub digits_inside : long ≤ length s
  digits_inside = omega (arith, digits-within s)

  -- the digits are the part up to there
  pub digits_part : take long s ≡ digits_of s
  digits_part = rw e (digits-front s)

  -- no digit, and one or more
  pub number_none : long ≡ 0 → refused 41 ≡ held_number (take_number s)
  unfolding take_number
  number_none none = rw (lt-leb 1 (length (digits_of s)) (omega arith))

  pub number_is : (n : ℕ) → (long ≡ 0 → ⊥) → n ≡ held (decimal_from 0 (digits_of s)) → is (record { number = n; rest = drop long s }) ≡ held_number (take_number s)
  unfolding take_number
  number_is n some h = rw (le-leb 1 (length (digits_of s)) (omega arith), h, e)

-- ---- a number after white space
module _ (s rest : List ℕ) (p : rest ≡ after_blanks s) where
  -- no white space, and some
  pub spaced_none : length rest ≡ length s → refused 41 ≡ held_number (take_spaced s)
  unfolding take_spaced take_blanks
  spaced_none none = rw (le-ltb (length (after_blanks s)) (length s) (omega (arith, ap length p)))

  pub spaced_is : (length rest ≡ length s → ⊥) → take_spaced s ≡ take_number rest
  unfolding take_spaced take_blanks
  spaced_is some = rw (lt-ltb (length (after_blanks s)) (length s) (omega (arith, ap length p, blanks-within s)), p)
