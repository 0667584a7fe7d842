-- The parts of a header, over bytes: each is taken from the front, and leaves the bytes after it. What is not there is refused with 41
-- (docs/SPECIFICATION.md, "PGM", "PFM"). Definitions only.
use Rattle.std.specs.Prelude.{ℕ, Bool, true, false, cond, ◌&&◌, ◌||◌, List, [], ◌∷◌, length, drop, leb, ltb, eqb}
use Rattle.refusals.specs.Steps.{Or, is, refused, and_then, given, Taken}
use Rattle.texts.specs.Digits.{is_digit, decimal_from}

-- ---- characters that stand as they are

-- whether some bytes begin with a word
unfoldable pub starts_with : List ℕ → List ℕ → Bool
starts_with [] s = true
starts_with (c ∷ word) [] = false
starts_with (c ∷ word) (b ∷ s) = eqb b c && starts_with word s

-- a word
unfoldable pub take_word : List ℕ → List ℕ → Or (List ℕ)
take_word word s = given (starts_with word s) 41 (drop (length word) s)

-- ---- white space and comments

-- a white-space character: space, TAB, LF, VT, FF or CR
abbrev pub is_white : ℕ → Bool
is_white b = eqb b 32 || (leb 9 b && leb b 13)

-- a single white-space character
unfoldable pub take_white : List ℕ → Or (List ℕ)
take_white [] = refused 41
take_white (b ∷ s) = given (is_white b) 41 s

-- LF and CR, either of which ends a comment
abbrev pub ends_line : ℕ → Bool
ends_line b = eqb b 10 || eqb b 13

unfoldable mutual
  -- what follows white space and comments; a comment begins with # (35)
  pub after_blanks : List ℕ → List ℕ
  after_blanks [] = []
  after_blanks (b ∷ s) = cond (is_white b) (after_blanks s) (cond (eqb b 35) (after_comment s) (b ∷ s))

  -- the same once a comment has begun
  pub after_comment : List ℕ → List ℕ
  after_comment [] = []
  after_comment (b ∷ s) = cond (ends_line b) (after_blanks s) (after_comment s)

-- white space and comments, at least one byte of them
unfoldable pub take_blanks : List ℕ → Or (List ℕ)
take_blanks s = given (ltb (length (after_blanks s)) (length s)) 41 (after_blanks s)

-- ---- numbers

-- the decimal digits at the front
unfoldable pub digits_of : List ℕ → List ℕ
digits_of [] = []
digits_of (b ∷ s) = cond (is_digit b) (b ∷ digits_of s) []

-- a number in ASCII decimal: one digit or more
unfoldable pub take_number : List ℕ → Or Taken
take_number s = given (leb 1 (length (digits_of s))) 41 (record { number = decimal_from 0 (digits_of s); rest = drop (length (digits_of s)) s })

-- a number with white space before it
unfoldable pub take_spaced : List ℕ → Or Taken
take_spaced s = and_then (take_blanks s) take_number

-- a number and the word that ends it
unfoldable pub take_ended : List ℕ → List ℕ → Or Taken
take_ended stop s = and_then (take_number s) (λ t. and_then (take_word stop t.rest) (λ rest. is (record { number = t.number; rest = rest })))
