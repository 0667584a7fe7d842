-- Numbers as digits, written and read. Definitions only.
use Rattle.std.specs.Prelude.{ℕ, zero, suc, ◌+◌, ◌-◌, ◌*◌, ◌/◌, ◌%◌, ◌≤◌, ◌≡◌, Bool, true, cond, ◌&&◌, List, [], ◌∷◌, ◌++◌, length, leb, ltb}

-- the byte of a digit below 16: 0 to 9, then A to F
abbrev pub digit_byte : ℕ → ℕ
digit_byte d = cond (ltb d 10) (48 + d) (55 + d)

-- the last k digits of n in base b, the most significant first
abbrev pub digits : ℕ → ℕ → ℕ → List ℕ
digits b zero n = []
digits b (suc k) n = digits b k (n / b) ++ (digit_byte (n % b) ∷ [])

-- how many decimal digits a number below ten thousand takes
abbrev pub places_of : ℕ → ℕ
places_of n = cond (ltb n 10) 1 (cond (ltb n 100) 2 (cond (ltb n 1000) 3 4))

-- a number below ten thousand in decimal, without zeros in front
unfoldable pub decimal_text : ℕ → List ℕ
decimal_text n = digits 10 (places_of n) n

-- a byte that is a decimal digit: 0 to 9
abbrev pub is_digit : ℕ → Bool
is_digit b = leb 48 b && leb b 57

-- every byte of a word is a digit
abbrev pub all_digits : List ℕ → Bool
all_digits [] = true
all_digits (b ∷ w) = is_digit b && all_digits w

-- the number that digits write in decimal, after digits that wrote n
abbrev pub decimal_from : ℕ → List ℕ → ℕ
decimal_from n [] = n
decimal_from n (b ∷ w) = decimal_from (n * 10 + (b - 48)) w

-- a number in ASCII decimal: one digit or more, zeros in front too
pub record Numeral (word : List ℕ) (n : ℕ) : Type 0 where
  pub digit : all_digits word ≡ true
  pub some : 1 ≤ length word
  pub value : decimal_from 0 word ≡ n
