-- A number as bytes: groups of seven bits, low group first, the high bit (128) set on all but the last group; shortest form only
-- (docs/SPECIFICATION.md, "Sheets"). Definitions only.
use Rattle.std.specs.Prelude.{ℕ, zero, suc, ◌+◌, ◌-◌, ◌*◌, ◌/◌, ◌%◌, ◌<◌, cond, List, [], ◌∷◌, nat_lt}
use Rattle.refusals.specs.Steps.{Or, is, refused, Taken}

-- a number's bytes where `more` groups may follow the first
unfoldable pub groups : ℕ → ℕ → List ℕ
groups zero n = n ∷ []
groups (suc more) n = cond (nat_lt n 128) (n ∷ []) ((128 + n % 128) ∷ groups more (n / 128))

-- a number's bytes: at most five groups, which hold every number below 2^35
unfoldable pub number_bytes : ℕ → List ℕ
unfolding groups
number_bytes n = groups 4 n

-- a low group, and what was read after it: 34 where that is no number, or a last group of 0, which the shortest form does not have
abbrev pub above : ℕ → Or Taken → Or Taken
above low (refused n) = refused n
above low (is t) = cond (nat_lt 0 t.number) (is (record { number = low + 128 * t.number; rest = t.rest })) (refused 34)

-- the number at the front of some bytes where `more` groups may follow the first: 34 where it is cut, not shortest, or has more groups
unfoldable pub take_groups : ℕ → List ℕ → Or Taken
take_groups zero [] = refused 34
take_groups (suc more) [] = refused 34
take_groups zero (b ∷ s) = cond (nat_lt b 128) (is (record { number = b; rest = s })) (refused 34)
take_groups (suc more) (b ∷ s) = cond (nat_lt b 128) (is (record { number = b; rest = s })) (above (b - 128) (take_groups more s))

-- the number at the front: at most five groups
unfoldable pub take_number : List ℕ → Or Taken
unfolding take_groups
take_number s = take_groups 4 s

-- every element is a byte
abbrev pub AllBytes : List ℕ → Type 0
AllBytes [] = Unit {0}
AllBytes (b ∷ s) = (b < 256) × AllBytes s
