-- What a call that writes bytes answers, and what it leaves in the lent output. A refusal changes nothing. Definitions only.
use Rattle.std.specs.Prelude.{ℕ, ◌≡◌, Result, List, [], ◌∷◌, ◌++◌, length, drop, leb, ltb}
use Rattle.refusals.specs.declared.Refusal.{Refusal}
use Rattle.refusals.specs.Answered.{Row, row}
use Rattle.refusals.specs.Outcome.{after}
use Rattle.refusals.specs.Steps.{Or, is, refused, and_then, given, list_in}
use Rattle.refusals.specs.Given.{given_back, number_back}

-- a text for an output of m bytes: refused with n where that is too short
abbrev pub room_for : ℕ → ℕ → Or (List ℕ) → Or (List ℕ)
room_for n m text = and_then text (λ bytes. given (leb (length bytes) m) n bytes)

-- the rows of a call that writes: those of the text, and then n where an output of m bytes is too short for it
abbrev pub write_rows : List Row → ℕ → ℕ → Or (List ℕ) → List Row
write_rows rows n m text = rows ++ row n (ltb m (length (list_in text))) ∷ []

-- the answer: the byte count
abbrev pub byte_count : Or (List ℕ) → Or ℕ
byte_count (is bytes) = is (length bytes)
byte_count (refused n) = refused n

-- the output afterwards: the bytes, and beyond them what was there
abbrev pub out_after : Or (List ℕ) → List ℕ → List ℕ
out_after text out = after (number_back text) (list_in text ++ drop (length (list_in text)) out) out

-- what a writer does with a text or its refusal, where n refuses an output that is too short
pub record WriteOutcome (n : ℕ) (answer : Result ℕ Refusal) (text : Or (List ℕ)) (out out' : List ℕ) : Type 0 where
  pub answers : given_back answer ≡ byte_count (room_for n (length out) text)
  pub outs : out' ≡ out_after (room_for n (length out) text) out
