-- What a call gives back: a result, or the number of the refusal. Definitions only.
use Rattle.std.specs.Prelude.{ℕ, Result, Ok, Err}
use Rattle.refusals.specs.declared.Refusal.{Refusal}
use Rattle.refusals.specs.Numbers.{number_of}
use Rattle.refusals.specs.Steps.{Or, is, refused}

-- of an answer: its result, or the number of its refusal
abbrev pub given_back : {A : Type 0} → Result A Refusal → Or A
given_back (Ok a) = is a
given_back (Err e) = refused (number_of e)

-- the number given back: 0 for a result
abbrev pub number_back : {A : Type 0} → Or A → ℕ
number_back (is a) = 0
number_back (refused n) = n

-- the same of an answer
abbrev pub number_in : {A : Type 0} → Result A Refusal → ℕ
number_in answer = number_back (given_back answer)

-- a lent value afterwards: the result; a refusal leaves it as it was
abbrev pub value_after : {A : Type 0} → Or A → A → A
value_after (is a) was = a
value_after (refused n) was = was
