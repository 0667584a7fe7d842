-- What a call answers and leaves, from the number of its refusal, 0 for none. Definitions only.
use Rattle.std.specs.Prelude.{ℕ, zero, suc}
use Rattle.refusals.specs.Steps.{Or, is, refused}

-- the answer: what was worked out, or the refusal by its number
abbrev pub answer_for : {A : Type 0} → ℕ → A → Or A
answer_for zero made = is made
answer_for (suc n) made = refused (suc n)

-- what is lent afterwards: what was made, and after a refusal what was there
abbrev pub after : {A : Type 0} → ℕ → A → A → A
after zero made was = made
after (suc n) made was = was
