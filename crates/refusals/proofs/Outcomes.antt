-- A statement that says what an answer is, and what is lent afterwards, allows one outcome. Assumes nothing.
use Prim.Native.Nat.{ℕ, zero, suc}
use mathlib.Core.Path.{◌≡◌, refl, sym, ap, ◌∙◌}
use Rattle.std.specs.Prelude.{Result}
use Rattle.refusals.specs.declared.Refusal.{Refusal}
use Rattle.refusals.specs.Steps.{Or}
use Rattle.refusals.specs.Given.{given_back, number_back}
use Rattle.refusals.specs.Outcome.{answer_for, after}
use Rattle.refusals.proofs.Numbers.{known_by}

-- two answers, or two lent values, that are both what a definition says
pub same_outcome : {A : Type 0} {d r r' : A} → r ≡ d → r' ≡ d → r ≡ r'
same_outcome e e' = e ∙ sym e'

-- two answers that both give back what a definition says
pub same_answer : {A : Type 0} {d : Or A} {r r' : Result A Refusal} → given_back r ≡ d → given_back r' ≡ d → r ≡ r'
same_answer {r} {r'} e e' = known_by r r' (same_outcome e e')

-- and what they give back: the number and the values
pub same-given : {A : Type 0} {d : Or A} {r r' : Result A Refusal} → given_back r ≡ d → given_back r' ≡ d → (r ≡ r') × (given_back r ≡ given_back r')
same-given e e' = (same_answer e e', same_outcome e e')

-- what is lent, after two calls that answer one number
pub same_after : {A : Type 0} (made was : A) {a b : A} {n m : ℕ} → n ≡ m → a ≡ after n made was → b ≡ after m made was → a ≡ b
same_after made was e x y = x ∙ ap (λ k. after k made was) e ∙ sym y

-- the number that is given back is the refusal's, and 0 of what was worked out
pub answer-number : {A : Type 0} (made : A) (n : ℕ) → number_back (answer_for n made) ≡ n
answer-number made zero = refl
answer-number made (suc n) = refl
