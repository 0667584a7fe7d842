-- The two cases of an outcome: there is no refusal, or there is one. Assumes nothing.
use Prim.Native.Nat.{ℕ, zero, suc, ◌<◌}
use mathlib.Core.Path.{◌≡◌, refl, ◌∙◌}
use native.Mathlib.Omega.{arith}
use Rattle.refusals.specs.declared.Refusal.{Refusal}
use Rattle.refusals.specs.Numbers.{number_of}
use Rattle.refusals.specs.Steps.{is, refused}
use Rattle.refusals.specs.Outcome.{answer_for, after}
use Rattle.refusals.proofs.Numbers.{some}

-- where there is none, what was worked out is answered, and what was made is lent
pub answer-made : {A : Type 0} (made : A) {n : ℕ} → 0 ≡ n → is made ≡ answer_for n made
answer-made made none = rw (← none)

pub after_none : {A : Type 0} (n : ℕ) (made was : A) → n ≡ 0 → after n made was ≡ made
after_none n made was none = rw none

some-refused : {A : Type 0} (n : ℕ) (made : A) → 0 < n → refused n ≡ answer_for n made
some-refused zero made some = absurd (omega arith)
some-refused (suc n) made some = refl

some-left : {A : Type 0} (n : ℕ) (made was : A) → 0 < n → after n made was ≡ was
some-left zero made was some = absurd (omega arith)
some-left (suc n) made was some = refl

-- where there is one, it is answered by its number, and what was there is lent
pub answer-refused : {A : Type 0} (e : Refusal) (made : A) {n : ℕ} → number_of e ≡ n → refused (number_of e) ≡ answer_for n made
answer-refused e made same = some-refused (number_of e) made (some e) ∙ rw same

pub after-refused : {A : Type 0} (e : Refusal) (made was : A) {n : ℕ} → number_of e ≡ n → after n made was ≡ was
after-refused e made was same = rw (← same) (some-left (number_of e) made was (some e))
