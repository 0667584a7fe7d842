-- A kind is made of its number. Assumes nothing.
use Rattle.std.proofs.Common.{◌≡◌, ℕ, zero, suc, refl, arith}
use Rattle.sheets.specs.Code.{kind_of}
use Rattle.refusals.specs.Steps.{refused}
use Rattle.sheets.proofs.code.KindTryFromU64.try_from.Goals as goal

no_kind : (n : ℕ) → (n ≡ 0 → ⊥) → (n ≡ 1 → ⊥) → kind_of n ≡ refused 35
unfolding kind_of
no_kind zero a b = absurd (a refl)
no_kind (suc zero) a b = absurd (b refl)
no_kind (suc (suc n)) a b = refl

pub returns-in-0 : goal.returns-in-0
unfolding kind_of
returns-in-0 c = rw c.in-0.is

pub returns-in-1 : goal.returns-in-1
unfolding kind_of
returns-in-1 c = rw c.in-1.is

pub returns-in_default : goal.returns-in_default
returns-in_default c = grind (arith, no_kind)
