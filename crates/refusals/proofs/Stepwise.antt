-- What a run of steps that was not refused says of each step. Assumes nothing.
use Prim.Native.Nat.{ℕ}
use mathlib.Core.Path.{◌≡◌, refl, sym, ◌∙◌}
use mathlib.Core.Bool.{Bool, true, false}
use mathlib.Core.List.{List}
use native.Mathlib.Omega.{arith}
use Rattle.refusals.specs.Steps.{Or, is, refused, and_then, given, NotRefused}

-- a result is no refusal
pub not-refused : {A B : Type 0} {a : A} {n : ℕ} → is a ≡ refused n → B
not-refused e = let z : ◌≡◌ {A = ℕ} 0 1 = cc in absurd (omega arith)

pub same-result : {A : Type 0} {a b : A} → is a ≡ is b → a ≡ b
same-result e = cc

pub same-refusal : {A : Type 0} {m n : ℕ} → ◌≡◌ {A = Or A} (refused m) (refused n) → m ≡ n
same-refusal e = cc

-- the same of a list that is there
pub list-not-refused : {A B : Type 0} {n : ℕ} (list : Or (List A)) → list ≡ refused n → NotRefused list → B
list-not-refused list e a = not-refused (sym a ∙ e)

-- both steps had a result
pub then_is : {A B : Type 0} (o : Or A) (next : A → Or B) (b : B) → and_then o next ≡ is b → (a : A) × (o ≡ is a) × (next a ≡ is b)
then_is (is a) next b e = (a, refl, e)
then_is (refused n) next b e = not-refused (sym e)

-- the test held
pub given_is : {A : Type 0} (test : Bool) (n : ℕ) (a b : A) → given test n a ≡ is b → (test ≡ true) × (a ≡ b)
given_is true n a b e = (refl, same-result e)
given_is false n a b e = not-refused (sym e)

-- a test that held, and the next step
pub given-then : {A B : Type 0} (test : Bool) (n : ℕ) (a : A) (next : A → Or B) (b : B) → and_then (given test n a) next ≡ is b → (test ≡ true) × (next a ≡ is b)
given-then true n a next b e = (refl, e)
given-then false n a next b e = not-refused (sym e)
