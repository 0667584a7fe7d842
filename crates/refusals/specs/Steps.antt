-- Steps one after another, each of which has a result or is refused. Definitions only.
use Rattle.std.specs.Prelude.{ℕ, ◌≡◌, Bool, cond, List, []}

-- a result, or the number of the refusal
pub data Or (A : Type 0) : Type 0 where
  is : A → Or A
  refused : ℕ → Or A

-- a step, and then another from its result; the first refusal stays
abbrev pub and_then : {A B : Type 0} → Or A → (A → Or B) → Or B
and_then (is a) next = next a
and_then (refused n) next = refused n

-- a result where the test holds, else the refusal n
abbrev pub given : {A : Type 0} → Bool → ℕ → A → Or A
given test n a = cond test (is a) (refused n)

-- a list, empty where it is refused
abbrev pub list_in : {A : Type 0} → Or (List A) → List A
list_in (is list) = list
list_in (refused n) = []

-- a list that is there
abbrev pub NotRefused : {A : Type 0} → Or (List A) → Type 0
NotRefused list = list ≡ is (list_in list)

-- a number that was taken from the front of some bytes, and the bytes after it
pub record Taken : Type 0 where
  pub number : ℕ
  pub rest : List ℕ
