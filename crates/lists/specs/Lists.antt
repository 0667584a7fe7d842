-- Lists that are made from a rule, tests of the numbers below n, and a walk along a list. Definitions only.
use Rattle.std.specs.Prelude.{ℕ, zero, suc, Bool, true, false, cond, ◌&&◌, ◌||◌, List, [], ◌∷◌, ◌++◌, replicate, drop}

-- f 0, f 1, .., f (n - 1)
unfoldable pub list_of : {A : Type 0} → ℕ → (ℕ → A) → List A
list_of zero f = []
list_of (suc n) f = f 0 ∷ list_of n (λ k. f (suc k))

-- the first n cells are z, the rest are as they were
abbrev pub cleared : {A : Type 0} → A → ℕ → List A → List A
cleared z n cells = replicate n z ++ drop n cells

-- p holds of 0, 1, .., n - 1
unfoldable pub all_below : ℕ → (ℕ → Bool) → Bool
all_below zero p = true
all_below (suc n) p = all_below n p && p n

-- p holds of one of 0, 1, .., n - 1
unfoldable pub some_below : ℕ → (ℕ → Bool) → Bool
some_below zero p = false
some_below (suc n) p = some_below n p || p n

-- the first of 0, 1, .., n - 1 of which p does not hold, and n where it holds of all
unfoldable pub first_not : ℕ → (ℕ → Bool) → ℕ
first_not zero p = 0
first_not (suc n) p = cond (all_below (suc n) p) (suc n) (first_not n p)

-- from the state s, take each element in turn with its index, the first of which is k
unfoldable pub walk : {S A : Type 0} → (S → ℕ → A → S) → ℕ → S → List A → S
walk f k s [] = s
walk f k s (x ∷ xs) = walk f (suc k) (f s k x) xs
