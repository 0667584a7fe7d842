-- Tests of pairs, of numbers and of every number below n. Assumes nothing.
use Prim.Native.Nat.{ℕ, zero, suc, ◌<◌, ◌≤◌}
use mathlib.Core.Path.{◌≡◌, refl, sym, ap₂}
use mathlib.Core.Bool.{Bool, true, false, ◌&&◌, ◌||◌, true≢false}
use mathlib.Core.Logic.{◌⊎◌, inl, inr, ⊎_elim}
use native.Mathlib.Nat.{not-suc-le-zero, le_of_suc-le-suc, eq-or-lt_of_le}
use native.Mathlib.Decide.{dec_lt}
use native.Mathlib.Omega.{arith}
use Rattle.lists.specs.Lists.{all_below}

pub lt-or-le : (a b : ℕ) → (a < b) ⊎ (b ≤ a)
lt-or-le a b = elim (dec_lt a b) [ yes l ↦ inl l | no n ↦ inr (omega arith) ]

-- an index below suc n is n, or is below n
pub last_or : {X : Type 0} (j n : ℕ) → j < suc n → (j ≡ n → X) → (j < n → X) → X
last_or j n l f g = ⊎_elim f g (eq-or-lt_of_le (le_of_suc-le-suc l))

pub and_both : (s t : Bool) → s && t ≡ true → (s ≡ true) × (t ≡ true)
and_both true t e = (refl, e)
and_both false t e = absurd (true≢false (sym e))

pub or-false : (s t : Bool) → s || t ≡ false → (s ≡ false) × (t ≡ false)
or-false true t e = absurd (true≢false e)
or-false false t e = (refl, e)

pub all_of : (n : ℕ) (p : ℕ → Bool) → all_below n p ≡ true → (i : ℕ) → i < n → p i ≡ true
unfolding all_below
all_of zero p e i l = absurd (not-suc-le-zero l)
all_of (suc n) p e i l =
    let both = and_both (all_below n p) (p n) e in
    ⊎_elim (λ (h : i ≡ n). rw h both.1) (λ (h : i < n). all_of n p both.0 i h) (eq-or-lt_of_le (le_of_suc-le-suc l))

pub of-all : (n : ℕ) (p : ℕ → Bool) → ((i : ℕ) → i < n → p i ≡ true) → all_below n p ≡ true
unfolding all_below
of-all zero p h = refl
of-all (suc n) p h = rw (of-all n p (λ i l. h i (omega arith)), h n (omega arith))

pub all_same : (n : ℕ) (p q : ℕ → Bool) → ((i : ℕ) → i < n → p i ≡ q i) → all_below n p ≡ all_below n q
unfolding all_below
all_same zero p q h = refl
all_same (suc n) p q h = ap₂ (λ s t. s && t) (all_same n p q (λ i l. h i (omega arith))) (h n (omega arith))
