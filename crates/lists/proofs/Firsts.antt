-- The first number of which a test does not hold, and a test that holds of some. Assumes nothing.
use Prim.Native.Nat.{ℕ, zero, suc, ◌<◌, ◌≤◌}
use mathlib.Core.Path.{◌≡◌, refl, sym, ◌∙◌, subst}
use mathlib.Core.Bool.{Bool, true, false, cond, ◌&&◌, ◌||◌, true≢false}
use mathlib.Core.Logic.{◌⊎◌, inl, inr, ⊎_elim}
use native.Mathlib.Nat.{not-suc-le-zero}
use native.Mathlib.Omega.{arith}
use borrow.Author.Tests.{eq-eqb, ne_eqb}
use lib.Dec.{eqb}
use Rattle.lists.specs.Lists.{all_below, some_below, first_not}
use Rattle.lists.proofs.Tests.{last_or, all_of, of-all}

-- ---- the first of which p does not hold

-- p holds of all, or there is one below n of which it does not, while it holds of those before
pub record Fails (n : ℕ) (p : ℕ → Bool) (i : ℕ) : Type 0 where
  pub inside : i < n
  pub fails : p i ≡ false
  pub before : (j : ℕ) → j < i → p j ≡ true

pub first-none : (n : ℕ) (p : ℕ → Bool) → ((j : ℕ) → j < n → p j ≡ true) → first_not n p ≡ n
unfolding first_not
first-none zero p h = refl
first-none (suc n) p h = rw (of-all (suc n) p h)

pub first-here : (n i : ℕ) (p : ℕ → Bool) → i < n → ((j : ℕ) → j < i → p j ≡ true) → p i ≡ false → first_not n p ≡ i
unfolding first_not
first-here zero i p l h e = absurd (not-suc-le-zero l)
first-here (suc n) i p l h e =
    rw (not-all (all_below (suc n) p) refl)
    (last_or i n l (λ (q : i ≡ n). first-none n p (λ j lj. h j (omega arith)) ∙ sym q) (λ (k : i < n). first-here n i p k h e))
  where
    not-all : (t : Bool) → all_below (suc n) p ≡ t → all_below (suc n) p ≡ false
    not-all true q = absurd (true≢false (sym (all_of (suc n) p q i l) ∙ e))
    not-all false q = q

-- one or the other
pub first-or : (n : ℕ) (p : ℕ → Bool) → ((j : ℕ) → j < n → p j ≡ true) ⊎ Fails n p (first_not n p)
unfolding first_not
first-or zero p = inl (λ j l. absurd (not-suc-le-zero l))
first-or (suc n) p = go (all_below (suc n) p) refl (first-or n p)
  where
    go : (t : Bool) → all_below (suc n) p ≡ t → ((j : ℕ) → j < n → p j ≡ true) ⊎ Fails n p (first_not n p)
        → ((j : ℕ) → j < suc n → p j ≡ true) ⊎ Fails (suc n) p (cond t (suc n) (first_not n p))
    go true e below = inl (all_of (suc n) p e)
    go false e below = inr (⊎_elim all-before (λ (f : Fails n p (first_not n p)). record { inside = omega (arith, f.inside); fails = f.fails; before = f.before }) below)
      where
        last : ((j : ℕ) → j < n → p j ≡ true) → (t : Bool) → p n ≡ t → p n ≡ false
        last h true q = absurd (true≢false (sym (of-all (suc n) p (λ j l. last_or j n l (λ (i : j ≡ n). rw i q) (h j))) ∙ e))
        last h false q = q

        all-before : ((j : ℕ) → j < n → p j ≡ true) → Fails (suc n) p (first_not n p)
        all-before h = rw (first-none n p h) (record { inside = omega arith; fails = last h (p n) refl; before = h })

pub first-most : (n : ℕ) (p : ℕ → Bool) → first_not n p ≤ n
first-most n p = ⊎_elim (λ (h : (j : ℕ) → j < n → p j ≡ true). omega (arith, first-none n p h)) (λ (f : Fails n p (first_not n p)). omega (arith, f.inside)) (first-or n p)

-- p holds of all where the first is n
pub all_first : (n : ℕ) (p : ℕ → Bool) → all_below n p ≡ eqb (first_not n p) n
all_first n p =
    ⊎_elim (λ (h : (j : ℕ) → j < n → p j ≡ true). of-all n p h ∙ sym (eq-eqb (first_not n p) n (first-none n p h)))
    (λ (f : Fails n p (first_not n p)). some-fails f (all_below n p) refl ∙ sym (ne_eqb (first_not n p) n (λ e. omega (arith, f.inside))))
    (first-or n p)
  where
    some-fails : Fails n p (first_not n p) → (t : Bool) → all_below n p ≡ t → all_below n p ≡ false
    some-fails f true e = absurd (true≢false (sym (all_of n p e (first_not n p) f.inside) ∙ f.fails))
    some-fails f false e = e

-- the first for two tests, one after the other
pub first-both : (n : ℕ) (p q : ℕ → Bool) → first_not (first_not n p) q ≡ first_not n (λ j. p j && q j)
first-both n p q = ⊎_elim all-p (λ (f : Fails n p (first_not n p)). some-p f) (first-or n p)
  where
    and-true : (j : ℕ) → p j ≡ true → q j ≡ true → p j && q j ≡ true
    and-true j e f = rw (e, f)

    and_right : (j : ℕ) → p j ≡ true → q j ≡ false → p j && q j ≡ false
    and_right j e f = rw (e, f)

    and_left : (j : ℕ) → p j ≡ false → p j && q j ≡ false
    and_left j e = rw e

    by-q : (m : ℕ) → m ≤ n → ((j : ℕ) → j < m → p j ≡ true) → Fails m q (first_not m q) → first_not m q ≡ first_not n (λ j. p j && q j)
    by-q m l h f =
        sym (first-here n (first_not m q) (λ j. p j && q j) (omega (arith, f.inside))
        (λ j lj. and-true j (h j (omega (arith, f.inside))) (f.before j lj)) (and_right (first_not m q) (h (first_not m q) f.inside) f.fails))

    all-p : ((j : ℕ) → j < n → p j ≡ true) → first_not (first_not n p) q ≡ first_not n (λ j. p j && q j)
    all-p h =
        rw (first-none n p h)
        (⊎_elim (λ (k : (j : ℕ) → j < n → q j ≡ true). first-none n q k ∙ sym (first-none n (λ j. p j && q j) (λ j l. and-true j (h j l) (k j l))))
        (by-q n (omega arith) h) (first-or n q))

    some-p : Fails n p (first_not n p) → first_not (first_not n p) q ≡ first_not n (λ j. p j && q j)
    some-p f =
        ⊎_elim (λ (k : (j : ℕ) → j < first_not n p → q j ≡ true).
        first-none (first_not n p) q k
        ∙ sym (first-here n (first_not n p) (λ j. p j && q j) f.inside (λ j l. and-true j (f.before j l) (k j l)) (and_left (first_not n p) f.fails)))
        (by-q (first_not n p) (omega (arith, f.inside)) f.before) (first-or (first_not n p) q)

-- of two tests that are the same below n
pub first-same : (n : ℕ) (p q : ℕ → Bool) → ((j : ℕ) → j < n → p j ≡ q j) → first_not n p ≡ first_not n q
first-same n p q h =
    ⊎_elim (λ (k : (j : ℕ) → j < n → q j ≡ true). first-none n p (λ j l. h j l ∙ k j l) ∙ sym (first-none n q k))
    (λ (f : Fails n q (first_not n q)). first-here n (first_not n q) p f.inside (λ j l. h j (omega (arith, f.inside)) ∙ f.before j l) (h (first_not n q) f.inside ∙ f.fails))
    (first-or n q)

-- ---- a test that holds of some

pub some-here : (n i : ℕ) (p : ℕ → Bool) → i < n → p i ≡ true → some_below n p ≡ true
unfolding some_below
some-here zero i p l e = absurd (not-suc-le-zero l)
some-here (suc n) i p l e = last_or i n l (λ (q : i ≡ n). or_right (some_below n p) (p n) (subst (λ k. p k ≡ true) q e)) (λ (k : i < n). rw (some-here n i p k e))
  where
    or_right : (s t : Bool) → t ≡ true → s || t ≡ true
    or_right true t e = refl
    or_right false t e = e

pub some-none : (n : ℕ) (p : ℕ → Bool) → ((j : ℕ) → j < n → p j ≡ false) → some_below n p ≡ false
unfolding some_below
some-none zero p h = refl
some-none (suc n) p h = rw (some-none n p (λ j l. h j (omega arith)), h n (omega arith))

-- a number of which it holds
pub record Some (n : ℕ) (p : ℕ → Bool) : Type 0 where
  pub i : ℕ
  pub inside : i < n
  pub holds : p i ≡ true

-- where it holds of some there is one
pub some_of : (n : ℕ) (p : ℕ → Bool) → some_below n p ≡ true → Some n p
unfolding some_below
some_of zero p e = absurd (true≢false (sym e))
some_of (suc n) p e = go (p n) refl (some_of n p)
  where
    or_left : (s t : Bool) → s || t ≡ true → t ≡ false → s ≡ true
    or_left true t e f = refl
    or_left false t e f = absurd (true≢false (sym e ∙ f))

    go : (t : Bool) → p n ≡ t → (some_below n p ≡ true → Some n p) → Some (suc n) p
    go true h below = record { i = n; inside = omega arith; holds = h }
    go false h below =
        let s = below (or_left (some_below n p) (p n) e h) in
        record { i = s.i; inside = omega (arith, s.inside); holds = s.holds }
