-- Laws of sums and of counts. Assumes nothing.
use Prim.Native.Nat.{ℕ, zero, suc, ◌+◌, ◌*◌, ◌≤◌, ◌<◌, zero-le}
use mathlib.Core.Path.{◌≡◌, refl, sym, ap, ap₂, ◌∙◌}
use mathlib.Core.Bool.{Bool, true, false, ◌&&◌, cond}
use mathlib.Core.Logic.{⊎_elim}
use native.Mathlib.Nat.{add-zero, add-suc, eq-or-lt_of_le, le_of_suc-le-suc, add-le-add, mul-zero, zero-mul, mul-add, suc-mul}
use native.Mathlib.Omega.{arith}
use Rattle.lists.specs.Sums.{sum_to, count_below}
use Rattle.lists.proofs.Tests.{last_or}

pub sum_to-same : (n : ℕ) (f g : ℕ → ℕ) → ((i : ℕ) → i < n → f i ≡ g i) → sum_to n f ≡ sum_to n g
unfolding sum_to
sum_to-same zero f g h = refl
sum_to-same (suc n) f g h = ap₂ (λ s v. s + v) (sum_to-same n f g (λ i l. h i (omega arith))) (h n (omega arith))

pub sum_to-plus : (n : ℕ) (f g : ℕ → ℕ) → sum_to n (λ i. f i + g i) ≡ sum_to n f + sum_to n g
unfolding sum_to
sum_to-plus zero f g = refl
sum_to-plus (suc n) f g = let e = sum_to-plus n f g in omega arith

pub sum_to-scale : (n c : ℕ) (f : ℕ → ℕ) → sum_to n (λ i. c * f i) ≡ c * sum_to n f
unfolding sum_to
sum_to-scale zero c f = sym (mul-zero c)
sum_to-scale (suc n) c f = let e = sum_to-scale n c f in omega (arith, mul-add c (sum_to n f) (f n))

pub sum_to-const : (n c : ℕ) → sum_to n (λ _. c) ≡ n * c
unfolding sum_to
sum_to-const zero c = sym (zero-mul c)
sum_to-const (suc n) c = let e = sum_to-const n c in omega (arith, suc-mul n c)

-- a value is at most the sum
pub sum_to-member : (n : ℕ) (f : ℕ → ℕ) (i : ℕ) → i < n → f i ≤ sum_to n f
unfolding sum_to
sum_to-member zero f i h = absurd (omega arith)
sum_to-member (suc n) f i h =
    ⊎_elim
    (λ (e : i ≡ n). rw e (omega arith))
    (λ (l : i < n). omega (arith, sum_to-member n f i l))
    (eq-or-lt_of_le (le_of_suc-le-suc h))

pub sum_to-split : (n m : ℕ) (f : ℕ → ℕ) → sum_to (n + m) f ≡ sum_to n f + sum_to m (λ i. f (n + i))
unfolding sum_to
sum_to-split n zero f = rw (add-zero n) (sym (add-zero _))
sum_to-split n (suc m) f = let e = sum_to-split n m f in rw (add-suc n m) (omega arith)

-- a sum of n values of at most m is at most n * m
pub sum_to-bound : (m n : ℕ) (f : ℕ → ℕ) → ((i : ℕ) → i < n → f i ≤ m) → sum_to n f ≤ n * m
unfolding sum_to
sum_to-bound m zero f h = zero-le
sum_to-bound m (suc n) f h = rw suc-mul (add-le-add (sum_to-bound m n f (λ i l. h i (omega arith))) (h n (omega arith)))

-- greater values have a greater sum
pub sum_to-mono : (n : ℕ) (f g : ℕ → ℕ) → ((i : ℕ) → i < n → f i ≤ g i) → sum_to n f ≤ sum_to n g
unfolding sum_to
sum_to-mono zero f g h = zero-le
sum_to-mono (suc n) f g h = add-le-add (sum_to-mono n f g (λ i l. h i (omega arith))) (h n (omega arith))

-- nothing added to nothing
pub sum_to-none : (n : ℕ) (f : ℕ → ℕ) → ((i : ℕ) → i < n → f i ≡ 0) → sum_to n f ≡ 0
sum_to-none n f h = sum_to-same n f (λ _. 0) h ∙ sum_to-const n 0 ∙ mul-zero n

-- the first value, and then the rest
pub sum_to-first : (n : ℕ) (f : ℕ → ℕ) → sum_to (suc n) f ≡ f 0 + sum_to n (λ i. f (suc i))
unfolding sum_to
sum_to-first zero f = omega arith
sum_to-first (suc n) f = omega (arith, sum_to-first n f)

-- h rows of w values each, row by row
pub sum_to-rows : (w h : ℕ) (f : ℕ → ℕ) → sum_to (h * w) f ≡ sum_to h (λ y. sum_to w (λ x. f (y * w + x)))
unfolding sum_to
sum_to-rows w zero f = rw zero-mul
sum_to-rows w (suc h) f = rw suc-mul (sum_to-split (h * w) w f ∙ ap (λ s. s + sum_to w (λ x. f (h * w + x))) (sum_to-rows w h f))

-- ---- counts

-- what a test adds to a count
abbrev adds : Bool → ℕ
adds t = cond t 1 0

-- a second test asked too adds no more
one-of-both : (s t : Bool) → adds (s && t) ≤ adds s
one-of-both true true = omega arith
one-of-both true false = omega arith
one-of-both false t = omega arith

module _ (p q : ℕ → Bool) where
  -- no more numbers meet both tests than the first
  pub count-both : (n : ℕ) → count_below n (λ k. p k && q k) ≤ count_below n p
  unfolding count_below
  count-both n = sum_to-mono n _ _ (λ k _. one-of-both (p k) (q k))

  -- as many, where each that meets the first meets the second
  pub count-all : (n : ℕ) → ((k : ℕ) → k < n → p k ≡ true → q k ≡ true) → count_below n (λ k. p k && q k) ≡ count_below n p
  unfolding count_below
  count-all n h = sum_to-same n _ _ (λ k l. same (p k) (q k) (h k l))
    where
      same : (s t : Bool) → (s ≡ true → t ≡ true) → adds (s && t) ≡ adds s
      same true t h = rw (h refl)
      same false t h = refl

  -- and only there
  pub all-by-count : (n : ℕ) → count_below n (λ k. p k && q k) ≡ count_below n p → (k : ℕ) → k < n → p k ≡ true → q k ≡ true
  unfolding count_below sum_to
  all-by-count zero e k l h = absurd (omega arith)
  all-by-count (suc n) e k l h =
      let before = count-both n in
      let last = one-of-both (p n) (q n) in
      last_or k n l
      (λ (at : k ≡ n). rw at (both (p n) (q n) (omega arith) (rw at at h)))
      (λ (under : k < n). all-by-count n (omega arith) k under h)
    where
      both : (s t : Bool) → adds (s && t) ≡ adds s → s ≡ true → t ≡ true
      both s true e h = refl
      both s false e h = absurd (omega (arith, rw h at e))
