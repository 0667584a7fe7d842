-- A rule of a table, proved at all of its entries by one test that antt computes. Assumes nothing.
use Rattle.std.proofs.Common.{ℕ, zero, suc, ◌+◌, ◌<◌, Bool, true, ◌&&◌, T, List, [], ◌∷◌, length, get_or, sym, ◌∙◌, subst, le_of_suc-le-suc, not-suc-le-zero, add-zero, add-suc, suc-add}
use lib.Ieee.Fits.{and_l, and_r}

-- the test f passes at each entry of the list and its number, the entries being numbered from i on
abbrev pub every : (ℕ → ℕ → Bool) → ℕ → List ℕ → Bool
every f i [] = true
every f i (x ∷ xs) = f i x && every f (suc i) xs

-- where it passes at each, it passes at the one that is read
pub at : (f : ℕ → ℕ → Bool) (i : ℕ) (xs : List ℕ) → T (every f i xs) → (k : ℕ) → k < length xs → T (f (i + k) (get_or xs k 0))
at f i [] t k h = absurd (not-suc-le-zero h)
at f i (x ∷ xs) t zero h = subst (λ (m : ℕ). T (f m x)) (sym (add-zero i)) (and_l (f i x) (every f (suc i) xs) t)
at f i (x ∷ xs) t (suc k) h =
    subst (λ (m : ℕ). T (f m (get_or xs k 0))) (suc-add i k ∙ sym (add-suc i k))
    (at f (suc i) xs (and_r (f i x) (every f (suc i) xs) t) k (le_of_suc-le-suc h))
