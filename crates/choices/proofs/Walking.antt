-- What every step of a walk keeps, for one element more, holds of the whole list at its end. Assumes nothing.
use Rattle.std.proofs.Common.{ℕ, suc, ◌+◌, ◌<◌, List, [], ◌∷◌, length, get_or, add-zero, add-suc, suc-add, zero-add, arith}
use Rattle.lists.specs.Lists.{walk}

module _ {S A : Type 0} (f : S → ℕ → A → S) (Kept : ℕ → S → Type 0) (d : A) where
  from : (k : ℕ) (xs : List A) (s : S) → ((i : ℕ) (s : S) → i < length xs → Kept (k + i) s → Kept (suc (k + i)) (f s (k + i) (get_or xs i d)))
      → Kept k s → Kept (k + length xs) (walk f k s xs)
  unfolding walk
  from k [] s step h = rw add-zero h
  from k (x ∷ xs) s step h =
      rw add-suc
      (rw suc-add at
      (from (suc k) xs (f s k x) (λ i s l. rw suc-add (rw add-suc at (step (suc i) s (omega arith)))) (rw add-zero at (step 0 s (omega arith) (rw add-zero h)))))

  pub walk-keeps : (xs : List A) (s : S) → ((k : ℕ) (s : S) → k < length xs → Kept k s → Kept (suc k) (f s k (get_or xs k d)))
      → Kept 0 s → Kept (length xs) (walk f 0 s xs)
  walk-keeps xs s step h = rw zero-add at (from 0 xs s (λ i s l. rw zero-add (step i s l)) h)
