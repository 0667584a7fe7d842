-- A walk along a list that is made from a rule: what a loop over the index needs of it. Assumes nothing.
use Prim.Native.Nat.{ℕ, ◌+◌, ◌<◌, ◌≤◌}
use mathlib.Core.Path.{◌≡◌}
use native.Mathlib.Numerals.{add-one}
use lib.ListN.{length, drop, drop_of_length-le}
use lib.Seq.{drop-cons}
use Rattle.lists.specs.Lists.{list_of, walk}
use Rattle.lists.proofs.Lists.{list_of-length, list_of-at}

module _ {S A : Type 0} (f : S → ℕ → A → S) (n : ℕ) (g : ℕ → A) where
  -- one turn of a loop over the index
  pub walk-next : (k : ℕ) (s : S) → k < n → walk f k s (drop k (list_of n g)) ≡ walk f (k + 1) (f s k (g k)) (drop (k + 1) (list_of n g))
  unfolding walk
  walk-next k s h =
      let inside : k < length (list_of n g) = rw list_of-length h in
      rw (add-one, drop-cons (list_of n g) k (g k), list_of-at)

  -- the loop's end
  pub walk_end : (k : ℕ) (s : S) → n ≤ k → walk f k s (drop k (list_of n g)) ≡ s
  unfolding walk
  walk_end k s h =
      let past : length (list_of n g) ≤ k = rw list_of-length h in
      rw drop_of_length-le
