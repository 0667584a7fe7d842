-- A row of a table filled part by part. Assumes nothing.
use Prim.Native.Nat.{ℕ, ◌+◌, ◌*◌, ◌≤◌, ◌<◌}
use mathlib.Core.Path.{◌≡◌, ap, ap₂, ◌∙◌}
use mathlib.Core.List.{List, ◌++◌}
use native.Mathlib.Nat.{mul-le-mul}
use native.Mathlib.Numerals.{add-one}
use lib.ListN.{length, get_or, drop, set}
use Rattle.lists.proofs.Lists.{filled_next, filled-end}
use Rattle.lists.specs.Lists.{list_of}
use Rattle.lists.specs.Sums.{sum_to}
use Rattle.windows.specs.Parts.{product_in, sums_below}
use Rattle.lists.proofs.Sums.{sum_to-bound}

-- ---- the sum over a part
module _ (a b : List ℕ) (la : (i : ℕ) → get_or a i 0 ≤ 255) (lb : (i : ℕ) → get_or b i 0 ≤ 255) (i : ℕ) where
  pub products-most : sum_to i (product_in a b) ≤ i * 65025
  products-most = sum_to-bound 65025 i (product_in a b) (λ k _. mul-le-mul (la k) (lb k))

  pub product-most : product_in a b i ≤ 65025
  product-most = mul-le-mul (la i) (lb i)

pub sum-next : (f : ℕ → ℕ) (i run v : ℕ) → run ≡ sum_to i f → v ≡ f i → run + v ≡ sum_to (i + 1) f
unfolding sum_to
sum-next f i run v er ev = rw add-one (ap₂ (λ a b. a + b) er ev)

-- ---- the loop over a part: its first i cells are filled, and `run` is the sum of the first i values
module _ (f : ℕ → ℕ) (i run : ℕ) (above start below : List ℕ) (so_far : (run ≡ sum_to i f) × (below ≡ list_of i (λ k. get_or above k 0 + sum_to k f) ++ drop i start)) where
  pub values_next : {v : ℕ} → v ≡ f i → i < length start
      → (run + v ≡ sum_to (i + 1) f) × (set below i (get_or above i 0 + run) ≡ list_of (i + 1) (λ k. get_or above k 0 + sum_to k f) ++ drop (i + 1) start)
  values_next is l =
      (sum-next f i run _ so_far.0 is, rw so_far.1 (filled_next i _ start _ l (ap (λ r. get_or above i 0 + r) so_far.0)))

  pub values_end : i ≡ length above → length start ≡ length above → (run ≡ sum_to (length above) f) × (below ≡ sums_below (λ k. sum_to k f) above)
  unfolding sums_below
  values_end last e =
      (so_far.0 ∙ ap (λ k. sum_to k f) last, so_far.1 ∙ filled-end i (length above) _ start last e)
