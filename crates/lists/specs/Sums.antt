-- Plain sums and counts. Definitions only.
use Rattle.std.specs.Prelude.{ℕ, zero, suc, ◌+◌, Bool, cond}

-- f 0 + f 1 + .. + f (n - 1)
unfoldable pub sum_to : ℕ → (ℕ → ℕ) → ℕ
sum_to zero f = 0
sum_to (suc n) f = sum_to n f + f n

-- the sum of f x y over columns x < w and rows y < h
unfoldable pub sum_rect : ℕ → ℕ → (ℕ → ℕ → ℕ) → ℕ
sum_rect w h f = sum_to h (λ y. sum_to w (λ x. f x y))

-- how many of 0, 1, .., n - 1 p holds of
unfoldable pub count_below : ℕ → (ℕ → Bool) → ℕ
count_below n p = sum_to n (λ k. cond (p k) 1 0)
