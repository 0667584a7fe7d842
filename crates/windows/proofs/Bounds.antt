-- Under the sizes allowed every sum is below 2^53.
use Prim.Native.Nat.{ℕ, ◌*◌, ◌^◌, ◌≤◌, ◌<◌}
use native.Mathlib.Nat.{mul-le-mul}
use native.Mathlib.Omega.{arith}
use Rattle.options.specs.Limits.{side_most}
use Rattle.lists.specs.Sums.{sum_to, sum_rect}
use Rattle.lists.proofs.Sums.{sum_to-bound}
use Rattle.windows.proofs.Tables.{sum_rect-bound}

-- the two terms of a covariance, and with b the same as a those of a variance; the sums themselves are smaller
pub record Below53 (n : ℕ) (a b : ℕ → ℕ) : Type 0 where
  pub few-a : sum_to n a < 2 ^ 32
  pub few-b : sum_to n b < 2 ^ 32
  pub few-products : sum_to n (λ i. a i * b i) < 2 ^ 32
  pub products : n * sum_to n (λ i. a i * b i) < 2 ^ 53
  pub levels : sum_to n a * sum_to n b < 2 ^ 53

-- a window of at most 961 pixels
pub window-fits : (n : ℕ) (a b : ℕ → ℕ) → n ≤ 961 → ((i : ℕ) → i < n → a i ≤ 255) → ((i : ℕ) → i < n → b i ≤ 255) → Below53 n a b
window-fits n a b few la lb =
    let product : sum_to n (λ i. a i * b i) ≤ n * (255 * 255) = sum_to-bound (255 * 255) n (λ i. a i * b i) (λ i l. mul-le-mul (la i l) (lb i l)) in
    let product-most : sum_to n (λ i. a i * b i) ≤ 961 * (255 * 255) = omega arith in
    let a-most : sum_to n a ≤ 961 * 255 = omega (arith, sum_to-bound 255 n a la) in
    let b-most : sum_to n b ≤ 961 * 255 = omega (arith, sum_to-bound 255 n b lb) in
    record {
      few-a = omega arith;
      few-b = omega arith;
      few-products = omega arith;
      products = omega (arith, mul-le-mul few product-most);
      levels = omega (arith, mul-le-mul a-most b-most);
    }

-- a cell of a table of levels, squares or products
pub table_fits : (w h : ℕ) (f : ℕ → ℕ → ℕ) → w ≤ side_most → h ≤ side_most → ((x y : ℕ) → f x y ≤ 255 * 255) → sum_rect w h f < 2 ^ 53
table_fits w h f lw lh small =
    let row : w * (255 * 255) ≤ side_most * (255 * 255) = omega arith in
    omega (arith, sum_rect-bound (255 * 255) w h f small, mul-le-mul lh row)
