-- `numbers::narrow::rounded_off` meets its contract. Assumes nothing.
use Rattle.std.proofs.Common.{◌≡◌, ℕ, suc, ◌-◌, ◌*◌, ◌%◌, ◌^◌, ◌≤◌, sym, ap, ◌∙◌, subst, mod-eq_of_lt, one-mul, arith, pow_pos, pow_mono}
use native.Mathlib.Nat.{pow-succ'}
use lib.Pow.{pow-lt}
use Rattle.numbers.proofs.Rounding.{closest-by-sum}
use Rattle.numbers.proofs.narrow.rounded_off.Goals as goal

-- `1 << (drop - 1)` is half of 2 ^ drop
half_is : (d : ℕ) → d ≤ 62 → 1 * 2 ^ (d - 1) % 2 ^ 64 ≡ 2 ^ (d - 1)
half_is d h = ap (λ (x : ℕ). x % 2 ^ 64) (one-mul (2 ^ (d - 1))) ∙ mod-eq_of_lt (pow-lt {i = d - 1} {j = 64} (omega arith))

half-most : (d : ℕ) → d ≤ 62 → 1 * 2 ^ (d - 1) % 2 ^ 64 ≤ 2 ^ 61
half-most d h = subst (λ (x : ℕ). x ≤ 2 ^ 61) (sym (half_is d h)) (pow_mono {i = d - 1} {j = 61} (omega arith))

half_pos : (d : ℕ) → d ≤ 62 → 1 ≤ 1 * 2 ^ (d - 1) % 2 ^ 64
half_pos d h = subst (λ (x : ℕ). 1 ≤ x) (sym (half_is d h)) (pow_pos (d - 1))

twice : (d : ℕ) → 1 ≤ d → d ≤ 62 → 2 ^ d ≡ 2 * (1 * 2 ^ (d - 1) % 2 ^ 64)
twice d l h = ap (λ (x : ℕ). 2 ^ x) (sym (back d l)) ∙ pow-succ' 2 (d - 1) ∙ ap (λ (x : ℕ). 2 * x) (sym (half_is d h))
  where
    back : (d : ℕ) → 1 ≤ d → suc (d - 1) ≡ d
    back d l = omega arith

pub overflow_sub-result-2 : goal.overflow_sub-result-2
overflow_sub-result-2 c = half_pos c.args.drop c.requires.2

pub overflow_add-result : goal.overflow_add-result
overflow_add-result c = omega (arith, half-most c.args.drop c.requires.2)

pub overflow_add-result-2 : goal.overflow_add-result-2
overflow_add-result-2 c = omega (arith, half-most c.args.drop c.requires.2)

pub returns : goal.returns
returns c = closest-by-sum c.args.v (2 ^ c.args.drop) (1 * 2 ^ (c.args.drop - 1) % 2 ^ 64) (twice c.args.drop c.requires.1 c.requires.2) (half_pos c.args.drop c.requires.2)
