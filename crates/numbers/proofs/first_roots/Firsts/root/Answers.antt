-- `numbers::first_roots::Firsts::root` meets its contract. Assumes nothing.
use Rattle.std.proofs.Common.{◌≡◌, ℕ, suc, ◌+◌, ◌-◌, ◌*◌, ◌/◌, ◌%◌, ◌^◌, ◌<◌, ◌≤◌, false, sym, ap, ◌∙◌, le_trans, lt_of_lt_of_le, lt_of_le_of_lt, le_of_lt, mod-eq_of_lt, mul_assoc, arith, lit≤, pow_pos, pow_mono, pow-add, shl_lt}
use lib.Count.{count_leading_zeros, leading_top}
use lib.Ieee.{binary64, size, of_bits}
use Rattle.numbers.specs.Root.{nearest_root, places, root_of}
use Rattle.numbers.proofs.Squares.{four}
use Rattle.numbers.proofs.Patterns.{size_is, pattern-of, no_nan, no-nan-bits}
use Rattle.numbers.proofs.Rooted.{digits, scaled-lo, digits-lo, digits-hi, places-most, split-1074, root-fits, root-value}
use Rattle.numbers.proofs.first_roots.Firsts.root.Goals.{After-rounded_root-digits}
use Rattle.numbers.proofs.first_roots.Firsts.root.Goals as goal

abbrev half : ℕ → ℕ
half n = count_leading_zeros 64 n / 2

module _ (n : ℕ) (least : 1 ≤ n) (most : n ≤ 2 ^ 53) where
  -- n has j + 1 digits
  lead : (j : ℕ) × (count_leading_zeros 64 n + suc j ≡ 64) × (2 ^ j ≤ n) × (n < 2 ^ suc j)
  lead = leading_top 64 n least (lt_of_le_of_lt most (lit≤ tt))

  half-most : half n ≤ 31
  half-most = let e = lead.1 in omega arith

  half_is : half n + 21 ≡ places n
  half_is = by (count_leading_zeros 64 n) lead.0 (size n) lead.1 (size_is n lead.0 lead.2 lead.3)
    where
      by : (l j z : ℕ) → l + suc j ≡ 64 → z ≡ suc j → l / 2 + 21 ≡ 53 - (z + 1) / 2
      by l j z e f = omega arith

  -- nothing is shifted out
  shifted : n * 2 ^ (half n * 2) % 2 ^ 64 ≡ n * 4 ^ half n
  shifted =
      mod-eq_of_lt (lt_of_lt_of_le (shl_lt (suc lead.0) (half n * 2) lead.3) (pow_mono {i = suc lead.0 + half n * 2} {j = 64} (omega (arith, lead.1))))
      ∙ ap (λ (x : ℕ). n * x) (ap (λ (x : ℕ). 2 ^ x) (omega arith) ∙ pow-add 2 (half n) (half n) ∙ sym (four (half n)))

  whole : n * 4 ^ places n ≡ n * 4 ^ half n * 4 ^ 21
  whole = sym (mul_assoc n (4 ^ half n) (4 ^ 21) ∙ ap (λ (x : ℕ). n * x) (sym (pow-add 4 (half n) 21) ∙ ap (λ (x : ℕ). 4 ^ x) half_is))

  -- the first digit of base 4 is not 0
  top_digit : 2 ^ 62 ≤ n * 2 ^ (half n * 2) % 2 ^ 64
  top_digit = rw shifted (enough (n * 4 ^ half n) (rw whole at (scaled-lo n least most)))
    where
      enough : (m : ℕ) → 4 ^ 52 ≤ m * 4 ^ 21 → 2 ^ 62 ≤ m
      enough m h = omega arith

  digits_are : nearest_root (n * 2 ^ (half n * 2) % 2 ^ 64 * 4 ^ 21) ≡ digits n
  digits_are = ap (λ (x : ℕ). nearest_root (x * 4 ^ 21)) shifted ∙ ap nearest_root (sym whole)

  -- the pattern that is made
  abbrev pattern : ℕ → ℕ
  pattern q = (1053 - half n) * 2 ^ 52 % 2 ^ 64 + q

  pattern-is : (q : ℕ) → pattern q ≡ 0 + ((1074 - places n) * 2 ^ 52 + q)
  pattern-is q = by (half n) (places n) half-most half_is
    where
      by : (h s : ℕ) → h ≤ 31 → h + 21 ≡ s → (1053 - h) * 2 ^ 52 % 2 ^ 64 + q ≡ 0 + ((1074 - s) * 2 ^ 52 + q)
      by h s l e = omega arith

  pattern-root : (q : ℕ) → q ≡ digits n → of_bits binary64 (pattern q) ≡ root_of n
  pattern-root q e =
      let s-most : places n ≤ 1074 = le_trans (places-most n least most) (lit≤ tt) in
      ap (of_bits binary64) (pattern-is q ∙ ap (λ (x : ℕ). 0 + ((1074 - places n) * 2 ^ 52 + x)) e)
      ∙ pattern-of binary64 (root_of n) false (digits n) (2 ^ places n) (digits n) (1074 - places n) (pow_pos (places n)) (root-fits n) (root-value n least most) (split-1074 (digits n) (places n) s-most)
      (λ (k : 0 < 1074 - places n). digits-lo n least most) (le_of_lt (digits-hi n least most))

pub overflow_cast-half : goal.overflow_cast-half
overflow_cast-half c = omega (arith, half-most c.args.n c.requires.0 c.requires.1)

pub overflow_mul-half : goal.overflow_mul-half
overflow_mul-half c = omega (arith, half-most c.args.n c.requires.0 c.requires.1)

pub overflow_shl-n : goal.overflow_shl-n
overflow_shl-n c = omega (arith, half-most c.args.n c.requires.0 c.requires.1)

pub rounded_root-digits-requires : goal.rounded_root-digits-requires
rounded_root-digits-requires c = top_digit c.args.n c.requires.0 c.requires.1

pub overflow_sub-result : goal.overflow_sub-result
overflow_sub-result c = omega (arith, half-most c.args.n c.requires.0 c.requires.1)

-- what `rounded_root` returns
returned : (c : After-rounded_root-digits) → c.rounded_root-digits.result ≡ digits c.args.n
returned c = c.rounded_root-digits.ensures ∙ digits_are c.args.n c.requires.0 c.requires.1

pub overflow_add-result : goal.overflow_add-result
overflow_add-result c = omega (arith, returned c, digits-hi c.args.n c.requires.0 c.requires.1)

pub float_from_bits-result : goal.float_from_bits-result
float_from_bits-result c =
    let n = c.args.n in
    let lo = c.requires.0 in
    let hi = c.requires.1 in
    no-nan-bits binary64 (pattern n lo hi c.rounded_root-digits.result) (root_of n) (pattern-root n lo hi c.rounded_root-digits.result (returned c)) (no_nan (root_of n) false (digits n) (2 ^ places n) (root-value n lo hi))

pub returns : goal.returns
returns c = pattern-root c.args.n c.requires.0 c.requires.1 c.rounded_root-digits.result (returned c)
