-- The quotient of a raw cost, as it is worked out without a branch. Definitions only.
use Rattle.std.specs.Prelude.{ℕ, ◌*◌, ◌^◌, ◌<◌, Bool, false, not, cond, ◌||◌, T, eqb, pos, Float}
use Rattle.std.specs.Float.{fin, binary64}
use Rattle.std.specs.Float.Ieee.{of_bits, nan_bits, mul, div}
use Rattle.numbers.specs.Narrow.{narrowed, Moderate}
use Rattle.options.specs.declared.RawCost.{RawCost}
use Rattle.options.specs.declared.RawCost.TheVariants.{Blank, Corr}

-- whole numbers that f64 counts, and the two terms of their covariance
pub record CountsExactly (n sa sb sab : ℕ) : Type 0 where
  pub n-few : n < 2 ^ 32
  pub sa-few : sa < 2 ^ 32
  pub sb-few : sb < 2 ^ 32
  pub sab-few : sab < 2 ^ 32
  pub products : n * sab < 2 ^ 53
  pub levels : sa * sb < 2 ^ 53

-- one of two roots is 0, by their bits
abbrev pub is_flat : ℕ → ℕ → Bool
is_flat a b = eqb a 0 || eqb b 0

-- 1 as an f64
abbrev pub one : Float
one = fin false 1 (pos 0)

-- the product of the two roots, and 1 where the quotient is not wanted
abbrev pub divisor_of : ℕ → ℕ → Float
divisor_of a b = cond (is_flat a b) one (mul binary64 (of_bits binary64 a) (of_bits binary64 b))

-- the covariance over that, narrowed, and blank where it is not wanted
abbrev pub quotient_cost : Float → ℕ → ℕ → RawCost
quotient_cost cov a b = cond (is_flat a b) Blank (Corr (narrowed (div binary64 cov (divisor_of a b))))

-- the bits are no NaN's, and the quotient is of moderate size
pub record Divisible (cov : Float) (a b : ℕ) : Type 0 where
  pub a-number : T (not (nan_bits binary64 a))
  pub b-number : T (not (nan_bits binary64 b))
  pub moderate : Moderate (div binary64 cov (divisor_of a b))
