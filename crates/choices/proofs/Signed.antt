-- The disparity with an index, as a sum of signed numbers: small enough for every type on its way to a float. Assumes nothing.
use Rattle.std.proofs.Common.{ℕ, ◌+◌, ◌^◌, ◌≤◌, T, ℤ, pos, negsuc, ◌+ℤ◌, nat_abs, le_trans, arith, le→leb, lt→ltb, w32, SFits}
use lib.Ieee.{binary32, in_float}
use Rattle.lists.proofs.Sizes.{sum-size}

pub sum-nat_abs : (z : ℤ) (k b : ℕ) → nat_abs z + k ≤ b → nat_abs (z +ℤ pos k) ≤ b
sum-nat_abs z k b h = le_trans (sum-size z (pos k)) h

-- 2^24, to which an f32 counts, is more than any disparity
pub fits-of : (z : ℤ) → nat_abs z ≤ 2 ^ 24 → SFits w32 z
fits-of (pos a) h = record { sfits = omega arith }
fits-of (negsuc a) h = record { sfits = omega arith }

-- a float holds a small number exactly
pub float_of : (z : ℤ) → nat_abs z ≤ 2 ^ 24 → T (in_float binary32 z)
unfolding in_float
float_of (pos a) h = le→leb a (2 ^ 24) (omega arith)
float_of (negsuc a) h = lt→ltb a (2 ^ 24) (omega arith)
