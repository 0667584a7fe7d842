-- `replay::number` is safe: no NaN's pattern is taken. Assumes nothing.
use Prim.Native.Nat.{ℕ, ◌≤◌, ◌%◌, ◌*◌, ◌/◌, ◌^◌}
use mathlib.Core.Path.{◌≡◌, refl}
use mathlib.Core.Bool.{Bool, true, false, not, ◌&&◌, false≢true}
use native.Mathlib.Omega.{arith}
use borrow.Author.Tests.{eqb-true, eq-eqb}
use lib.Dec.{T, eqb}
use lib.Ieee.{binary32, nan_bits}
use Rattle.replay.proofs.number.Goals as goal

either : (s t : Bool) → (s ≡ true → t ≡ true) → T (not (s && not t))
either true true h = tt
either true false h = absurd (false≢true (h refl))
either false t h = tt

-- a pattern whose size is at most infinity's is no NaN's
plain : (b : ℕ) → b % 2 ^ 31 ≤ 255 * 2 ^ 23 → T (not (nan_bits binary32 b))
unfolding nan_bits
plain b l =
    either (eqb (b % 2 ^ 31 / 2 ^ 23) 255) (eqb (b % 2 ^ 23) 0)
    (λ e. let f = eqb-true (b % 2 ^ 31 / 2 ^ 23) 255 e in eq-eqb (b % 2 ^ 23) 0 (omega arith))

pub float_from_bits-result : goal.float_from_bits-result
float_from_bits-result c = plain c.from_le_bytes-bits.result (omega arith)
