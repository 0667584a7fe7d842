-- Sizes of signed numbers: of the opposite, of a sum, and which fit an `i64`. Assumes nothing.
use Prim.Native.Nat.{ℕ, zero, suc, ◌+◌, ◌-◌, ◌^◌, ◌≤◌}
use mathlib.Core.Path.{◌≡◌, refl}
use mathlib.Core.Bool.{Bool, true, false, cond}
use native.Mathlib.Nat.{le_refl}
use native.Mathlib.Omega.{arith}
use borrow.Author.Tests.{ltb-true}
use lib.Dec.{ltb}
use lib.IntN.{ℤ, pos, negsuc, nat_abs, neg_ℤ, sub_ℕ, ◌+ℤ◌}
use mir.Syntax.{w64}
use mir.Val.{SFits}

pub abs_neg : (z : ℤ) → nat_abs (neg_ℤ z) ≡ nat_abs z
abs_neg (pos zero) = refl
abs_neg (pos (suc n)) = refl
abs_neg (negsuc n) = refl

apart-size : (a b : ℕ) → nat_abs (sub_ℕ a b) ≤ a + b
apart-size a b = go (ltb a b) refl
  where
    go : (t : Bool) → ltb a b ≡ t → nat_abs (cond t (negsuc (b - suc a)) (pos (a - b))) ≤ a + b
    go true e = omega (arith, ltb-true a b e)
    go false e = omega arith

pub sum-size : (a b : ℤ) → nat_abs (a +ℤ b) ≤ nat_abs a + nat_abs b
sum-size (pos a) (pos b) = le_refl (a + b)
sum-size (pos a) (negsuc b) = apart-size a (suc b)
sum-size (negsuc a) (pos b) = omega (arith, apart-size b (suc a))
sum-size (negsuc a) (negsuc b) = omega arith

pub small-fits : (z : ℤ) → nat_abs z ≤ 2 ^ 62 → SFits w64 z
small-fits (pos n) l = record { sfits = omega arith }
small-fits (negsuc n) l = record { sfits = omega arith }
