-- What the tests of a call show. Assumes nothing.
use Prim.Native.Nat.{ℕ, suc, ◌-◌, ◌≤◌}
use mathlib.Core.Path.{◌≡◌, refl, sym}
use mathlib.Core.Bool.{true, false, ◌&&◌, ◌||◌, true≢false}
use native.Mathlib.Omega.{arith}
use borrow.Author.Tests.{leb-true, ltb-false}
use lib.Dec.{leb, ltb}
use lib.IntN.{ℤ, pos, negsuc, nat_abs, neg_ℤ, pos-ne-negsuc}
use lib.Signed.{lt_z}
use Rattle.lists.proofs.Tests.{and_both, or-false}
use Rattle.options.specs.Limits.{side_most, first_most}
use Rattle.calls.specs.Refusals.{in_range}

-- width and height of a picture whose size is in range
pub record Ranged (w h : ℕ) : Type 0 where
  pub w-least : 1 ≤ w
  pub w-most : w ≤ side_most
  pub h-least : 1 ≤ h
  pub h-most : h ≤ side_most

pub ranged : (w h : ℕ) → in_range w h ≡ true → Ranged w h
ranged w h e =
    let both = and_both (leb 1 w && leb w side_most) (leb 1 h && leb h side_most) e in
    let x = and_both (leb 1 w) (leb w side_most) both.0 in
    let y = and_both (leb 1 h) (leb h side_most) both.1 in
    record {
      w-least = leb-true 1 w x.0;
      w-most = leb-true w side_most x.1;
      h-least = leb-true 1 h y.0;
      h-most = leb-true h side_most y.1;
    }

-- signed numbers within their limits
pub positive : (z : ℤ) → lt_z z (pos 1) ≡ false → (z ≡ pos (nat_abs z)) × (1 ≤ nat_abs z)
positive (pos n) e = (refl, ltb-false n 1 e)
positive (negsuc n) e = absurd (true≢false e)

pub at_most : (m : ℕ) (z : ℤ) → z ≡ pos (nat_abs z) → lt_z (pos m) z ≡ false → nat_abs z ≤ m
at_most m (pos n) p e = ltb-false m n e
at_most m (negsuc n) p e = absurd (pos-ne-negsuc (suc n) n (sym p))

-- no further from zero than suc k
near_within : (k : ℕ) (z : ℤ) → (lt_z z (negsuc k) || lt_z (pos (suc k)) z) ≡ false → nat_abs z ≤ suc k
near_within k (pos n) e = ltb-false (suc k) n e
near_within k (negsuc n) e = let l : n ≤ k = ltb-false k n (or-false (ltb k n) false e).0 in omega arith

pub near : (z : ℤ) → (lt_z z (neg_ℤ (pos first_most)) || lt_z (pos first_most) z) ≡ false → nat_abs z ≤ first_most
near = near_within (first_most - 1)
