-- Signed numbers: how far one lies above another, which lie between two, and which are near. Assumes nothing.
use Prim.Native.Nat.{ℕ, zero, suc, ◌+◌, ◌≤◌, zero-le}
use mathlib.Core.Path.{◌≡◌, refl, sym, ap, ap₂, ◌∙◌}
use mathlib.Core.Bool.{Bool, true, false, not, ◌&&◌, true≢false}
use native.Mathlib.Nat.{le_refl, le_trans}
use native.Mathlib.Omega.{arith}
use borrow.Author.Tests.{ltb-true, ltb-false, leb-true, lt-ltb, le-ltb, le-leb, lt-leb}
use lib.Dec.{leb, ltb, leb-zero, leb-suc-zero, leb-suc-suc}
use lib.IntN.{ℤ, pos, negsuc, nat_abs, neg_ℤ, suc_ℤ, ◌+ℤ◌, ◌-ℤ◌, +ℤ_comm, +ℤ_idl, +ℤ_idr, suc_ℤ-+ℤ, -ℤ-+ℤ_cancel}
use lib.Signed.{le_z, lt_z}
use Rattle.std.specs.Int.{int_max}
use mir.Syntax.{w64}
use mir.Val.{SFits, to_z, of_z}
use mir.ValLaws.{to_z-of_z}
use Rattle.lists.proofs.Tests.{and_both}
use Rattle.lists.proofs.Sizes.{abs_neg, sum-size, small-fits}
use Rattle.volume.specs.Metres.{size_most, is_near}
use Rattle.volume.specs.Rectangle.{or_zero, above}
use Rattle.volume.specs.Heights.{is_between}
use Rattle.volume.specs.Inner.{Near}

-- ---- comparisons

less-than : (a b : ℕ) → ltb a b ≡ not (leb b a)
less-than a b = go (ltb a b) refl
  where
    go : (t : Bool) → ltb a b ≡ t → ltb a b ≡ not (leb b a)
    go true e = rw (e, lt-leb b a (ltb-true a b e))
    go false e = rw (e, le-leb b a (ltb-false a b e))

-- below is not at or above
pub less : (a b : ℤ) → lt_z a b ≡ not (le_z b a)
less (pos a) (pos b) = less-than a b
less (pos a) (negsuc b) = refl
less (negsuc a) (pos b) = refl
less (negsuc a) (negsuc b) = less-than b a

one_up : (a b : ℤ) → le_z (suc_ℤ a) (suc_ℤ b) ≡ le_z a b
one_up (pos a) (pos b) = leb-suc-suc a b
one_up (pos a) (negsuc zero) = leb-suc-zero a
one_up (pos a) (negsuc (suc b)) = refl
one_up (negsuc zero) (pos b) = leb-zero (suc b)
one_up (negsuc zero) (negsuc zero) = refl
one_up (negsuc zero) (negsuc (suc b)) = sym (leb-suc-zero b)
one_up (negsuc (suc a)) (pos b) = refl
one_up (negsuc (suc a)) (negsuc zero) = sym (leb-zero (suc a))
one_up (negsuc (suc a)) (negsuc (suc b)) = sym (leb-suc-suc b a)

one_further : (c a b : ℤ) → le_z (suc_ℤ c +ℤ a) (suc_ℤ c +ℤ b) ≡ le_z (c +ℤ a) (c +ℤ b)
one_further c a b = ap₂ le_z (suc_ℤ-+ℤ c a) (suc_ℤ-+ℤ c b) ∙ one_up (c +ℤ a) (c +ℤ b)

unmoved : (a b : ℤ) → le_z (pos 0 +ℤ a) (pos 0 +ℤ b) ≡ le_z a b
unmoved a b = ap₂ le_z (+ℤ_idl a) (+ℤ_idl b)

-- two numbers that are moved alike stay in their order
moved : (c a b : ℤ) → le_z (c +ℤ a) (c +ℤ b) ≡ le_z a b
moved (pos zero) a b = unmoved a b
moved (pos (suc n)) a b = one_further (pos n) a b ∙ moved (pos n) a b
moved (negsuc zero) a b = sym (one_further (negsuc zero) a b) ∙ unmoved a b
moved (negsuc (suc n)) a b = sym (one_further (negsuc (suc n)) a b) ∙ moved (negsuc n) a b

-- ---- differences

-- a number from another on
from : (low v : ℤ) → low +ℤ (v -ℤ low) ≡ v
from low v = +ℤ_comm low (v -ℤ low) ∙ -ℤ-+ℤ_cancel v low

-- a test of order is one of the difference
difference_low : (low v : ℤ) → le_z low v ≡ le_z (pos 0) (v -ℤ low)
difference_low low v = sym (ap₂ le_z (+ℤ_idr low) (from low v)) ∙ moved low (pos 0) (v -ℤ low)

-- the larger of a number and 0
larger-zero : (d : ℤ) → int_max d (pos 0) ≡ pos (or_zero d)
larger-zero (pos zero) = refl
larger-zero (pos (suc n)) = rw (lt-ltb 0 (suc n) (omega arith))
larger-zero (negsuc n) = refl

-- a difference is how far the one lies above the other, where it is larger than 0
pub above-larger : (a b : ℤ) → int_max (a -ℤ b) (pos 0) ≡ pos (above a b)
unfolding above
above-larger a b = larger-zero (a -ℤ b)

-- ---- sizes

or-zero-most : (d : ℤ) → or_zero d ≤ nat_abs d
or-zero-most (pos n) = le_refl n
or-zero-most (negsuc n) = zero-le

pub above-size : (a b : ℤ) → above a b ≤ nat_abs a + nat_abs b
unfolding above
above-size a b = le_trans (or-zero-most (a -ℤ b)) (omega (arith, sum-size a (neg_ℤ b), abs_neg b))

-- ---- near numbers

pub near_fits : (v : ℤ) → Near v → SFits w64 v
near_fits v l = small-fits v (omega arith)

-- and so does their difference
pub difference-fits : (a b : ℤ) → Near a → Near b → SFits w64 (a -ℤ b)
difference-fits a b l m = small-fits (a -ℤ b) (omega (arith, sum-size a (neg_ℤ b), abs_neg b))

-- the test by two comparisons
pub near-not : (v : ℤ) → lt_z v (negsuc 99999) ≡ true → is_near v ≡ false
near-not (pos n) e = absurd (true≢false (sym e))
near-not (negsuc n) e = lt-leb (suc n) size_most (omega (arith, ltb-true 99999 n e))

-- where the first does not hold, it is the second
pub near-is : (v : ℤ) → lt_z v (negsuc 99999) ≡ false → le_z v (pos size_most) ≡ is_near v
near-is (pos n) e = refl
near-is (negsuc n) e = sym (le-leb (suc n) size_most (omega (arith, ltb-false 99999 n e)))

near-inside : (low high v : ℤ) → Near low → Near high → le_z low v ≡ true → lt_z v high ≡ true → Near v
near-inside low (pos h) (pos n) l m e f = omega (arith, ltb-true n h f)
near-inside low (negsuc h) (pos n) l m e f = absurd (true≢false (sym f))
near-inside (pos a) high (negsuc n) l m e f = absurd (true≢false (sym e))
near-inside (negsuc a) high (negsuc n) l m e f = omega (arith, leb-true n a e)

-- a number between two near ones
pub near-between : (low high v : ℤ) → Near low → Near high → is_between low high v ≡ true → Near v
unfolding is_between
near-between low high v l m e =
    let both = and_both (le_z low v) (lt_z v high) e in
    near-inside low high v l m both.0 both.1

-- near numbers, read back from their bits
pub near-back : (v : ℤ) → Near v → Near (to_z w64 (of_z w64 v))
near-back v l = rw (to_z-of_z w64 v (near_fits v l)) l

pub above-back : (a b : ℤ) → Near a → Near b → above (to_z w64 (of_z w64 a)) (to_z w64 (of_z w64 b)) ≡ above a b
above-back a b l m = ap₂ above (to_z-of_z w64 a (near_fits a l)) (to_z-of_z w64 b (near_fits b m))

-- ---- between two numbers

-- both numbers are moved, or the one between them
between-moved : (low a b v : ℤ) → is_between (low +ℤ a) (low +ℤ b) v ≡ is_between a b (v -ℤ low)
unfolding is_between
between-moved low a b v =
    ap (is_between (low +ℤ a) (low +ℤ b)) (sym (from low v))
    ∙ ap₂ (λ s t. s && t)
    (moved low a (v -ℤ low))
    (less (low +ℤ (v -ℤ low)) (low +ℤ b) ∙ ap not (moved low b (v -ℤ low)) ∙ sym (less (v -ℤ low) b))

strip-over : (d : ℤ) → le_z (pos 0) d ≡ true → (a b : ℕ) → is_between (pos a) (pos b) d ≡ leb a (or_zero d) && ltb (or_zero d) b
unfolding is_between
strip-over (pos n) e a b = refl
strip-over (negsuc n) e a b = absurd (true≢false (sym e))

strip-under : (d : ℤ) → le_z (pos 0) d ≡ false → (a b : ℕ) → is_between (pos a) (pos b) d ≡ false
unfolding is_between
strip-under (pos n) e a b = absurd (true≢false (sym (leb-zero n) ∙ e))
strip-under (negsuc n) e a b = refl

wide-over : (d e : ℤ) → le_z (pos 0) d ≡ true → is_between (pos 0) e d ≡ ltb (or_zero d) (or_zero e)
unfolding is_between
wide-over (pos n) (pos m) q = rw leb-zero
wide-over (pos n) (negsuc m) q = rw (leb-zero, le-ltb n 0 zero-le)
wide-over (negsuc n) e q = absurd (true≢false (sym q))

module _ (low v : ℤ) where
  -- v at or above low lies in a part of what is above low where it lies so far above it
  pub part-above : le_z low v ≡ true → (a b : ℕ) → is_between (low +ℤ pos a) (low +ℤ pos b) v ≡ leb a (above v low) && ltb (above v low) b
  unfolding above
  part-above e a b = between-moved low (pos a) (pos b) v ∙ strip-over (v -ℤ low) (sym (difference_low low v) ∙ e) a b

  -- v below low lies in none
  pub part-below : le_z low v ≡ false → (a b : ℕ) → is_between (low +ℤ pos a) (low +ℤ pos b) v ≡ false
  part-below e a b = between-moved low (pos a) (pos b) v ∙ strip-under (v -ℤ low) (sym (difference_low low v) ∙ e) a b

  -- below a high edge
  pub between-above : (high : ℤ) → le_z low v ≡ true → is_between low high v ≡ ltb (above v low) (above high low)
  unfolding above
  between-above high e =
      sym (ap₂ (λ a b. is_between a b v) (+ℤ_idr low) (from low high))
      ∙ between-moved low (pos 0) (high -ℤ low) v
      ∙ wide-over (v -ℤ low) (high -ℤ low) (sym (difference_low low v) ∙ e)
