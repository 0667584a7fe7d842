-- A signed shift, and a column moved by it. Assumes nothing.
use Prim.Native.Nat.{ℕ, zero, suc, ◌+◌, ◌*◌, ◌-◌, ◌≤◌, ◌<◌, zero-le, min}
use mathlib.Core.Path.{◌≡◌, sym, ap, subst, fun_ext}
use mathlib.Core.Bool.{true, false, true≢false}
use mathlib.Core.List.{List}
use native.Mathlib.Nat.{mul-le-mul, add-zero}
use native.Mathlib.Omega.{arith}
use borrow.Author.Tests.{lt-ltb, le-ltb, ltb-true}
use lib.Dec.{T}
use lib.IntN.{ℤ, pos, negsuc, nat_abs, neg_ℤ, ◌+ℤ◌, ◌-ℤ◌, +ℤ_idl}
use lib.ListN.{length, get_or, get_or-eq_default}
use lib.Signed.{lt_z, non_neg}
use Rattle.lists.specs.Rows.{level_at}
use Rattle.windows.specs.declared.Overlap.{Overlap}
use Rattle.windows.specs.Table.{level_in, square_at, column_at, cross_in, cross_at}
use Rattle.windows.specs.Parts.{overlap_of}

-- ---- a shift's size
pub none-minus : (z : ℤ) → pos 0 -ℤ z ≡ neg_ℤ z
none-minus z = +ℤ_idl (neg_ℤ z)

-- what a test against 0 tells of the sign
pub non-neg : (z : ℤ) → lt_z z (pos 0) ≡ false → T (non_neg z)
non-neg (pos n) e = tt
non-neg (negsuc n) e = absurd (true≢false e)

-- a number below 0 has an opposite that is not
pub neg-non-neg : (z : ℤ) → lt_z z (pos 0) ≡ true → T (non_neg (neg_ℤ z))
neg-non-neg (pos zero) e = tt
neg-non-neg (pos (suc n)) e = absurd (omega (arith, ltb-true (suc n) 0 e))
neg-non-neg (negsuc n) e = tt

-- ---- the columns that both rows have

-- as they are worked out, by the shift's sign
pub overlap-left : (n m : ℕ) (s : ℤ) → lt_z s (pos 0) ≡ true → (d first count : ℕ) → d ≡ nat_abs s → first ≡ min d n → count ≡ min m (n - first)
    → record { first = first; other = 0; count = count } ≡ overlap_of n m s
unfolding overlap_of
overlap-left n m (pos b) e d first count ed ef ec = absurd (omega (arith, ltb-true b 0 e))
overlap-left n m (negsuc b) e d first count ed ef ec =
    let f : first ≡ min (suc b) n = omega arith in
    let k : count ≡ min (n - suc b) m = omega arith in
    rw (k, f)

pub overlap-right : (n m : ℕ) (s : ℤ) → lt_z s (pos 0) ≡ false → (d other count : ℕ) → d ≡ nat_abs s → other ≡ min d m → count ≡ min n (m - other)
    → record { first = 0; other = other; count = count } ≡ overlap_of n m s
unfolding overlap_of
overlap-right n m (negsuc b) e d other count ed eo ec = absurd (true≢false e)
overlap-right n m (pos b) e d other count ed eo ec =
    let o : other ≡ min b m = omega arith in
    let k : count ≡ min n (m - b) = omega arith in
    rw (k, o)

-- what they are: within both rows, one by one beside each other, and before and after them the other row has none
pub record Meets (n m : ℕ) (s : ℤ) (o : Overlap) : Type 0 where
  pub end : o.first + o.count ≤ n
  pub end' : o.other + o.count ≤ m
  pub left : (row : List ℕ) (x : ℕ) → x < o.first → column_at row (pos x +ℤ s) ≡ 0
  pub both : (row : List ℕ) (i : ℕ) → i < o.count → column_at row (pos (o.first + i) +ℤ s) ≡ level_in row (o.other + i)
  pub right : (row : List ℕ) → length row ≡ m → (x : ℕ) → o.first + o.count ≤ x → x < n → column_at row (pos x +ℤ s) ≡ 0

meets : (n m : ℕ) (s : ℤ) → Meets n m s (overlap_of n m s)
unfolding overlap_of
meets n m (pos d) =
    record {
      end = omega arith;
      end' = omega arith;
      left = λ row x l. absurd (omega arith);
      both = λ row i l. ap (λ k. get_or row k 0) (omega arith);
      right = λ row e x l h. get_or-eq_default row 0 {n = x + d} (omega arith);
    }
meets n m (negsuc d) =
    record {
      end = omega arith;
      end' = omega arith;
      left = λ row x l. rw (lt-ltb x (suc d) (omega arith));
      both = λ row i l. rw (le-ltb (min (suc d) n + i) (suc d) (omega arith)) (ap (λ k. get_or row k 0) (omega arith));
      right = λ row e x l h. rw (le-ltb x (suc d) (omega arith)) (get_or-eq_default row 0 {n = x - suc d} (omega arith));
    }

pub meets-of : (n m : ℕ) (s : ℤ) (o : Overlap) → o ≡ overlap_of n m s → Meets n m s o
meets-of n m s o e = subst (λ (k : Overlap). Meets n m s k) (sym e) (meets n m s)

-- ---- products

-- a level outside the row is 0, so it is small too
pub column-small : (row : List ℕ) → ((i : ℕ) → get_or row i 0 ≤ 255) → (z : ℤ) → column_at row z ≤ 255
column-small row small (pos x) = small x
column-small row small (negsuc x) = zero-le

pub cross-small : (a b : List ℕ) (s : ℤ) → ((i : ℕ) → get_or a i 0 ≤ 255) → ((i : ℕ) → get_or b i 0 ≤ 255) → (x : ℕ) → cross_in a b s x ≤ 65025
cross-small a b s la lb x = mul-le-mul (la x) (column-small b lb (pos x +ℤ s))

-- a picture's products with itself, unshifted, are its squares
pub cross-self : (w : ℕ) (pic : List ℕ) → cross_at w pic pic (pos 0) ≡ square_at w pic
cross-self w pic = fun_ext (λ x. fun_ext (λ y. ap (λ k. level_at w pic x y * level_at w pic k y) (add-zero x)))
