-- Sizes of signed sums, and the shift of a target column. Assumes nothing.
use Prim.Native.Nat.{ℕ, ◌≤◌, ◌<◌}
use mathlib.Core.Path.{◌≡◌, ap₂}
use native.Mathlib.Omega.{arith}
use lib.IntN.{ℤ, pos, nat_abs, neg_ℤ, ◌+ℤ◌, ◌-ℤ◌}
use mir.Syntax.{w64}
use mir.Val.{SFits, to_z, of_z}
use mir.ValLaws.{to_z-of_z, to_z_pos}
use Rattle.options.specs.Limits.{most_count, first_most, shift_most}
use Rattle.options.specs.declared.Side.{Side}
use Rattle.options.specs.declared.Side.TheVariants.{Left, Right}
use Rattle.costs.specs.Raw.{shift_of}
use Rattle.lists.proofs.Sizes.{abs_neg, sum-size, small-fits}
use Rattle.windows.proofs.Shifts.{none-minus}

-- d = first + k
module _ (first : ℤ) (k : ℕ) (lf : nat_abs first ≤ first_most) (lk : k < most_count) where
  pub sum-most : nat_abs (first +ℤ pos k) ≤ shift_most
  sum-most = omega (arith, sum-size first (pos k))

  pub shift-most : (side : Side) → nat_abs (shift_of side first k) ≤ shift_most
  shift-most Left = rw (abs_neg (first +ℤ pos k)) sum-most
  shift-most Right = sum-most

  sum_fits : SFits w64 (first +ℤ pos k)
  sum_fits = small-fits (first +ℤ pos k) (omega (arith, sum-most))

  module _ (fits : SFits w64 first) where
    operands : to_z w64 (of_z w64 first) +ℤ to_z w64 k ≡ first +ℤ pos k
    operands = ap₂ (λ a b. a +ℤ b) (to_z-of_z w64 first fits) (to_z_pos w64 k (omega arith))

    pub add-fits : SFits w64 (to_z w64 (of_z w64 first) +ℤ to_z w64 k)
    add-fits = rw operands sum_fits

    pub sum_back : to_z w64 (of_z w64 (to_z w64 (of_z w64 first) +ℤ to_z w64 k)) ≡ first +ℤ pos k
    sum_back = rw operands (to_z-of_z w64 (first +ℤ pos k) sum_fits)

    neg-fits : SFits w64 (neg_ℤ (first +ℤ pos k))
    neg-fits = small-fits (neg_ℤ (first +ℤ pos k)) (omega (arith, abs_neg (first +ℤ pos k), sum-most))

    pub minus-fits : SFits w64 (pos 0 -ℤ to_z w64 (of_z w64 (to_z w64 (of_z w64 first) +ℤ to_z w64 k)))
    minus-fits = rw (sum_back, none-minus (first +ℤ pos k)) neg-fits

    pub minus-back : to_z w64 (of_z w64 (pos 0 -ℤ to_z w64 (of_z w64 (to_z w64 (of_z w64 first) +ℤ to_z w64 k)))) ≡ neg_ℤ (first +ℤ pos k)
    minus-back = rw (sum_back, none-minus (first +ℤ pos k)) (to_z-of_z w64 (neg_ℤ (first +ℤ pos k)) neg-fits)
