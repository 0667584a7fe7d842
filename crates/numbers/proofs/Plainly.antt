-- A float's size by two comparisons with zero, that x - x is zero exactly where x is a number, and that the infinities are the ends. Assumes nothing.
use Rattle.std.proofs.Common.{◌≡◌, ℕ, zero, suc, ◌+◌, ◌*◌, ◌<◌, Bool, true, false, not, ◌||◌, T, eqb, ℤ, pos, sym, refl, ap, ◌∙◌, subst, true≢false, le_refl, not-suc-le-zero, zero-lt-suc, mul-pos, zero-mul, arith, eqb→eq, ltb-false, ltb-true, le-ltb}
use native.Mathlib.Nat.{sub_self}
use mathlib.Core.Bool.{beq, false≢true}
use lib.Ieee.{Float, nan, inf, fin, Format, binary32, binary64, up, down, round, sum, sub, lt, eq, neg, fits}
use lib.Ieee.Fits.{and_l, down_pos}
use lib.Ieee.Back.{whole_unique}
use lib.Ieee.Scale.{finite, round_same}
use Rattle.numbers.specs.Plain.{magnitude_of}

-- ---- the size

pub below-zero : (x : Float) → lt x (fin false 0 (pos 0)) ≡ true → neg x ≡ magnitude_of x
unfolding lt neg magnitude_of
below-zero nan h = refl
below-zero (inf true) h = refl
below-zero (inf false) h = absurd (false≢true h)
below-zero (fin true m e) h = refl
below-zero (fin false m e) h = absurd (not-suc-le-zero (rw zero-mul at (ltb-true (m * up e * 1) (0 * down e) h)))

sized-fits : (f : Format) (s : Bool) (m : ℕ) (e : ℤ) → T (fits f (fin s m e)) → T (fits f (fin false m e))
unfolding fits
sized-fits f s zero e p = p
sized-fits f s (suc m) e p = p

pub at_zero : (f : Format) (x : Float) → T (fits f x) → eq x (fin false 0 (pos 0)) ≡ true → fin false 0 (pos 0) ≡ magnitude_of x
unfolding eq magnitude_of
at_zero f nan p h = absurd (false≢true h)
at_zero f (inf s) p h = absurd (false≢true h)
at_zero f (fin s m e) p h =
    whole_unique f (fin false 0 (pos 0)) (fin false m e) false 0 (unfold fits in tt) (sized-fits f s m e p) (refl, refl)
    (refl, eqb→eq (m * up e * 1) (0 * 1 * down e) (and_l (eqb (m * up e * 1) (0 * 1 * down e)) (beq s false || eqb (m * up e * 1) 0) (subst T (sym h) tt)))

pub above_zero : (x : Float) → lt x (fin false 0 (pos 0)) ≡ false → eq x (fin false 0 (pos 0)) ≡ false → x ≡ magnitude_of x
unfolding lt eq magnitude_of
above_zero nan h k = refl
above_zero (inf true) h k = absurd (true≢false h)
above_zero (inf false) h k = refl
above_zero (fin false m e) h k = refl
above_zero (fin true m e) h k =
    let nothing : m * up e * 1 ≡ 0 = omega (arith, ltb-false 0 (m * up e * 1 + 0 * down e) h) in
    absurd (true≢false (sym (rw (nothing, zero-mul (down e)) refl) ∙ k))

-- ---- x - x

-- nothing rounds to nothing
round-none : (f : Format) (c : ℕ) → 0 < c → round f false 0 c ≡ fin false 0 (pos 0)
round-none f c C = round_same f false 0 c 0 1 C (zero-lt-suc 0) (sym (zero-mul c)) ∙ at_one f
  where
    at_one : (f : Format) → round f false 0 1 ≡ fin false 0 (pos 0)
    at_one binary32 = unfold round in refl
    at_one binary64 = unfold round in refl

sum-none : (f : Format) (s : Bool) (a c : ℕ) → 0 < c → sum f s a (not s) a c ≡ fin false 0 (pos 0)
unfolding sum
sum-none f true a c C = rw (le-ltb a a (le_refl a), sub_self a) (round-none f c C)
sum-none f false a c C = rw (le-ltb a a (le_refl a), sub_self a) (round-none f c C)

pub less-itself : (f : Format) (x : Float) → eq (sub f x x) (fin false 0 (pos 0)) ≡ finite x
unfolding sub eq
less-itself f nan = refl
less-itself f (inf true) = refl
less-itself f (inf false) = refl
less-itself f (fin s m e) = ap (λ (y : Float). eq y (fin false 0 (pos 0))) (sum-none f s (m * up e * down e) (down e * down e) (mul-pos (down_pos e) (down_pos e)))

-- ---- the ends

-- nothing is below minus infinity
pub none_below : (x : Float) → lt x (inf true) ≡ false
unfolding lt
none_below nan = refl
none_below (inf true) = refl
none_below (inf false) = refl
none_below (fin s m e) = refl

-- nothing is above infinity
pub none_above : (x : Float) → lt (inf false) x ≡ false
unfolding lt
none_above nan = refl
none_above (inf true) = refl
none_above (inf false) = refl
none_above (fin s m e) = refl
