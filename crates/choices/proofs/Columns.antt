-- The column that the left-right test looks up: it is a number, and inside the row it is an index. Assumes nothing.
use Rattle.std.proofs.Common.{◌≡◌, ℕ, ◌+◌, ◌-◌, ◌*◌, ◌^◌, ◌<◌, ◌≤◌, Bool, true, false, cond, not, ◌&&◌, T, eqb, ltb, pos, sym, refl, ◌∙◌, true≢false, mul-le-mul_right, div-lt_iff_lt-mul, lt_of_mul-lt-mul_right, mul-one, mul_right_comm, arith, lt→ltb, ltb-false}
use mathlib.Core.Bool.{beq, and-true}
use native.Mathlib.Numerals.{lt_of_le_of_ne}
use borrow.Author.Tests.{eqb-false}
use lib.Ieee.{Float, Format, nan, inf, fin, binary32, lt, le, eq, neg, add, sub, sum, round, of_int, to_unsigned, is_nan, up, down}
use lib.Ieee.Fits.{down_pos}
use lib.Ieee.Exact.{HasValue}
use lib.Ieee.Scale.{finite}
use lib.Ieee.Back.{round_whole}
use Rattle.lists.proofs.Tests.{or-false}
use Rattle.numbers.proofs.Patterns.{round-no-nan}
use Rattle.numbers.proofs.HalfAway.{away-no-nan}
use Rattle.choices.specs.LeftRight.{column}
use Rattle.numbers.proofs.Values.{above_minus_one, below_top, cut}

-- ---- a number

either : (u : Bool) (x y : Float) → T (not (is_nan x)) → T (not (is_nan y)) → T (not (is_nan (cond u x y)))
either true x y p q = p
either false x y p q = q

sum_number : (f : Format) (s : Bool) (a : ℕ) (t : Bool) (b c : ℕ) → T (not (is_nan (sum f s a t b c)))
unfolding sum
sum_number f s a t b c =
    either (beq s t) _ _ (round-no-nan f s (a + b) c)
    (either (ltb a b) _ _ (round-no-nan f t (b - a) c) (round-no-nan f (s && ltb b a) (a - b) c))

sub_number : (f : Format) (x y : Float) → T (finite x) → T (finite y) → T (not (is_nan (sub f x y)))
unfolding sub add neg
sub_number f nan y p q = absurd p
sub_number f (inf s) y p q = absurd p
sub_number f (fin s m e) nan p q = absurd q
sub_number f (fin s m e) (inf t) p q = absurd q
sub_number f (fin s m e) (fin t n g) p q = sum_number f s (m * up e * down g) (not t) (n * up g * down e) (down e * down g)

value-finite : (x : Float) (s : Bool) (a c : ℕ) → HasValue x s a c → T (finite x)
value-finite nan s a c v = v
value-finite (inf t) s a c v = v
value-finite (fin t m e) s a c v = tt

pub column-number : (x : ℕ) (d : Float) → x ≤ 2 ^ 24 → T (finite d) → T (not (is_nan (column x d)))
unfolding of_int
column-number x d h t =
    away-no-nan binary32 _ (sub_number binary32 _ d (value-finite (round binary32 false x 1) false x 1 (round_whole binary32 false x h)) t)

-- ---- inside the row

-- what the tests on a column ask of it as an index
pub record Index (xr : Float) (w : ℕ) : Type 0 where
  pub above : T (lt (fin true 1 (pos 0)) xr)
  pub below : T (lt xr (fin false 1 (pos 64)))
  pub inside : to_unsigned 64 xr < w

-- n / d is below w where it is below a float of that value
below-value : (n d w k g : ℕ) → k ≡ w * g → n * g < k * d → n < w * d
below-value n d w k g e h = lt_of_mul-lt-mul_right g (rw (e, mul_right_comm w g d) at h)

in-width : (wf xr : Float) (w : ℕ) → HasValue wf false w 1 → 0 < w → w ≤ 2 ^ 24 → T (not (is_nan xr)) → lt xr (fin false 0 (pos 0)) ≡ false → le wf xr ≡ false → Index xr w
unfolding le lt eq to_unsigned is_nan
in-width nan xr w v W S n l h = absurd v
in-width (inf t) xr w v W S n l h = absurd v
in-width (fin true m e) xr w v W S n l h = absurd (true≢false v.0)
in-width (fin false k g) nan w v W S n l h = absurd n
in-width (fin false k g) (inf true) w v W S n l h = absurd (true≢false l)
in-width (fin false k g) (inf false) w v W S n l h = absurd (true≢false h)
in-width (fin false k g) (fin true m e) w v W S n l h =
    let none : m * up e * 1 ≡ 0 = omega (arith, ltb-false 0 (m * up e * 1 + 0 * down e) l) in
    record {
      above = lt→ltb (m * up e * 1) (1 * down e) (omega (arith, down_pos e));
      below = lt→ltb 0 (m * up e * 1 + 2 ^ 64 * down e) (omega (arith, down_pos e));
      inside = W;
    }
in-width (fin false k g) (fin false m e) w v W S n l h =
    let tests = or-false (ltb (k * up g * down e) (m * up e * down g)) (eqb (k * up g * down e) (m * up e * down g) && true) h in
    let le' : m * up e * down g ≤ k * up g * down e = ltb-false _ _ tests.0 in
    let ne' = eqb-false (k * up g * down e) (m * up e * down g) (sym (and-true _) ∙ tests.1) in
    let value : k * up g ≡ w * down g = sym (mul-one (k * up g)) ∙ v.1 in
    let small : m * up e < w * down e = below-value (m * up e) (down e) w (k * up g) (down g) value (lt_of_le_of_ne le' (λ q. ne' (sym q))) in
    let low' : m * up e < 2 ^ 64 * down e = omega (arith, small, mul-le-mul_right (down e) S) in
    let own : HasValue (fin false m e) false (m * up e) (down e) = (refl, refl) in
    record {
      above = above_minus_one (m * up e) (down e) (down_pos e) (fin false m e) own;
      below = below_top (m * up e) (down e) (down_pos e) (fin false m e) own low';
      inside = rw (cut (m * up e) (down e) (down_pos e) (fin false m e) own low') ((div-lt_iff_lt-mul (down_pos e)).1 small);
    }

pub column-index : (xr : Float) (w : ℕ) → 0 < w → w ≤ 2 ^ 24 → T (not (is_nan xr)) → lt xr (fin false 0 (pos 0)) ≡ false → le (of_int binary32 (pos w)) xr ≡ false → Index xr w
unfolding of_int
column-index xr w W S n l h = in-width (round binary32 false w 1) xr w (round_whole binary32 false w S) W S n l h
