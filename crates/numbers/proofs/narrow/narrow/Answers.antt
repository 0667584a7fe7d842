-- `numbers::narrow::narrow` meets its contract. Assumes nothing.
use Rattle.std.proofs.Common.{◌≡◌, ℕ, ◌+◌, ◌-◌, ◌*◌, ◌^◌, ◌<◌, ◌≤◌, Bool, true, not, true≢false, T, sym, refl, ap, ◌∙◌, subst, arith}
use lib.Ieee.{Float, nan, inf, fin, binary32, binary64, fits, is_nan, of_bits, nan_bits, to_bits, div}
use lib.Ieee.Bits.{of_bits-to_bits, to_bits-lt}
use Rattle.numbers.specs.Narrow.{narrowed}
use Rattle.numbers.proofs.Narrowing.{sign, sign-lt, narrow-zero, narrow-small, narrow-normal, narrow-large, narrowed-nan, narrowed-no-nan}
use Rattle.numbers.proofs.Patterns.{no-nan-bits}
use Rattle.numbers.proofs.narrow.narrow.Goals.{After-rounded_off-normal, After-rounded_off-units, Else-size-lt5183643171103440896, Else-is_nan, Start, Then-size-lt3931642474694443008}
use Rattle.numbers.proofs.narrow.narrow.Goals as goal

-- 0.0 / 0.0
made-nan : div binary32 (of_bits binary32 0) (of_bits binary32 0) ≡ nan
unfolding div of_bits
made-nan = refl

no_number : (x : Float) → is_nan x ≡ true → x ≡ nan
unfolding is_nan
no_number nan e = refl
no_number (inf s) e = absurd (true≢false (sym e))
no_number (fin s m x) e = absurd (true≢false (sym e))

-- what owning an `f64` tells: the format holds it
held : (c : Start) → T (fits binary64 c.args.x)
held c = subst T (sym c.well_formed.0.1) tt

number : (c : Else-is_nan) → T (not (is_nan c.args.x))
number c = subst (λ (b : Bool). T (not b)) (sym c.if-is_nan.false ∙ c.is_nan.ensures.value) tt

word : (c : Start) → to_bits binary64 c.args.x < 2 ^ 64
word c = to_bits-lt binary64 c.args.x (held c)

again : (c : Start) → narrowed (of_bits binary64 (to_bits binary64 c.args.x)) ≡ narrowed c.args.x
again c = ap narrowed (of_bits-to_bits binary64 c.args.x (held c))

-- a pattern that is read as `narrowed x` is no NaN's
made : (c : Else-is_nan) (b : ℕ) → of_bits binary32 b ≡ narrowed c.args.x → T (not (nan_bits binary32 b))
made c b e = no-nan-bits binary32 b (narrowed c.args.x) e (narrowed-no-nan c.args.x (number c))

-- ---- the four patterns that are made

zero_is : (c : Then-size-lt3931642474694443008) → of_bits binary32 (sign (to_bits binary64 c.args.x)) ≡ narrowed c.args.x
zero_is c = narrow-zero (to_bits binary64 c.args.x) (word c.before.before.before.before) c.if-size-lt3931642474694443008.true ∙ again c.before.before.before.before

small_is : (c : After-rounded_off-units) → (c.rounded_off-units.result ≤ 2 ^ 24) × (of_bits binary32 (sign (to_bits binary64 c.args.x) + c.rounded_off-units.result) ≡ narrowed c.args.x)
small_is c =
    let start = c.before.before.before.before.before in
    let r = narrow-small (to_bits binary64 start.args.x) (word start) c.rounded_off-units.result c.if-size-lt3931642474694443008.false c.if-size-lt4039728865751334912.true c.rounded_off-units.ensures in
    (r.0, r.1 ∙ again start)

normal-is : (c : After-rounded_off-normal) → (c.rounded_off-normal.result ≤ 2 ^ 31 - 2 ^ 23) × (of_bits binary32 (sign (to_bits binary64 c.args.x) + c.rounded_off-normal.result) ≡ narrowed c.args.x)
normal-is c =
    let start = c.before.before.before.before.before in
    let r = narrow-normal (to_bits binary64 start.args.x) (word start) c.rounded_off-normal.result c.if-size-lt4039728865751334912.false c.if-size-lt5183643171103440896.true c.rounded_off-normal.ensures in
    (r.0, r.1 ∙ again start)

large_is : (c : Else-size-lt5183643171103440896) → of_bits binary32 (sign (to_bits binary64 c.args.x) + 255 * 2 ^ 23) ≡ narrowed c.args.x
large_is c =
    let start = c.before.before.before.before in
    narrow-large (to_bits binary64 start.args.x) (word start) c.if-size-lt5183643171103440896.false (subst (λ (x : Float). T (not (is_nan x))) (sym (of_bits-to_bits binary64 start.args.x (held start))) (number c.before.before)) ∙ again start

-- ---- the needs
pub returns-then-is_nan : goal.returns-then-is_nan
returns-then-is_nan c = made-nan ∙ sym (ap narrowed (no_number c.args.x (sym c.is_nan.ensures.value ∙ c.if-is_nan.true)) ∙ narrowed-nan)

pub float_to_bits-bits : goal.float_to_bits-bits
float_to_bits-bits c = number c

pub overflow_cast-result : goal.overflow_cast-result
overflow_cast-result c = omega (arith, sign-lt (to_bits binary64 c.args.x) (word c.before.before.before.before))

pub float_from_bits-result : goal.float_from_bits-result
float_from_bits-result c = made c.before.before (sign (to_bits binary64 c.args.x)) (zero_is c)

pub returns-then-size-lt3931642474694443008 : goal.returns-then-size-lt3931642474694443008
returns-then-size-lt3931642474694443008 c = zero_is c

pub overflow_add-result : goal.overflow_add-result
overflow_add-result c = omega (arith, (small_is c).0, sign-lt (to_bits binary64 c.args.x) (word c.before.before.before.before.before))

pub overflow_cast-result-then-size-lt4039728865751334912 : goal.overflow_cast-result-then-size-lt4039728865751334912
overflow_cast-result-then-size-lt4039728865751334912 c = omega (arith, (small_is c).0, sign-lt (to_bits binary64 c.args.x) (word c.before.before.before.before.before))

pub float_from_bits-result-then-size-lt4039728865751334912 : goal.float_from_bits-result-then-size-lt4039728865751334912
float_from_bits-result-then-size-lt4039728865751334912 c = made c.before.before.before (sign (to_bits binary64 c.args.x) + c.rounded_off-units.result) (small_is c).1

pub returns-then-size-lt4039728865751334912 : goal.returns-then-size-lt4039728865751334912
returns-then-size-lt4039728865751334912 c = (small_is c).1

pub overflow_add-result-then-size-lt5183643171103440896 : goal.overflow_add-result-then-size-lt5183643171103440896
overflow_add-result-then-size-lt5183643171103440896 c = omega (arith, (normal-is c).0, sign-lt (to_bits binary64 c.args.x) (word c.before.before.before.before.before))

pub overflow_cast-result-then-size-lt5183643171103440896 : goal.overflow_cast-result-then-size-lt5183643171103440896
overflow_cast-result-then-size-lt5183643171103440896 c = omega (arith, (normal-is c).0, sign-lt (to_bits binary64 c.args.x) (word c.before.before.before.before.before))

pub float_from_bits-result-then-size-lt5183643171103440896 : goal.float_from_bits-result-then-size-lt5183643171103440896
float_from_bits-result-then-size-lt5183643171103440896 c = made c.before.before.before (sign (to_bits binary64 c.args.x) + c.rounded_off-normal.result) (normal-is c).1

pub returns-then-size-lt5183643171103440896 : goal.returns-then-size-lt5183643171103440896
returns-then-size-lt5183643171103440896 c = (normal-is c).1

pub overflow_cast-result-2 : goal.overflow_cast-result-2
overflow_cast-result-2 c = omega (arith, sign-lt (to_bits binary64 c.args.x) (word c.before.before.before.before))

pub float_from_bits-result-2 : goal.float_from_bits-result-2
float_from_bits-result-2 c = made c.before.before (sign (to_bits binary64 c.args.x) + 255 * 2 ^ 23) (large_is c)

pub returns : goal.returns
returns c = large_is c
