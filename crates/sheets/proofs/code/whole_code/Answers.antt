-- `sheets::code::whole_code` meets its contract: a cell of kind 0 passes every test, and what passes them is the float of its whole part. Assumes nothing.
use Rattle.std.proofs.Common.{◌≡◌, ℕ, zero, suc, ◌+◌, ◌*◌, ◌^◌, ◌<◌, ◌≤◌, Bool, true, false, T, ℤ, pos, negsuc, nat_abs, sym, refl, ap, ◌∙◌, subst, true≢false, le_trans, mul-le-mul_right, zero-lt-suc, mul_comm, mul-one, mul_right_comm, le_of_mul-le-mul_right, arith, lit≤, le→leb, rules, ltb-false, le-ltb, lt-ltb, le-leb, leb-true}
use mathlib.Core.Bool.{false≢true}
use native.Mathlib.Nat.{div-le_of_le-mul}
use lib.Ieee.{Float, nan, inf, fin, binary32, up, down, round, lt, neg, in_float, to_signed, to_unsigned, of_int, fits, to_bits, of_bits}
use lib.Ieee.Fits.{down_pos, neg-fits, of_int-fits}
use lib.Ieee.Exact.{HasValue}
use lib.Ieee.Scale.{finite}
use lib.Ieee.Order.{transfer}
use lib.Ieee.Back.{round_whole, unsigned_back}
use lib.Ieee.Bits.{of_bits-to_bits}
use Rattle.numbers.specs.Plain.{magnitude_of}
use Rattle.numbers.proofs.Patterns.{neg-round, sized-round, round-no-nan}
use Rattle.numbers.proofs.Values.{above_minus_one, below_top, cut}
use Rattle.sheets.specs.declared.code.Kind.TheVariants.{Whole}
use Rattle.sheets.specs.Limits.{whole_most}
use Rattle.refusals.specs.Steps.{is, refused}
use Rattle.sheets.specs.Code.{is_whole, code_of}
use Rattle.numbers.proofs.FinitePatterns.{finite_number}
use Rattle.sheets.proofs.Codes.{whole_float, whole_in, code-unwhole, code-of-int}
use Rattle.sheets.proofs.code.whole_code.Goals.{After-truncating_f32_to_u64-n, Else-size}
use Rattle.sheets.proofs.code.whole_code.Goals as goal

-- the whole part of a cell's size
abbrev whole_part : Float → ℕ
whole_part x = to_unsigned 64 (magnitude_of x)

-- ---- what is not above the most: its whole part is not, and the cast has it

record Sized (most : ℕ) (x : Float) : Type 0 where
  pub above : T (lt (fin true 1 (pos 0)) (magnitude_of x))
  pub below : T (lt (magnitude_of x) (fin false 1 (pos 64)))
  pub part : whole_part x ≤ most

within : (most : ℕ) (y : Float) (m : ℕ) (e : ℤ) → HasValue y false most 1 → lt y (fin false m e) ≡ false → m * up e ≤ most * down e
unfolding lt
within most nan m e v h = absurd v
within most (inf s) m e v h = absurd v
within most (fin true n d) m e v h = absurd (true≢false v.0)
within most (fin false n d) m e v h = cancel (m * up e) (down e) (n * up d) (down d) (down_pos d) v.1 (ltb-false (n * up d * down e) (m * up e * down d) h)
  where
    cancel : (p q r s : ℕ) → 0 < s → r * 1 ≡ most * s → p * s ≤ r * q → p ≤ most * q
    cancel p q r s S e h =
        let same : r * q ≡ most * q * s = ap (λ (w : ℕ). w * q) (sym (mul-one r) ∙ e) ∙ mul_right_comm most s q in
        le_of_mul-le-mul_right (subst (λ (w : ℕ). p * s ≤ w) same h) S

sized : (most : ℕ) (x : Float) → most ≤ 2 ^ 24 → finite x ≡ true → lt (of_int binary32 (pos most)) (magnitude_of x) ≡ false → Sized most x
unfolding magnitude_of of_int
sized most nan few f h = absurd (false≢true f)
sized most (inf s) few f h = absurd (false≢true f)
sized most (fin s m e) few f h =
    let D = down_pos e in
    let v : HasValue (fin false m e) false (m * up e) (down e) = (refl, refl) in
    let near : m * up e ≤ most * down e = within most (round binary32 false most 1) m e (round_whole binary32 false most few) h in
    let range : m * up e < 2 ^ 64 * down e = omega (arith, mul-le-mul_right (down e) few) in
    record {
      above = above_minus_one _ _ D _ v;
      below = below_top _ _ D _ v range;
      part = rw (cut _ _ D _ v range) (div-le_of_le-mul (down e) (rw (mul_comm (down e) most) near));
    }

-- ---- the tests at the float of a whole number

size-int : (z : ℤ) → magnitude_of (of_int binary32 z) ≡ of_int binary32 (pos (nat_abs z))
unfolding of_int
size-int (pos n) = sized-round binary32 false n 1
size-int (negsuc n) = sized-round binary32 true (suc n) 1

part-int : (z : ℤ) → nat_abs z ≤ 2 ^ 24 → whole_part (of_int binary32 z) ≡ nat_abs z
unfolding in_float
part-int z h = rw (size-int z) (unsigned_back binary32 64 (nat_abs z) (le→leb (nat_abs z) (2 ^ 24) h) (omega arith)).1

not-above : (x y : Float) (a b : ℕ) → HasValue x false a 1 → HasValue y false b 1 → b ≤ a → lt x y ≡ false
unfolding lt
not-above nan y a b v w h = absurd v
not-above (inf s) y a b v w h = absurd v
not-above (fin s m e) nan a b v w h = absurd w
not-above (fin s m e) (inf t) a b v w h = absurd w
not-above (fin true m e) (fin t n d) a b v w h = absurd (true≢false v.0)
not-above (fin false m e) (fin true n d) a b v w h = absurd (true≢false w.0)
not-above (fin false m e) (fin false n d) a b v w h =
    le-ltb (m * up e * down d) (n * up d * down e) (transfer (n * up d) (m * up e) (down d) (down e) b a 1 1 (zero-lt-suc 0) (zero-lt-suc 0) w.1 v.1 (omega arith))

not-above-int : (most : ℕ) (z : ℤ) → most ≤ 2 ^ 24 → nat_abs z ≤ most → lt (of_int binary32 (pos most)) (magnitude_of (of_int binary32 z)) ≡ false
unfolding of_int
not-above-int most z few h =
    rw (size-int z) (not-above _ _ most (nat_abs z) (round_whole binary32 false most few) (round_whole binary32 false (nat_abs z) (le_trans h few)) h)

-- below zero are the negative ones
abbrev zero-float : Float
zero-float = fin false 0 (pos 0)

positive-above : (y : Float) (a : ℕ) → HasValue y false a 1 → lt y zero-float ≡ false
unfolding lt
positive-above nan a v = absurd v
positive-above (inf s) a v = absurd v
positive-above (fin true m e) a v = absurd (true≢false v.0)
positive-above (fin false m e) a v = le-ltb (m * up e * 1) (0 * down e) (omega arith)

negative-below : (y : Float) (k : ℕ) → HasValue y true (suc k) 1 → lt y zero-float ≡ true
unfolding lt
negative-below nan k v = absurd v
negative-below (inf s) k v = absurd v
negative-below (fin false m e) k v = absurd (false≢true v.0)
negative-below (fin true m e) k v = lt-ltb 0 (m * up e * 1 + 0 * down e) (omega (arith, v.1, down_pos e))

-- with the sign of what is below zero, or not
abbrev signed : Bool → Float → Float
signed true y = neg y
signed false y = y

back : (below : Bool) (z : ℤ) → nat_abs z ≤ 2 ^ 24 → lt (of_int binary32 z) zero-float ≡ below → signed below (of_int binary32 (pos (whole_part (of_int binary32 z)))) ≡ of_int binary32 z
unfolding of_int
back true (pos n) h l = absurd (false≢true (sym (positive-above _ n (round_whole binary32 false n h)) ∙ l))
back true (negsuc k) h l = rw (part-int (negsuc k) h) (neg-round binary32 false (suc k) 1)
back false (pos n) h l = rw (part-int (pos n) h)
back false (negsuc k) h l = absurd (true≢false (sym (negative-below _ k (round_whole binary32 true (suc k) h)) ∙ l))

-- ---- the function

same_bits : (x y : Float) → T (fits binary32 x) → T (fits binary32 y) → to_bits binary32 x ≡ to_bits binary32 y → x ≡ y
same_bits x y p q e = sym (of_bits-to_bits binary32 x p) ∙ ap (of_bits binary32) e ∙ of_bits-to_bits binary32 y q

-- what is refused: were it a cell of kind 0, it would pass
refuses : (x : Float) → T (fits binary32 x) → finite x ≡ true → ((z : ℤ) → of_int binary32 z ≡ x → nat_abs z ≤ whole_most → ⊥) → code_of Whole x ≡ refused 32
refuses x p f never = code-unwhole x f (go (is_whole x) refl)
  where
    go : (b : Bool) → is_whole x ≡ b → b ≡ false
    go true w = absurd (never (to_signed 31 x) (whole_float x p w) (leb-true (nat_abs (to_signed 31 x)) whole_most (whole_in x w)))
    go false w = refl

refuses-large : (x : Float) → T (fits binary32 x) → finite x ≡ true → lt (of_int binary32 (pos whole_most)) (magnitude_of x) ≡ true → code_of Whole x ≡ refused 32
refuses-large x p f over = refuses x p f (λ z e h. true≢false (sym over ∙ under z e h))
  where
    under : (z : ℤ) → of_int binary32 z ≡ x → nat_abs z ≤ whole_most → lt (of_int binary32 (pos whole_most)) (magnitude_of x) ≡ false
    under z e h = rw (← e) (not-above-int whole_most z (lit≤ tt) h)

refuses-other : (below : Bool) (x : Float) (n : ℕ) → T (fits binary32 x) → finite x ≡ true → lt x zero-float ≡ below → n ≡ whole_part x
    → (to_bits binary32 (signed below (of_int binary32 (pos n))) ≡ to_bits binary32 x → ⊥) → code_of Whole x ≡ refused 32
refuses-other below x n p f l whole differ = refuses x p f (λ z e h. differ (ap (to_bits binary32) (again z e h)))
  where
    again : (z : ℤ) → of_int binary32 z ≡ x → nat_abs z ≤ whole_most → signed below (of_int binary32 (pos n)) ≡ x
    again z e h = rw whole (subst (λ (y : Float). lt y zero-float ≡ below → signed below (of_int binary32 (pos (whole_part y))) ≡ y) e (back below z (omega arith)) l)

takes-below : (x : Float) (n : ℕ) → lt x zero-float ≡ true → n ≤ whole_most → x ≡ neg (of_int binary32 (pos n)) → code_of Whole x ≡ is (n * 2)
unfolding of_int
takes-below x zero l h e = absurd (false≢true (unfold neg round lt in subst (λ (y : Float). lt y zero-float ≡ true) e l))
takes-below x (suc k) l h e =
    let number : suc (2 * k + 1) ≡ suc k * 2 = omega arith in
    rw (e, neg-round binary32 false (suc k) 1, ← number) (code-of-int (negsuc k) (le-leb (suc k) whole_most h))

takes-above : (x : Float) (n : ℕ) → n ≤ whole_most → x ≡ of_int binary32 (pos n) → code_of Whole x ≡ is (n * 2 + 1)
takes-above x n h e =
    let number : suc (2 * n) ≡ n * 2 + 1 = omega arith in
    rw (e, ← number) (code-of-int (pos n) (le-leb n whole_most h))

parts : (c : Else-size) → Sized whole_most c.args.x
parts c = sized whole_most c.args.x (lit≤ tt) c.requires (rw c.magnitude-size.ensures at c.if-size.false)

part : (c : After-truncating_f32_to_u64-n) → c.truncating_f32_to_u64-n.result ≡ whole_part c.args.x
part c = c.truncating_f32_to_u64-n.ensures ∙ ap (to_unsigned 64) c.magnitude-size.ensures

few : (c : After-truncating_f32_to_u64-n) → c.truncating_f32_to_u64-n.result ≤ whole_most
few c = rw (part c) (parts (goal.at.After-truncating_f32_to_u64-n c).Else-size).part

pub int_to_float-t-5 : goal.int_to_float-t-5
unfolding in_float
int_to_float-t-5 c = tt

pub returns-then-size : goal.returns-then-size
returns-then-size c = rw (refuses-large c.args.x (search rules) c.requires (rw c.magnitude-size.ensures at c.if-size.true))

pub truncating_f32_to_u64-n-requires : goal.truncating_f32_to_u64-n-requires
truncating_f32_to_u64-n-requires c = rw c.magnitude-size.ensures (record { lower_bound = (parts c).above; upper_bound = (parts c).below })

pub int_to_float-whole : goal.int_to_float-whole
unfolding in_float
int_to_float-whole c = le→leb c.truncating_f32_to_u64-n.result (2 ^ 24) (omega (arith, few (goal.at.int_to_float-whole c).After-truncating_f32_to_u64-n))

pub float_to_bits-whole : goal.float_to_bits-whole
unfolding of_int
float_to_bits-whole c = rw neg-round (round-no-nan binary32 true c.truncating_f32_to_u64-n.result 1)

pub float_to_bits-x : goal.float_to_bits-x
float_to_bits-x c = finite_number _ c.requires

pub returns-then-whole-x : goal.returns-then-whole-x
unfolding of_bits
returns-then-whole-x c =
    rw (refuses-other true c.args.x _ (search rules) c.requires c.if-x.true (part (goal.at.returns-then-whole-x c).After-truncating_f32_to_u64-n) c.if-whole-x.true)

pub overflow_mul-result : goal.overflow_mul-result
overflow_mul-result c = omega (arith, few (goal.at.overflow_mul-result c).After-truncating_f32_to_u64-n)

pub returns-then-x : goal.returns-then-x
unfolding of_bits
returns-then-x c =
    let x = c.args.x in
    let n = c.truncating_f32_to_u64-n.result in
    let same = same_bits (neg (of_int binary32 (pos n))) x (neg-fits binary32 _ (of_int-fits binary32 (pos n))) (search rules) c.if-whole-x.false in
    rw (takes-below x n c.if-x.true (few (goal.at.returns-then-x c).After-truncating_f32_to_u64-n) (sym same))

pub float_to_bits-whole-2 : goal.float_to_bits-whole-2
unfolding of_int
float_to_bits-whole-2 c = round-no-nan binary32 false c.truncating_f32_to_u64-n.result 1

pub float_to_bits-x-2 : goal.float_to_bits-x-2
float_to_bits-x-2 c = finite_number _ c.requires

pub returns-then-whole-x-2 : goal.returns-then-whole-x-2
unfolding of_bits
returns-then-whole-x-2 c =
    rw (refuses-other false c.args.x _ (search rules) c.requires c.if-x.false (part (goal.at.returns-then-whole-x-2 c).After-truncating_f32_to_u64-n) c.if-whole-x-2.true)

pub overflow_mul-result-2 : goal.overflow_mul-result-2
overflow_mul-result-2 c = omega (arith, few (goal.at.overflow_mul-result-2 c).After-truncating_f32_to_u64-n)

pub overflow_add-result : goal.overflow_add-result
overflow_add-result c = omega (arith, few (goal.at.overflow_add-result c).After-truncating_f32_to_u64-n)

pub returns : goal.returns
returns c =
    let x = c.args.x in
    let n = c.truncating_f32_to_u64-n.result in
    rw (takes-above x n (few (goal.at.returns c).After-truncating_f32_to_u64-n) (sym (same_bits (of_int binary32 (pos n)) x (of_int-fits binary32 (pos n)) (search rules) c.if-whole-x-2.false)))
