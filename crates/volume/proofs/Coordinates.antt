-- A coordinate's whole number of millimetres: which one it is, that the test of the product before it is rounded is the test of that number, and that the cast to it loses nothing.
-- Assumes nothing.
use Prim.Native.Nat.{ℕ, zero, suc, ◌+◌, ◌-◌, ◌*◌, ◌/◌, ◌^◌, ◌≤◌, ◌<◌, min}
use native.Mathlib.Nat.{le_of_suc-le-suc, mul-one, mul-div_cancel, div-lt_iff_lt-mul, le-div_iff_mul-le}
use native.Mathlib.Omega.{arith}
use mathlib.Core.Path.{◌≡◌, refl, sym, ap, ◌∙◌, subst}
use mathlib.Core.Bool.{Bool, beq, true, false, not, ◌&&◌, ◌||◌, cond, true≢false, false≢true, and-true}
use lib.Dec.{T, leb, ltb, eqb, le→leb, lt→ltb, eqb→eq, lit<}
use borrow.Author.Tests.{ltb-true, ltb-false, leb-true, leb-false, lt-ltb, le-leb, lt-leb}
use mir.Syntax.{w64}
use mir.Val.{to_z, of_z}
use mir.ValLaws.{to_z-of_z}
use lib.IntN.{ℤ, pos, negsuc, neg_ℤ, nat_abs}
use lib.Ieee.{Float, nan, inf, fin, binary64, unlike, up, down, mul, lt, eq, round, of_int, to_signed, in_float, in_signed, fits, is_nan}
use lib.Ieee.Casts.{to_signed_in}
use lib.Ieee.Fits.{and_l, down_pos, mul-fits}
use lib.Ieee.Exact.{HasValue}
use lib.Ieee.Back.{positive_back, negative_back}
use Rattle.numbers.proofs.Patterns.{round-no-nan}
use Rattle.numbers.specs.Away.{nearest_whole, rounded_away}
use Rattle.volume.specs.Metres.{thousand, millimetres, size_most, is_near, good_coordinate}
use Rattle.numbers.proofs.HalfAway.{away-exact}

-- ---- a whole number n with the sign s, as a float and cast to an integer

abbrev pub signed : Bool → ℕ → ℤ
signed s n = cond s (neg_ℤ (pos n)) (pos n)

cast_is : (y : Float) (s : Bool) (n : ℕ) → HasValue y s n 1 → to_signed 63 y ≡ cond s (neg_ℤ (pos (min n (2 ^ 63)))) (pos (min n (2 ^ 63 - 1)))
unfolding to_signed
cast_is nan s n v = absurd v
cast_is (inf t) s n v = absurd v
cast_is (fin t m e) s n v =
    let whole : m * up e / down e ≡ n = ap (λ (a : ℕ). a / down e) (sym (mul-one (m * up e)) ∙ v.1) ∙ mul-div_cancel n (down_pos e) in
    rw (whole, v.0)

-- it is near exactly where n is at most the largest size
cast-near : (y : Float) (s : Bool) (n : ℕ) → HasValue y s n 1 → is_near (to_signed 63 y) ≡ leb n size_most
cast-near y s n v = rw (cast_is y s n v) (go s)
  where
    capped : (c : ℕ) → size_most < c → leb (min n c) size_most ≡ leb n size_most
    capped c large = test (leb n size_most) refl
      where
        test : (t : Bool) → leb n size_most ≡ t → leb (min n c) size_most ≡ t
        test true h = le-leb (min n c) size_most (omega (arith, leb-true n size_most h))
        test false h = lt-leb (min n c) size_most (omega (arith, leb-false n size_most h))

    size-neg : (k : ℕ) → nat_abs (neg_ℤ (pos k)) ≡ k
    size-neg zero = refl
    size-neg (suc k) = refl

    go : (s : Bool) → is_near (cond s (neg_ℤ (pos (min n (2 ^ 63)))) (pos (min n (2 ^ 63 - 1)))) ≡ leb n size_most
    go true = rw size-neg (capped (2 ^ 63) (lit< tt))
    go false = capped (2 ^ 63 - 1) (lit< tt)

cast-whole : (y : Float) (s : Bool) (n : ℕ) → HasValue y s n 1 → n ≤ size_most → to_signed 63 y ≡ signed s n
cast-whole y s n v few =
    let low : min n (2 ^ 63) ≡ n = omega arith in
    let high : min n (2 ^ 63 - 1) ≡ n = omega arith in
    cast_is y s n v ∙ rw (low, high)

-- a whole number that is not zero is cast without loss
whole-casts : (s : Bool) (n : ℕ) → n ≤ size_most → eq (round binary64 s n 1) (fin false 0 (pos 0)) ≡ false → T (in_signed binary64 63 (round binary64 s n 1))
unfolding of_int in_float
whole-casts false n few some = (positive_back binary64 63 n (le→leb n (2 ^ 53) (omega arith)) (omega arith)).0
whole-casts true zero few some = absurd (true≢false (unfold round eq in some))
whole-casts true (suc k) few some = (negative_back binary64 63 k (lt→ltb k (2 ^ 53) (omega arith)) (omega arith)).0

-- and zero is a zero
zero_is : (y : Float) (s : Bool) (n : ℕ) → HasValue y s n 1 → eq y (fin false 0 (pos 0)) ≡ true → n ≡ 0
unfolding eq
zero_is nan s n v none = absurd v
zero_is (inf t) s n v none = absurd v
zero_is (fin t m e) s n v none =
    let nothing : m * up e * 1 ≡ 0 * 1 * down e = eqb→eq _ _ (and_l (eqb (m * up e * 1) (0 * 1 * down e)) (beq t false || eqb (m * up e * 1) 0) (subst T (sym none) tt)) in
    go n (omega (arith, v.1))
  where
    go : (n : ℕ) → n * down e ≡ 0 → n ≡ 0
    go zero h = refl
    go (suc n) h = absurd (omega (arith, down_pos e, h))

-- ---- the product

abbrev pub product : Float → Float
product x = mul binary64 x thousand

-- 100000.5 and -100000.5
abbrev pub edge : Bool → Float
edge s = fin s 200001 (negsuc 0)

-- the code's test
abbrev pub between : Float → Bool
between y = lt y (edge false) && lt (edge true) y

-- the number of millimetres of a product, without its sign
abbrev pub whole_of : ℕ → ℤ → ℕ
whole_of m e = nearest_whole (m * up e) (down e)

rounded-value : (x : Float) (s : Bool) (m : ℕ) (e : ℤ) → product x ≡ fin s m e → HasValue (rounded_away binary64 (product x)) s (whole_of m e) 1
rounded-value x s m e p = rw p (away-exact binary64 s m e (subst (λ (y : Float). T (fits binary64 y)) p (mul-fits binary64 x thousand)))

-- below half a millimetre beyond the largest size a product rounds to that size at most
half-beyond : (a d : ℕ) → 0 < d → ltb (a * 2) (200001 * d) ≡ leb (nearest_whole a d) size_most
half-beyond a d positive = go (ltb (a * 2) (200001 * d)) refl
  where
    divisor : 0 < 2 * d
    divisor = omega arith

    go : (t : Bool) → ltb (a * 2) (200001 * d) ≡ t → t ≡ leb (nearest_whole a d) size_most
    go true h =
        let small : 2 * a + d < 100001 * (2 * d) = omega (arith, ltb-true (a * 2) (200001 * d) h) in
        sym (le-leb (nearest_whole a d) size_most (le_of_suc-le-suc ((div-lt_iff_lt-mul divisor).1 small)))
    go false h =
        let large : 100001 * (2 * d) ≤ 2 * a + d = omega (arith, ltb-false (a * 2) (200001 * d) h) in
        sym (lt-leb (nearest_whole a d) size_most ((le-div_iff_mul-le divisor).1 large))

between-finite : (s : Bool) (m : ℕ) (e : ℤ) → between (fin s m e) ≡ leb (whole_of m e) size_most
unfolding lt
between-finite true m e =
    rw (lt-ltb 0 (m * up e * 2 + 200001 * down e) (omega (arith, down_pos e))) (half-beyond (m * up e) (down e) (down_pos e))
between-finite false m e =
    rw (lt-ltb 0 (200001 * down e + m * up e * 2) (omega (arith, down_pos e)), and-true) (half-beyond (m * up e) (down e) (down_pos e))

-- the test of a product is the test of the number that it is rounded to
between-near : (x : Float) → T (not (is_nan (product x))) → between (product x) ≡ is_near (millimetres x)
unfolding millimetres
between-near x number = go (product x) refl
  where
    go : (y : Float) → product x ≡ y → between (product x) ≡ is_near (to_signed 63 (rounded_away binary64 (product x)))
    go nan p = absurd (unfold is_nan in subst (λ (y : Float). T (not (is_nan y))) p number)
    go (inf true) p = rw p (unfold lt to_signed rounded_away in refl)
    go (inf false) p = rw p (unfold lt to_signed rounded_away in refl)
    go (fin s m e) p = ap between p ∙ between-finite s m e ∙ sym (cast-near (rounded_away binary64 (product x)) s (whole_of m e) (rounded-value x s m e p))

-- THEOREM: the code's test is the definition's, for every float
pub between-good : (x : Float) → between (product x) ≡ good_coordinate x
unfolding good_coordinate
between-good nan = unfold lt mul in refl
between-good (inf true) = unfold lt mul in refl
between-good (inf false) = unfold lt mul in refl
between-good (fin s m e) = between-near (fin s m e) (unfold mul in round-no-nan binary64 (unlike s false) (m * up e * 1000) (down e * 1))

-- ---- a good coordinate

-- rounds to no more than the largest size
good-few : (x : Float) (s : Bool) (m : ℕ) (e : ℤ) → product x ≡ fin s m e → good_coordinate x ≡ true → whole_of m e ≤ size_most
good-few x s m e p good = leb-true (whole_of m e) size_most (sym (between-finite s m e) ∙ sym (ap between p) ∙ between-good x ∙ good)

-- its product is a number, and rounds to no more
pub record Product (x : Float) : Type 0 where
  pub sign : Bool
  pub digits : ℕ
  pub exponent : ℤ
  pub is : product x ≡ fin sign digits exponent
  pub few : whole_of digits exponent ≤ size_most

pub good-product : (x : Float) → good_coordinate x ≡ true → Product x
good-product x good = go (product x) refl
  where
    passes : between (product x) ≡ true
    passes = between-good x ∙ good

    go : (y : Float) → product x ≡ y → Product x
    go nan p = absurd (false≢true (unfold lt in rw p at passes))
    go (inf true) p = absurd (false≢true (unfold lt in rw p at passes))
    go (inf false) p = absurd (false≢true (unfold lt in rw p at passes))
    go (fin s m e) p = record { sign = s; digits = m; exponent = e; is = p; few = good-few x s m e p good }

-- the rounded product of a good coordinate is cast without loss where it is not zero, and else the number is 0
module _ (x : Float) (good : good_coordinate x ≡ true) where
  rounded-product : HasValue (rounded_away binary64 (product x)) (good-product x good).sign (whole_of (good-product x good).digits (good-product x good).exponent) 1
  rounded-product = let z = good-product x good in rounded-value x z.sign z.digits z.exponent z.is

  pub rounded-casts : eq (rounded_away binary64 (product x)) (fin false 0 (pos 0)) ≡ false → T (in_signed binary64 63 (rounded_away binary64 (product x)))
  unfolding rounded_away
  rounded-casts some = let z = good-product x good in rw z.is (whole-casts z.sign (whole_of z.digits z.exponent) z.few (rw z.is at some))

  pub rounded-none : eq (rounded_away binary64 (product x)) (fin false 0 (pos 0)) ≡ true → millimetres x ≡ pos 0
  unfolding millimetres
  rounded-none none =
      let z = good-product x good in
      cast_is _ _ _ rounded-product ∙ rw (zero_is _ _ _ rounded-product none) (either z.sign)
    where
      either : (s : Bool) → cond s (neg_ℤ (pos (min 0 (2 ^ 63)))) (pos (min 0 (2 ^ 63 - 1))) ≡ pos 0
      either true = refl
      either false = refl

-- a number of millimetres comes back from its bits
pub millimetres-back : (x : Float) → to_z w64 (of_z w64 (millimetres x)) ≡ millimetres x
unfolding millimetres
millimetres-back x = to_z-of_z w64 (millimetres x) (record { sfits = to_signed_in 63 (rounded_away binary64 (product x)) })

-- THEOREM: a good coordinate is the nearest whole number of millimetres of its product, a half away from zero
pub millimetres-exact : (x : Float) (s : Bool) (m : ℕ) (e : ℤ) → product x ≡ fin s m e → good_coordinate x ≡ true → millimetres x ≡ signed s (whole_of m e)
unfolding millimetres
millimetres-exact x s m e p good = cast-whole _ s (whole_of m e) (rounded-value x s m e p) (good-few x s m e p good)
