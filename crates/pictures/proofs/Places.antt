-- A coordinate clamped to a side: it lies from zero to the last pixel, so its whole part and the next pixel do. Assumes nothing.
use Rattle.std.proofs.Common.{◌≡◌, ℕ, ◌+◌, ◌-◌, ◌*◌, ◌/◌, ◌^◌, ◌<◌, ◌≤◌, Bool, true, false, cond, T, ltb, ℤ, pos, sym, refl, ap, ◌∙◌, subst, true≢false, le_trans, le_of_eq, mul-le-mul_right, zero-lt-suc, mul_comm, mul-one, mul_right_comm, le_of_mul-le-mul_right, arith, lit≤, le→leb, lt→ltb, ltb-false}
use native.Mathlib.Nat.{div-le_of_le-mul}
use lib.Ieee.{Float, nan, inf, fin, binary64, up, down, round, lt, le, of_int, in_float, to_unsigned, is_nan}
use lib.Ieee.Exact.{HasValue}
use lib.Ieee.Fits.{down_pos}
use lib.Ieee.Back.{round_whole}
use lib.Ieee.Order.{le_of_values}
use Rattle.std.specs.Float.{float_clamp}
use Rattle.numbers.proofs.Values.{above_minus_one, below_top, cut}
use Rattle.options.proofs.Sides.{SideFits}
use Rattle.numbers.specs.Operators.{◌⊖◌, float}
use Rattle.pictures.specs.Bilinear.{one, clamped, place_of}
use Rattle.pictures.specs.Bilinear as bilinear
use Rattle.pictures.proofs.Values.{sub_at, lt_at, Upto, upto-of-value}

-- ---- whole numbers as f64

-- a whole number up to 2 ^ 53 is held
pub counted : (n : ℕ) → n ≤ 2 ^ 53 → T (in_float binary64 (pos n))
unfolding in_float
counted n h = le→leb n (2 ^ 53) h

pub float-val : (n : ℕ) → n ≤ 2 ^ 53 → HasValue (float n) false n 1
unfolding of_int
float-val n h = round_whole binary64 false n h

pub one-val : HasValue one false 1 1
one-val = (refl, refl)

-- the last pixel's coordinate
pub last-val : (n : ℕ) → SideFits n → HasValue (float n ⊖ one) false (n - 1) 1
last-val n g =
    subst (λ (x : Float). HasValue x false (n - 1) 1)
    (sym (sub_at binary64 n 1 1 1 (zero-lt-suc 0) (zero-lt-suc 0) (float n) one (float-val n (le_trans g.most (lit≤ tt))) one-val (omega (arith, g.least))
    ∙ ap (λ (k : ℕ). round binary64 false (k - 1) 1) (mul-one n)))
    (round_whole binary64 false (n - 1) (omega (arith, g.most)))

pub zero-val : HasValue bilinear.plus_zero false 0 1
zero-val = (refl, refl)

-- ---- the ends of a side are in order, so std's clamp is the definition's
module _ (n : ℕ) (g : SideFits n) where
  pub in-order : T (le bilinear.plus_zero (float n ⊖ one))
  in-order = le_of_values bilinear.plus_zero (float n ⊖ one) 0 1 (n - 1) 1 (zero-lt-suc 0) (zero-lt-suc 0) zero-val (last-val n g) (omega arith)

  pub clamp-is : (t : Float) → float_clamp t bilinear.plus_zero (float n ⊖ one) ≡ clamped t bilinear.plus_zero (float n ⊖ one)
  unfolding clamped
  clamp-is t = go (lt t bilinear.plus_zero) (lt_at binary64 (n - 1) 1 0 1 (zero-lt-suc 0) (zero-lt-suc 0) (float n ⊖ one) bilinear.plus_zero (last-val n g) zero-val (omega arith))
    where
      hi : Float
      hi = float n ⊖ one

      go : (b : Bool) → lt hi bilinear.plus_zero ≡ false → cond b bilinear.plus_zero (cond (lt hi t) hi t) ≡ let y = cond b bilinear.plus_zero t in cond (lt hi y) hi y
      go true e = rw e
      go false e = refl

-- ---- the clamped coordinate lies from zero to k, the upper end hi

module _ (k : ℕ) (hi : Float) (v : HasValue hi false k 1) where
  -- hi itself, or what is so already
  either : (b : Bool) (x : Float) → Upto x k 1 → Upto (cond b hi x) k 1
  either true x p = upto-of-value hi k 1 k 1 (zero-lt-suc 0) v (omega arith)
  either false x p = p

  zero-first : (b : Bool) → Upto (cond b hi bilinear.plus_zero) k 1
  zero-first b = either b bilinear.plus_zero (omega arith)

-- what the test does not find above hi
topped : (k : ℕ) (hi : Float) (m : ℕ) (e : ℤ) → HasValue hi false k 1 → Upto (cond (lt hi (fin false m e)) hi (fin false m e)) k 1
unfolding lt
topped k nan m e v = absurd v
topped k (inf s) m e v = absurd v
topped k (fin true i g) m e v = absurd (true≢false v.0)
topped k (fin false i g) m e v = go (ltb (i * up g * down e) (m * up e * down g)) refl
  where
    held : m * up e * down g ≤ i * up g * down e → m * up e ≤ k * down e
    held h =
        le_of_mul-le-mul_right
        (le_trans h (le_of_eq (ap (λ (z : ℕ). z * down e) (sym (mul-one (i * up g)) ∙ v.1) ∙ mul_right_comm k (down g) (down e))))
        (down_pos g)

    go : (b : Bool) → ltb (i * up g * down e) (m * up e * down g) ≡ b → Upto (cond b (fin false i g) (fin false m e)) k 1
    go true h = le_of_eq v.1
    go false h = omega (arith, held (ltb-false (i * up g * down e) (m * up e * down g) h))

pub clamped-upto : (k : ℕ) (t hi : Float) → is_nan t ≡ false → HasValue hi false k 1 → Upto (clamped t bilinear.plus_zero hi) k 1
unfolding clamped lt is_nan
clamped-upto k nan hi n v = absurd (true≢false n)
clamped-upto k (inf true) hi n v = zero-first k hi v (lt hi bilinear.plus_zero)
clamped-upto k (inf false) nan n v = absurd v
clamped-upto k (inf false) (inf s) n v = absurd v
clamped-upto k (inf false) (fin s i g) n v = either k (fin s i g) v true bilinear.plus_zero (omega arith)
clamped-upto k (fin true m e) hi n v = go (ltb 0 (m * up e * 1 + 0 * 1 * down e)) refl
  where
    none : m * up e * 1 + 0 * 1 * down e ≤ 0 → m * up e ≡ 0
    none h = omega arith

    go : (b : Bool) → ltb 0 (m * up e * 1 + 0 * 1 * down e) ≡ b → Upto (cond (lt hi (cond b bilinear.plus_zero (fin true m e))) hi (cond b bilinear.plus_zero (fin true m e))) k 1
    go true h = zero-first k hi v (lt hi bilinear.plus_zero)
    go false h = either k hi v (lt hi (fin true m e)) (fin true m e) (none (ltb-false 0 (m * up e * 1 + 0 * 1 * down e) h))
clamped-upto k (fin false m e) hi n v = go (ltb (m * up e * 1) (0 * 1 * down e))
  where
    go : (b : Bool) → Upto (cond (lt hi (cond b bilinear.plus_zero (fin false m e))) hi (cond b bilinear.plus_zero (fin false m e))) k 1
    go true = zero-first k hi v (lt hi bilinear.plus_zero)
    go false = topped k hi m e v

-- ---- the whole part of a number from zero to k

pub upto-low : (k : ℕ) (x : Float) → Upto x k 1 → T (lt (fin true 1 (pos 0)) x)
unfolding lt
upto-low k nan v = absurd v
upto-low k (inf s) v = absurd v
upto-low k (fin true m e) v = lt→ltb (m * up e * 1) (1 * 1 * down e) (omega (arith, down_pos e))
upto-low k (fin false m e) v = above_minus_one (m * up e) (down e) (down_pos e) (fin false m e) (refl, refl)

small : (k m : ℕ) (e : ℤ) → k < 2 ^ 64 → Upto (fin false m e) k 1 → m * up e < 2 ^ 64 * down e
small k m e h v = by (m * up e) (down e) (down_pos e) v
  where
    by : (a d : ℕ) → 0 < d → a * 1 ≤ k * d → a < 2 ^ 64 * d
    by a d D l = omega (arith, mul-le-mul_right d h)

pub whole_is : (k m : ℕ) (e : ℤ) → k < 2 ^ 64 → Upto (fin false m e) k 1 → to_unsigned 64 (fin false m e) ≡ m * up e / down e
whole_is k m e h v = cut (m * up e) (down e) (down_pos e) (fin false m e) (refl, refl) (small k m e h v)

pub upto-high : (k : ℕ) (x : Float) → k < 2 ^ 64 → Upto x k 1 → T (lt x (fin false 1 (pos 64)))
unfolding lt
upto-high k nan h v = absurd v
upto-high k (inf s) h v = absurd v
upto-high k (fin true m e) h v = lt→ltb 0 (m * up e * 1 + 1 * 2 ^ 64 * down e) (omega (arith, down_pos e))
upto-high k (fin false m e) h v = below_top (m * up e) (down e) (down_pos e) (fin false m e) (refl, refl) (small k m e h v)

pub whole_part : (k : ℕ) (x : Float) → k < 2 ^ 64 → Upto x k 1 → to_unsigned 64 x ≤ k
whole_part k nan h v = absurd v
whole_part k (inf s) h v = absurd v
whole_part k (fin true m e) h v = unfold to_unsigned in omega arith
whole_part k (fin false m e) h v = rw (whole_is k m e h v) (div-le_of_le-mul (down e) (omega (arith, v, mul_comm k (down e))))

-- ---- a place on a side of n pixels

pub side-upto : (n : ℕ) (t : Float) → SideFits n → is_nan t ≡ false → Upto (clamped t bilinear.plus_zero (float n ⊖ one)) (n - 1) 1
side-upto n t g h = clamped-upto (n - 1) t (float n ⊖ one) h (last-val n g)
