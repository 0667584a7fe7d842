-- THEOREM: read at whole coordinates inside, `bilinear` gives the level that `pixel` gives. Assumes nothing.
use Rattle.std.proofs.Common.{◌≡◌, ℕ, ◌+◌, ◌-◌, ◌*◌, ◌^◌, ◌<◌, ◌≤◌, min, Bool, true, false, List, length, pos, sym, refl, ap, ◌∙◌, true≢false, le_trans, le_refl, le_of_lt, zero-lt-suc, mul-pos, mul-zero, mul-one, arith, lit≤}
use native.Mathlib.Nat.{sub_self}
use lib.Ieee.{Float, nan, inf, fin, binary64, up, down, unlike, round, lt, of_int, to_unsigned, is_nan}
use lib.Ieee as ieee
use lib.Ieee.Exact.{HasValue}
use lib.Ieee.Fits.{down_pos}
use lib.Ieee.Back.{unsigned_back}
use Rattle.lists.specs.Rows.{level_at}
use Rattle.options.proofs.Sides.{SideFits, side-fits}
use Rattle.refusals.specs.Answered.{first_of}
use Rattle.refusals.specs.Given.{number_back}
use Rattle.refusals.specs.Steps.{is}
use Rattle.refusals.proofs.Outcomes.{answer-number}
use Rattle.pictures.specs.Picture.{Bytes, level_rows, pixel_of}
use Rattle.numbers.specs.Operators.{◌⊕◌, ◌⊖◌, ◌⊗◌, float}
use Rattle.pictures.specs.Bilinear.{one, plus_zero, clamped, place_of, blended, value_at, sample_of, WholeAt, plain, minus-zero}
use Rattle.pictures.proofs.Shapes.{whole, Inside, inside, level-small}
use Rattle.pictures.proofs.Readings.{reading-none}
use Rattle.pictures.proofs.Values.{round-none, mul_at, add_at, sub_at, lt_at}
use Rattle.pictures.proofs.Places.{counted, float-val, one-val, zero-val, last-val}

-- ---- whole numbers up to 2 ^ 53, as f64

-- zero with either sign
abbrev zeroed : Bool → Float
zeroed s = fin s 0 (pos 0)

module _ (n : ℕ) (h : n ≤ 2 ^ 53) where
  float_is : float n ≡ round binary64 false n 1
  unfolding of_int
  float_is = refl

  times-one : float n ⊗ one ≡ float n
  times-one = mul_at binary64 n 1 1 1 (zero-lt-suc 0) (zero-lt-suc 0) (float n) one (float-val n h) one-val ∙ ap (λ (k : ℕ). round binary64 false k 1) (mul-one n) ∙ sym float_is

  minus-itself : float n ⊖ float n ≡ plus_zero
  minus-itself =
      sub_at binary64 n 1 n 1 (zero-lt-suc 0) (zero-lt-suc 0) (float n) (float n) (float-val n h) (float-val n h) (le_refl (n * 1))
      ∙ round-none false (n * 1 - n * 1) 1 (zero-lt-suc 0) (sub_self (n * 1))

-- a value that is not negative, times zero and plus zero
valued-times : (x : Float) (a c : ℕ) (s : Bool) → HasValue x false a c → x ⊗ zeroed s ≡ zeroed s
unfolding ieee.mul
valued-times nan a c s v = absurd v
valued-times (inf t) a c s v = absurd v
valued-times (fin true m e) a c s v = absurd (true≢false v.0)
valued-times (fin false m e) a c s v =
    round-none (unlike false s) (m * up e * 0) (down e * 1) (mul-pos (down_pos e) (zero-lt-suc 0)) (mul-zero (m * up e)) ∙ ap zeroed (same s)
  where
    same : (s : Bool) → unlike false s ≡ s
    same true = refl
    same false = refl

valued-plus : (n : ℕ) (s : Bool) → n ≤ 2 ^ 53 → float n ⊕ zeroed s ≡ float n
valued-plus n false h =
    add_at binary64 n 1 0 1 (zero-lt-suc 0) (zero-lt-suc 0) (float n) plus_zero (float-val n h) zero-val ∙ ap (λ (k : ℕ). round binary64 false k 1) (omega arith) ∙ sym (float_is n h)
valued-plus n true h =
    let e : float n ⊕ zeroed true ≡ float n ⊖ plus_zero = unfold ieee.sub in unfold ieee.neg in refl in
    e ∙ sub_at binary64 n 1 0 1 (zero-lt-suc 0) (zero-lt-suc 0) (float n) plus_zero (float-val n h) zero-val (omega arith) ∙ ap (λ (k : ℕ). round binary64 false k 1) (omega arith) ∙ sym (float_is n h)

-- with no share of the next pixels, the first one's level
corner : (a b c d : ℕ) (s t : Bool) → a ≤ 2 ^ 53 → b ≤ 2 ^ 53 → c ≤ 2 ^ 53 → d ≤ 2 ^ 53 → blended (float a) (float b) (float c) (float d) (zeroed s) (zeroed t) ≡ float a
unfolding blended
corner a b c d s t p q r u =
    rw (
      less s,
      less t,
      times-one a p,
      times-one a p,
      valued-times (float b) b 1 s (float-val b q),
      nothing s,
      valued-plus a s p,
      times-one c r,
      valued-times (float c) c 1 t (float-val c r),
      valued-plus a t p,
      valued-times (float d) d 1 s (float-val d u),
      none s t,
      valued-plus a (unlike s t) p,
    )
  where
    less : (s : Bool) → one ⊖ zeroed s ≡ one
    less true = unfold ieee.sub in refl
    less false = unfold ieee.sub in refl

    nothing : (s : Bool) → zeroed s ⊗ one ≡ zeroed s
    nothing true = unfold ieee.mul in refl
    nothing false = unfold ieee.mul in refl

    none : (s t : Bool) → zeroed s ⊗ zeroed t ≡ zeroed (unlike s t)
    none true true = unfold ieee.mul in refl
    none true false = unfold ieee.mul in refl
    none false true = unfold ieee.mul in refl
    none false false = unfold ieee.mul in refl

-- ---- a whole coordinate inside lies on its own pixel
pub record OnPixel (n x : ℕ) (t : Float) : Type 0 where
  pub sign : Bool
  pub place : place_of n t ≡ record { first = x; next = min (x + 1) (n - 1); share = zeroed sign }

module _ (n x : ℕ) (g : SideFits n) (i : x < n) where
  small : x ≤ 2 ^ 53
  small = omega (arith, g.most)

  whole-clamped : clamped (float x) plus_zero (float n ⊖ one) ≡ float x
  unfolding clamped
  whole-clamped =
      rw (
        lt_at binary64 x 1 0 1 (zero-lt-suc 0) (zero-lt-suc 0) (float x) plus_zero (float-val x small) zero-val (omega arith),
        lt_at binary64 (n - 1) 1 x 1 (zero-lt-suc 0) (zero-lt-suc 0) (float n ⊖ one) (float x) (last-val n g) (float-val x small) (omega arith),
      )

  plain-place : place_of n (float x) ≡ record { first = x; next = min (x + 1) (n - 1); share = plus_zero }
  unfolding place_of
  plain-place = rw (whole-clamped, (unsigned_back binary64 64 x (counted x small) (omega (arith, g.most))).1, minus-itself x small)

minus-clamped : (hi : Float) (k : ℕ) → HasValue hi false k 1 → clamped (zeroed true) plus_zero hi ≡ zeroed true
unfolding clamped lt
minus-clamped nan k v = absurd v
minus-clamped (inf s) k v = absurd v
minus-clamped (fin true m e) k v = absurd (true≢false v.0)
minus-clamped (fin false m e) k v = refl

minus-place : (n : ℕ) → SideFits n → place_of n (zeroed true) ≡ record { first = 0; next = min (0 + 1) (n - 1); share = zeroed true }
unfolding place_of to_unsigned ieee.sub of_int
minus-place n g = rw (minus-clamped (float n ⊖ one) (n - 1) (last-val n g))

on-pixel : {n x : ℕ} {t : Float} → SideFits n → x < n → WholeAt t x → OnPixel n x t
on-pixel {n} g i (plain x) = record { sign = false; place = plain-place n x g i }
on-pixel {n} g i minus-zero = record { sign = true; place = minus-place n g }

whole-no-nan : {n x : ℕ} {t : Float} → SideFits n → x < n → WholeAt t x → is_nan t ≡ false
unfolding is_nan
whole-no-nan {n} g i (plain x) = no_nan (float x) x (float-val x (small n x g i))
  where
    no_nan : (y : Float) (a : ℕ) → HasValue y false a 1 → is_nan y ≡ false
    no_nan nan a v = absurd v
    no_nan (inf s) a v = absurd v
    no_nan (fin s m e) a v = refl
whole-no-nan g i minus-zero = refl

whole-value : (pic : List ℕ) (w h x y : ℕ) (xf yf : Float) → Bytes pic → SideFits w → SideFits h → x < w → y < h → WholeAt xf x → WholeAt yf y → value_at pic w h xf yf ≡ float (level_at w pic x y)
unfolding value_at
whole-value pic w h x y xf yf b g k i j u v =
    let p = on-pixel g i u in
    let q = on-pixel k j v in
    let x1 = min (x + 1) (w - 1) in
    let y1 = min (y + 1) (h - 1) in
    rw (p.place, q.place)
    (corner (level_at w pic x y) (level_at w pic x1 y) (level_at w pic x y1) (level_at w pic x1 y1) p.sign q.sign (held x y) (held x1 y) (held x y1) (held x1 y1))
  where
    held : (i j : ℕ) → level_at w pic i j ≤ 2 ^ 53
    held i j = le_trans (le_of_lt (level-small pic w i j b)) (lit≤ tt)

-- what a level that `pixel` gives says of the shape and the pixel
pub pixel-inside-is : (pic : List ℕ) (w h x y l : ℕ) → pixel_of pic w h x y ≡ is l → Inside (length pic) w h x y × (level_at w pic x y ≡ l)
unfolding pixel_of
pixel-inside-is pic w h x y l e =
    let none = sym (answer-number (level_at w pic x y) (first_of (level_rows (length pic) w h x y))) ∙ ap number_back e in
    let same : is (level_at w pic x y) ≡ is l = rw none at e in
    (inside (length pic) w h x y none, cc)

-- ---- THEOREM
pub whole-reading : (pic : List ℕ) (w h x y l : ℕ) (xf yf : Float) → Bytes pic → WholeAt xf x → WholeAt yf y → pixel_of pic w h x y ≡ is l → sample_of pic w h xf yf ≡ is (float l)
unfolding sample_of
whole-reading pic w h x y l xf yf b u v e =
    let p = pixel-inside-is pic w h x y l e in
    let i = p.0 in
    let s = whole (length pic) w h i.good in
    let g = side-fits w s.wide in
    let k = side-fits h s.high in
    let none = reading-none pic w h xf yf (record { good = i.good; x-is = whole-no-nan g i.x-in u; y-is = whole-no-nan k i.y-in v }) in
    rw (none, whole-value pic w h x y xf yf b g k i.x-in i.y-in u v, p.1)
