-- Values that are not negative, by the fractions that they equal: f64's product, sum, difference and order of them, and what is at most a fraction. Assumes nothing.
use Rattle.std.proofs.Common.{◌≡◌, ℕ, ◌+◌, ◌-◌, ◌*◌, ◌<◌, ◌≤◌, Bool, true, false, cond, pos, sym, refl, ap, ◌∙◌, ap₂, true≢false, le_trans, le_of_eq, mul-le-mul_right, zero-lt-suc, mul_comm, add-mul, mul-pos, zero-mul, mul_right_comm, le_of_mul-le-mul_right, le-ltb}
use native.Mathlib.Nat.{mul-mul-mul_comm, mul-sub}
use lib.Ieee.{Float, nan, inf, fin, Format, binary64, up, down, round, add, sub, mul, lt}
use lib.Ieee.Exact.{HasValue}
use lib.Ieee.Fits.{down_pos}
use lib.Ieee.Order.{transfer}
use lib.Ieee.Scale.{round_same}

-- nothing rounds to a zero of its sign
pub round-none : (s : Bool) (n d : ℕ) → 0 < d → n ≡ 0 → round binary64 s n d ≡ fin s 0 (pos 0)
round-none s n d D z = ap (λ (i : ℕ). round binary64 s i d) z ∙ round_same binary64 s 0 d 0 1 D (zero-lt-suc 0) (sym (zero-mul d)) ∙ at_one s
  where
    at_one : (s : Bool) → round binary64 s 0 1 ≡ fin s 0 (pos 0)
    at_one true = unfold round in refl
    at_one false = unfold round in refl

-- a product of fractions
cross : (m n a b c d de dk : ℕ) → m * c ≡ a * de → n * d ≡ b * dk → m * n * (c * d) ≡ a * b * (de * dk)
cross m n a b c d de dk p q = mul-mul-mul_comm m n c d ∙ ap₂ (λ i j. i * j) p q ∙ mul-mul-mul_comm a de b dk

module _ (f : Format) (a c b d : ℕ) (C : 0 < c) (D : 0 < d) where
  pub mul_at : (x y : Float) → HasValue x false a c → HasValue y false b d → mul f x y ≡ round f false (a * b) (c * d)
  unfolding mul
  mul_at nan y v w = absurd v
  mul_at (inf s) y v w = absurd v
  mul_at (fin s m e) nan v w = absurd w
  mul_at (fin s m e) (inf t) v w = absurd w
  mul_at (fin true m e) (fin t n g) v w = absurd (true≢false v.0)
  mul_at (fin false m e) (fin true n g) v w = absurd (true≢false w.0)
  mul_at (fin false m e) (fin false n g) v w =
      round_same f false (m * up e * (n * up g)) (down e * down g) (a * b) (c * d) (mul-pos (down_pos e) (down_pos g)) (mul-pos C D)
      (cross (m * up e) (n * up g) a b c d (down e) (down g) v.1 w.1)

  -- the operands of a sum over the common denominator, with those of the fractions
  first-over : (m e g : ℕ) → m * c ≡ a * e → m * g * (c * d) ≡ a * d * (e * g)
  first-over m e g p = cross m g a d c d e g p (mul_comm g d)

  second-over : (n e g : ℕ) → n * d ≡ b * g → n * e * (c * d) ≡ b * c * (e * g)
  second-over n e g q = ap (λ (z : ℕ). n * e * z) (mul_comm c d) ∙ cross n e b c d c g e q (mul_comm e c) ∙ ap (λ (z : ℕ). b * c * z) (mul_comm g e)

  pub add_at : (x y : Float) → HasValue x false a c → HasValue y false b d → add f x y ≡ round f false (a * d + b * c) (c * d)
  unfolding add
  add_at nan y v w = absurd v
  add_at (inf s) y v w = absurd v
  add_at (fin s m e) nan v w = absurd w
  add_at (fin s m e) (inf t) v w = absurd w
  add_at (fin true m e) (fin t n g) v w = absurd (true≢false v.0)
  add_at (fin false m e) (fin true n g) v w = absurd (true≢false w.0)
  add_at (fin false m e) (fin false n g) v w =
      let A = m * up e * down g in
      let B = n * up g * down e in
      let K = down e * down g in
      round_same f false (A + B) K (a * d + b * c) (c * d) (mul-pos (down_pos e) (down_pos g)) (mul-pos C D)
      (add-mul A B (c * d) ∙ ap₂ (λ i j. i + j) (first-over (m * up e) (down e) (down g) v.1) (second-over (n * up g) (down e) (down g) w.1) ∙ sym (add-mul (a * d) (b * c) K))

  pub sub_at : (x y : Float) → HasValue x false a c → HasValue y false b d → b * c ≤ a * d → sub f x y ≡ round f false (a * d - b * c) (c * d)
  unfolding sub
  sub_at nan y v w h = absurd v
  sub_at (inf s) y v w h = absurd v
  sub_at (fin s m e) nan v w h = absurd w
  sub_at (fin s m e) (inf t) v w h = absurd w
  sub_at (fin true m e) (fin t n g) v w h = absurd (true≢false v.0)
  sub_at (fin false m e) (fin true n g) v w h = absurd (true≢false w.0)
  sub_at (fin false m e) (fin false n g) v w h =
      let A = m * up e * down g in
      let B = n * up g * down e in
      let K = down e * down g in
      let le : B ≤ A = transfer (n * up g) (m * up e) (down g) (down e) b a d c D C w.1 v.1 h in
      ap (λ (t : Bool). cond t (round f true (B - A) K) (round f false (A - B) K)) (le-ltb A B le)
      ∙ round_same f false (A - B) K (a * d - b * c) (c * d) (mul-pos (down_pos e) (down_pos g)) (mul-pos C D)
      (less A B (c * d) ∙ ap₂ (λ i j. i - j) (first-over (m * up e) (down e) (down g) v.1) (second-over (n * up g) (down e) (down g) w.1) ∙ sym (less (a * d) (b * c) K))
    where
      less : (i j k : ℕ) → (i - j) * k ≡ i * k - j * k
      less i j k = mul_comm (i - j) k ∙ mul-sub k i j ∙ ap₂ (λ x y. x - y) (mul_comm k i) (mul_comm k j)

  -- the order by the fractions
  pub lt_at : (x y : Float) → HasValue x false a c → HasValue y false b d → b * c ≤ a * d → lt x y ≡ false
  unfolding lt
  lt_at nan y v w h = absurd v
  lt_at (inf s) y v w h = absurd v
  lt_at (fin s m e) nan v w h = absurd w
  lt_at (fin s m e) (inf t) v w h = absurd w
  lt_at (fin true m e) (fin t n g) v w h = absurd (true≢false v.0)
  lt_at (fin false m e) (fin true n g) v w h = absurd (true≢false w.0)
  lt_at (fin false m e) (fin false n g) v w h = le-ltb (m * up e * down g) (n * up g * down e) (transfer (n * up g) (m * up e) (down g) (down e) b a d c D C w.1 v.1 h)

-- ---- a value from zero to a / c: minus zero counts as zero
abbrev pub Upto : Float → ℕ → ℕ → Type 0
Upto nan a c = ⊥
Upto (inf s) a c = ⊥
Upto (fin true m e) a c = m * up e ≡ 0
Upto (fin false m e) a c = m * up e * c ≤ a * down e

pub upto-of-value : (x : Float) (g d a c : ℕ) → 0 < d → HasValue x false g d → g * c ≤ a * d → Upto x a c
upto-of-value nan g d a c D v h = v
upto-of-value (inf s) g d a c D v h = v
upto-of-value (fin true m e) g d a c D v h = absurd (true≢false v.0)
upto-of-value (fin false m e) g d a c D v h =
    le_of_mul-le-mul_right
    (le_trans (le_of_eq (mul_right_comm (m * up e) c d ∙ ap (λ (z : ℕ). z * c) v.1 ∙ mul_right_comm g (down e) c))
    (le_trans (mul-le-mul_right (down e) h) (le_of_eq (mul_right_comm a d (down e))))) D
