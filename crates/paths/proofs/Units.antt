-- The binary32 numbers from 0 on, counted in units of the smallest one, 2 ^ -149: sums, differences and comparisons are those of the counts, rounded.
-- Assumes nothing.
use mathlib.Core.Path.{◌≡◌, refl, sym, ap, ◌∙◌, subst}
use mathlib.Core.Bool.{Bool, true, false, ◌&&◌, ◌||◌, true≢false}
use mathlib.Core.Logic.{◌⊎◌, ⊎_elim, inl, inr}
use Prim.Native.Nat.{ℕ, ◌+◌, ◌-◌, ◌*◌, ◌^◌, ◌<◌, ◌≤◌}
use native.Mathlib.Nat.{le_trans, le_of_eq, mul_assoc, mul_comm, mul_right_comm, mul-pos, add-mul, mul-sub, mul-le-mul_right, le_of_mul-le-mul_right, mul-lt-mul_of_pos_right, lt_of_lt_of_le}
use native.Mathlib.Omega.{arith}
use lib.Dec.{T, ltb, eqb, ltb→lt, eqb→eq, lit≤}
use lib.IntN.{ℤ}
use lib.Pow.{pow_pos}
use lib.Ieee.{Float, nan, inf, fin, binary32, up, down, round, units, sum, add, sub, lt, le}
use lib.Ieee.Fits.{down_pos, round_is, and_l}
use lib.Ieee.Exact.{HasValue, round_exact}
use lib.Ieee.Order.{round_mono}
use lib.Ieee.Scale.{round_same, round_val, grid, overflow}
use borrow.Author.Tests.{lt-ltb, le-ltb}
use Rattle.lists.proofs.Tests.{lt-or-le}

-- one, and a half, in units. They stay shut, since `omega` reads no number of more than 38 digits
unfoldable pub one : ℕ
one = 2 ^ 149

unfoldable pub half : ℕ
half = 2 ^ 148

pub one-pos : 0 < one
unfolding one
one-pos = pow_pos 149

pub half_pos : 0 < half
unfolding half
half_pos = pow_pos 148

pub two-halves : one ≡ half + half
unfolding one half
two-halves = refl

-- x is u units
abbrev pub Val : Float → ℕ → Type 0
Val x u = HasValue x false u one

-- v units, rounded
abbrev pub rounds : ℕ → Float
rounds v = round binary32 false v one

-- u units are a number that rounding leaves as it is
abbrev pub Rep : ℕ → Type 0
Rep u = Val (rounds u) u

pub rep-of : (q j : ℕ) → q < 2 ^ 24 → q * 2 ^ j < 2 ^ 277 → Rep (q * 2 ^ j)
unfolding one
rep-of q j small fine = round_exact binary32 false (q * 2 ^ j) (2 ^ 149) q j (pow_pos 149) small fine refl

-- so many halves, and so many ones
pub rep-halves : (q : ℕ) → q < 2 ^ 24 → Rep (q * half)
unfolding half
rep-halves q h = rep-of q 148 h (lt_of_lt_of_le (mul-lt-mul_of_pos_right h (pow_pos 148)) (lit≤ tt))

pub rep-ones : (q : ℕ) → q < 2 ^ 24 → Rep (q * one)
unfolding one
rep-ones q h = rep-of q 149 h (lt_of_lt_of_le (mul-lt-mul_of_pos_right h (pow_pos 149)) (lit≤ tt))

-- ---- rounding keeps bounds that it leaves as they are

round-cases : (a c : ℕ) → Val (round binary32 false a c) (grid binary32 a c) ⊎ (round binary32 false a c ≡ inf false)
unfolding units one
round-cases a c =
    ⊎_elim (λ (h : grid binary32 a c < overflow binary32). inl (round_val binary32 a c h))
    (λ (h : overflow binary32 ≤ grid binary32 a c). inr (round_is binary32 false a c ∙ rw (le-ltb (grid binary32 a c) (overflow binary32) h)))
    (lt-or-le (grid binary32 a c) (overflow binary32))

no-inf : (y : Float) (b : ℕ) → Val y b → T (le (inf false) y) → ⊥
unfolding le
no-inf nan b v t = v
no-inf (inf s) b v t = v
no-inf (fin s m e) b v t = t

-- fractions with a common denominator
module _ (X Y a b D : ℕ) (hx : X * one ≡ a * D) (hy : Y * one ≡ b * D) (D-pos : 0 < D) where
  pub up_le : X ≤ Y → a ≤ b
  up_le h = le_of_mul-le-mul_right (le_trans (le_of_eq (sym hx)) (le_trans (mul-le-mul_right one h) (le_of_eq hy))) D-pos

  pub down_le : a ≤ b → X ≤ Y
  down_le h = le_of_mul-le-mul_right (le_trans (le_of_eq hx) (le_trans (mul-le-mul_right D h) (le_of_eq (sym hy)))) one-pos

-- the two operands of an operation, over the product of their denominators
pub left-cross : (p a e d : ℕ) → p * one ≡ a * e → p * d * one ≡ a * (e * d)
left-cross p a e d h = mul_right_comm p d one ∙ ap (λ (z : ℕ). z * d) h ∙ mul_assoc a e d

right-cross : (q b e d : ℕ) → q * one ≡ b * d → q * e * one ≡ b * (e * d)
right-cross q b e d h = mul_right_comm q e one ∙ ap (λ (z : ℕ). z * e) h ∙ mul_assoc b d e ∙ ap (λ (z : ℕ). b * z) (mul_comm d e)

-- numbers by a comparison of floats of one sign
below-or-same : (X Y P Q : ℕ) → (P ≡ Q → X ≤ Y) → T (ltb X Y || (eqb P Q && true)) → X ≤ Y
below-or-same X Y P Q same t = go (ltb X Y) refl t
  where
    go : (b : Bool) → ltb X Y ≡ b → T (b || (eqb P Q && true)) → X ≤ Y
    go true e h = omega (arith, ltb→lt X Y (subst (λ (z : Bool). T z) (sym e) tt))
    go false e h = same (eqb→eq P Q (and_l (eqb P Q) true h))

pub le-cross : (m n : ℕ) (e d : ℤ) → T (le (fin false m e) (fin false n d)) → m * up e * down d ≤ n * up d * down e
unfolding le
le-cross m n e d t = below-or-same (m * up e * down d) (n * up d * down e) (m * up e * down d) (n * up d * down e) le_of_eq t

pub le-back : (m n : ℕ) (e d : ℤ) → T (le (fin true m e) (fin true n d)) → n * up d * down e ≤ m * up e * down d
unfolding le
le-back m n e d t = below-or-same (n * up d * down e) (m * up e * down d) (m * up e * down d) (n * up d * down e) (λ s. le_of_eq (sym s)) t

le-values : (x y : Float) (a b : ℕ) → Val x a → Val y b → T (le x y) → a ≤ b
unfolding le
le-values nan y a b v w t = absurd v
le-values (inf s) y a b v w t = absurd v
le-values (fin true m e) y a b v w t = absurd (true≢false v.0)
le-values (fin false m e) nan a b v w t = absurd w
le-values (fin false m e) (inf s) a b v w t = absurd w
le-values (fin false m e) (fin true n d) a b v w t = absurd (true≢false w.0)
le-values (fin false m e) (fin false n d) a b v w t =
    up_le (m * up e * down d) (n * up d * down e) a b (down e * down d) (left-cross (m * up e) a (down e) (down d) v.1) (right-cross (n * up d) b (down e) (down d) w.1)
    (mul-pos (down_pos e) (down_pos d)) (le-cross m n e d t)

-- a / c, rounded, lies from lo units to hi units
pub record Rounded (a c lo hi : ℕ) : Type 0 where
  pub units : ℕ
  pub val : Val (round binary32 false a c) units
  pub from : lo ≤ units
  pub to : units ≤ hi

pub rounded : (a c lo hi : ℕ) → 0 < c → lo * c ≤ a * one → a * one ≤ hi * c → Rep lo → Rep hi → Rounded a c lo hi
rounded a c lo hi C l h rl rh =
    let below : T (le (rounds lo) (round binary32 false a c)) = round_mono binary32 lo one a c one-pos C l in
    let above : T (le (round binary32 false a c) (rounds hi)) = round_mono binary32 a c hi one C one-pos h in
    ⊎_elim
    (λ (w : Val (round binary32 false a c) (grid binary32 a c)). record {
      units = grid binary32 a c;
      val = w;
      from = le-values (rounds lo) (round binary32 false a c) lo (grid binary32 a c) rl w below;
      to = le-values (round binary32 false a c) (rounds hi) (grid binary32 a c) hi w rh above;
    })
    (λ (e : round binary32 false a c ≡ inf false). absurd (no-inf (rounds hi) hi rh (subst (λ (x : Float). T (le x (rounds hi))) e above)))
    (round-cases a c)

-- ---- the operations

pub add_is : (x y : Float) (a b : ℕ) → Val x a → Val y b → add binary32 x y ≡ rounds (a + b)
unfolding add sum
add_is nan y a b v w = absurd v
add_is (inf s) y a b v w = absurd v
add_is (fin true m e) y a b v w = absurd (true≢false v.0)
add_is (fin false m e) nan a b v w = absurd w
add_is (fin false m e) (inf s) a b v w = absurd w
add_is (fin false m e) (fin true n d) a b v w = absurd (true≢false w.0)
add_is (fin false m e) (fin false n d) a b v w =
    round_same binary32 false (m * up e * down d + n * up d * down e) (down e * down d) (a + b) one (mul-pos (down_pos e) (down_pos d)) one-pos
    (add-mul (m * up e * down d) (n * up d * down e) one
    ∙ ap (λ (z : ℕ). z + n * up d * down e * one) (left-cross (m * up e) a (down e) (down d) v.1)
    ∙ ap (λ (z : ℕ). a * (down e * down d) + z) (right-cross (n * up d) b (down e) (down d) w.1)
    ∙ sym (add-mul a b (down e * down d)))

pub taken-off : (X Y D : ℕ) → Y ≤ X → sum binary32 false X true Y D ≡ round binary32 false (X - Y) D
unfolding sum
taken-off X Y D h = rw (le-ltb X Y h)

pub sub-cross : (X Y a b D : ℕ) → X * one ≡ a * D → Y * one ≡ b * D → (X - Y) * one ≡ (a - b) * D
sub-cross X Y a b D hx hy = mul_comm (X - Y) one ∙ mul-sub one X Y ∙ ap (λ (z : ℕ). z - one * Y) (mul_comm one X ∙ hx) ∙ ap (λ (z : ℕ). a * D - z) (mul_comm one Y ∙ hy)
    ∙ sym (mul_comm (a - b) D ∙ mul-sub D a b ∙ ap (λ (z : ℕ). z - D * b) (mul_comm D a) ∙ ap (λ (z : ℕ). a * D - z) (mul_comm D b))

pub sub_is : (x y : Float) (a b : ℕ) → Val x a → Val y b → b ≤ a → sub binary32 x y ≡ rounds (a - b)
unfolding sub
sub_is nan y a b v w h = absurd v
sub_is (inf s) y a b v w h = absurd v
sub_is (fin true m e) y a b v w h = absurd (true≢false v.0)
sub_is (fin false m e) nan a b v w h = absurd w
sub_is (fin false m e) (inf s) a b v w h = absurd w
sub_is (fin false m e) (fin true n d) a b v w h = absurd (true≢false w.0)
sub_is (fin false m e) (fin false n d) a b v w h =
    let X = m * up e * down d in
    let Y = n * up d * down e in
    let D = down e * down d in
    let D-pos : 0 < D = mul-pos (down_pos e) (down_pos d) in
    let hx : X * one ≡ a * D = left-cross (m * up e) a (down e) (down d) v.1 in
    let hy : Y * one ≡ b * D = right-cross (n * up d) b (down e) (down d) w.1 in
    taken-off X Y D (down_le Y X b a D hy hx D-pos h)
    ∙ round_same binary32 false (X - Y) D (a - b) one D-pos one-pos (sub-cross X Y a b D hx hy)

pub lt-is : (x y : Float) (a b : ℕ) → Val x a → Val y b → lt x y ≡ ltb a b
unfolding lt
lt-is nan y a b v w = absurd v
lt-is (inf s) y a b v w = absurd v
lt-is (fin true m e) y a b v w = absurd (true≢false v.0)
lt-is (fin false m e) nan a b v w = absurd w
lt-is (fin false m e) (inf s) a b v w = absurd w
lt-is (fin false m e) (fin true n d) a b v w = absurd (true≢false w.0)
lt-is (fin false m e) (fin false n d) a b v w =
    let X = m * up e * down d in
    let Y = n * up d * down e in
    let D = down e * down d in
    let D-pos : 0 < D = mul-pos (down_pos e) (down_pos d) in
    let hx : X * one ≡ a * D = left-cross (m * up e) a (down e) (down d) v.1 in
    let hy : Y * one ≡ b * D = right-cross (n * up d) b (down e) (down d) w.1 in
    ⊎_elim
    (λ (h : a < b). lt-ltb X Y (⊎_elim (λ (k : X < Y). k) (λ (k : Y ≤ X). absurd (omega (arith, up_le Y X b a D hy hx D-pos k))) (lt-or-le X Y)) ∙ sym (lt-ltb a b h))
    (λ (h : b ≤ a). le-ltb X Y (down_le Y X b a D hy hx D-pos h) ∙ sym (le-ltb a b h))
    (lt-or-le a b)
