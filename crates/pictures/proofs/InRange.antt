-- THEOREM: a reading lies from 0 to 255 and one part in 2 ^ 31 of one. And it can be above 255. Assumes nothing.
use Rattle.std.proofs.Common.{◌≡◌, ℕ, ◌+◌, ◌-◌, ◌*◌, ◌/◌, ◌^◌, ◌<◌, ◌≤◌, Bool, true, false, ◌&&◌, ◌||◌, T, eqb, ltb, List, [], ◌∷◌, length, pos, negsuc, sym, refl, ap, ◌∙◌, subst, true≢false, le_trans, le_of_eq, le_of_lt, mul-le-mul_right, mod-lt, zero-lt-suc, mul_assoc, mul_comm, mul-le-mul, mul-le-mul_left, mul-pos, one-mul, div-add-mod', le_of_mul-le-mul_right, arith, lit<, lit≤, eqb→eq, ltb→lt, lt→ltb, pow_pos, eq-eqb}
use native.Mathlib.Nat.{div-le_of_le-mul}
use lib.Ieee.{Float, nan, inf, fin, binary64, up, down, round, lt, le, of_int, to_unsigned, is_nan}
use lib.Ieee as ieee
use lib.Ieee.Exact.{HasValue}
use lib.Ieee.Fits.{down_pos}
use lib.Ieee.Order.{round_mono, le_of_values}
use lib.Ieee.Positive.{den, den_pos}
use Rattle.lists.specs.Rows.{level_at}
use Rattle.options.specs.Limits.{side_most}
use Rattle.options.proofs.Sides.{SideFits, side-fits}
use Rattle.refusals.specs.Answered.{first_of}
use Rattle.refusals.specs.Steps.{is}
use Rattle.pictures.specs.Picture.{Bytes}
use Rattle.numbers.specs.Operators.{◌⊕◌, ◌⊖◌, ◌⊗◌, float}
use Rattle.pictures.specs.Bilinear.{one, clamped, place_of, blended, value_at, sample_of, most, ReadingRange}
use Rattle.pictures.specs.Bilinear as bilinear
use Rattle.pictures.proofs.Values.{round-none, sub_at, Upto, upto-of-value}
use Rattle.pictures.proofs.Places.{float-val, one-val, whole_is, side-upto}
use Rattle.pictures.proofs.Shapes.{whole, level-small}
use Rattle.pictures.proofs.Readings.{Readable, read_at}
use Rattle.pictures.proofs.Bounds.{parts, upto-round, upto-mul, upto_add, grid-value}

-- ---- a share lies from 0 to 1
at_most_one : (x : Float) (g d : ℕ) → HasValue x false g d → T (le x one) → Upto x 1 1
unfolding le
at_most_one nan g d v h = v
at_most_one (inf s) g d v h = v
at_most_one (fin true m e) g d v h = absurd (true≢false v.0)
at_most_one (fin false m e) g d v h = go (ltb A B) (eqb A B) refl refl h
  where
    A : ℕ
    A = m * up e * 1

    B : ℕ
    B = 1 * 1 * down e

    go : (t u : Bool) → t ≡ ltb A B → u ≡ eqb A B → T (t || (u && true)) → A ≤ B
    go true u p q h = le_of_lt (ltb→lt A B (subst T p tt))
    go false true p q h = le_of_eq (eqb→eq A B (subst T q tt))
    go false false p q h = absurd h

one-is : round binary64 false 1 1 ≡ one
one-is = unfold round in refl

rounds-to-one : (a c : ℕ) → 0 < c → a ≤ c → Upto (round binary64 false a c) 1 1
rounds-to-one a c C h =
    at_most_one (round binary64 false a c) _ (2 ^ 1074) (grid-value a c C (omega arith))
    (subst (λ (x : Float). T (le (round binary64 false a c) x)) one-is (round_mono binary64 a c 1 1 C (zero-lt-suc 0) (omega arith)))

pub share-upto : (k : ℕ) (c : Float) → k ≤ side_most → Upto c k 1 → Upto (c ⊖ float (to_unsigned 64 c)) 1 1
share-upto k nan h v = absurd v
share-upto k (inf s) h v = absurd v
share-upto k (fin true m e) h v = unfold to_unsigned in subst (λ (x : Float). Upto x 1 1) (sym (ap (λ (y : Float). fin true m e ⊖ y) none ∙ less)) refl
  where
    none : float 0 ≡ bilinear.plus_zero
    none = unfold of_int in unfold round in refl

    less : fin true m e ⊖ bilinear.plus_zero ≡ fin true 0 (pos 0)
    less = unfold ieee.sub in round-none true (m * up e * 1 + 0 * 1 * down e) (down e * 1) (mul-pos (down_pos e) (zero-lt-suc 0)) (omega arith)
share-upto k (fin false m e) h v =
    subst (λ (q : ℕ). Upto (fin false m e ⊖ float q) 1 1) (sym (whole_is k m e (omega arith) v))
    (subst (λ (x : Float). Upto x 1 1) (sym less) (rounds-to-one (m * up e * 1 - m * up e / down e * down e) (down e * 1) (mul-pos (down_pos e) (zero-lt-suc 0)) (rest (m * up e) (down e) (down_pos e))))
  where
    part : m * up e / down e ≤ k
    part = div-le_of_le-mul (down e) (omega (arith, v, mul_comm k (down e)))

    rest : (a d : ℕ) → 0 < d → a * 1 - a / d * d ≤ d * 1
    rest a d D = omega (arith, div-add-mod' a d, mod-lt a D)

    under : (a d : ℕ) → a / d * d ≤ a * 1
    under a d = omega (arith, div-add-mod' a d)

    less : fin false m e ⊖ float (m * up e / down e) ≡ round binary64 false (m * up e * 1 - m * up e / down e * down e) (down e * 1)
    less =
        sub_at binary64 (m * up e) (down e) (m * up e / down e) 1 (down_pos e) (zero-lt-suc 0) (fin false m e) (float (m * up e / down e)) (refl, refl)
        (float-val (m * up e / down e) (le_trans part (le_trans h (lit≤ tt)))) (under (m * up e) (down e))

-- ---- a share and what it leaves of one, over the denominator parts * e: together one, and one part more for the rounding
pub record Split (dx : Float) (e : ℕ) : Type 0 where
  pub share : ℕ
  pub rest : ℕ
  pub share-is : Upto dx share (parts * e)
  pub rest-is : Upto (one ⊖ dx) rest (parts * e)
  pub whole : rest + share ≡ parts * e + e

pub split : (dx : Float) (k : ℕ) → 0 < k → Upto dx 1 1 → Split dx (den dx * k)
split nan k K v = absurd v
split (inf s) k K v = absurd v
split (fin true m i) k K v = record {
  share = 0;
  rest = parts * (down i * k) + down i * k;
  share-is = v;
  rest-is =
      subst (λ (x : Float). Upto x (parts * (down i * k) + down i * k) (parts * (down i * k))) (sym less)
      (upto-round false (1 * 1 * down i + m * up i * 1) (1 * down i) (parts * (down i * k)) (down i * k) (mul-pos (zero-lt-suc 0) (down_pos i)) (mul-pos (down_pos i) K) tt
      (le_of_eq (by (m * up i) (down i) (parts * (down i * k)) v)) (most (down i * k)));
  whole = omega arith;
}
  where
    less : one ⊖ fin true m i ≡ round binary64 false (1 * 1 * down i + m * up i * 1) (1 * down i)
    less = unfold ieee.sub in refl

    by : (a d c : ℕ) → a ≡ 0 → (1 * 1 * d + a * 1) * c ≡ c * (1 * d)
    by a d c z = ap (λ (b : ℕ). (1 * 1 * d + b * 1) * c) z ∙ omega arith

    most : (e : ℕ) → parts * e ≤ 2048 * (parts * e)
    most e = omega arith
split (fin false m i) k K v = record {
  share = m * up i * (parts * k);
  rest = parts * (down i * k) - m * up i * (parts * k) + down i * k;
  share-is = le_of_eq (over (m * up i) (down i));
  rest-is =
      subst (λ (x : Float). Upto x (parts * (down i * k) - m * up i * (parts * k) + down i * k) (parts * (down i * k))) (sym less)
      (upto-round false (1 * down i - m * up i * 1) (1 * down i) (parts * (down i * k) - m * up i * (parts * k)) (down i * k) (mul-pos (zero-lt-suc 0) (down_pos i)) (mul-pos (down_pos i) K) tt
      (by (m * up i) (down i) v) (most (down i * k) (m * up i * (parts * k))));
  whole = all (m * up i) (down i) v;
}
  where
    less : one ⊖ fin false m i ≡ round binary64 false (1 * down i - m * up i * 1) (1 * down i)
    less = sub_at binary64 1 1 (m * up i) (down i) (zero-lt-suc 0) (down_pos i) one (fin false m i) one-val (refl, refl) v

    over : (a d : ℕ) → a * (parts * (d * k)) ≡ a * (parts * k) * d
    over a d = omega arith

    by : (a d : ℕ) → a * 1 ≤ 1 * d → (1 * d - a * 1) * (parts * (d * k)) ≤ (parts * (d * k) - a * (parts * k)) * (1 * d)
    by a d l =
        let r = d - a in
        let s : 1 * d - a * 1 ≡ r = omega arith in
        let t : parts * (d * k) - a * (parts * k) ≡ parts * (r * k) = cut a d r (omega arith) in
        subst (λ (x : ℕ). x * (parts * (d * k)) ≤ (parts * (d * k) - a * (parts * k)) * (1 * d)) (sym s)
        (subst (λ (x : ℕ). r * (parts * (d * k)) ≤ x * (1 * d)) (sym t) (le_of_eq (turn r d)))
      where
        cut : (a d r : ℕ) → d ≡ a + r → parts * (d * k) - a * (parts * k) ≡ parts * (r * k)
        cut a d r e = omega (arith, ap (λ (z : ℕ). z * k) e)

        turn : (r d : ℕ) → r * (parts * (d * k)) ≡ parts * (r * k) * (1 * d)
        turn r d = omega arith

    most : (e x : ℕ) → parts * e - x ≤ 2048 * (parts * e)
    most e x = omega arith

    all : (a d : ℕ) → a * 1 ≤ 1 * d → parts * (d * k) - a * (parts * k) + d * k + a * (parts * k) ≡ parts * (d * k) + d * k
    all a d l = omega (arith, mul-le-mul_right k l)

-- ---- the blend

-- a level times a share
level-times : (p : ℕ) (y : Float) (b e : ℕ) → 0 < e → p ≤ 255 → b ≤ 2 * (parts * e) → Upto y b (parts * e) → Upto (float p ⊗ y) (255 * b + e) (parts * e)
level-times p y b e E h l v =
    upto-mul (float p) y 255 1 b (parts * e) e E (one-mul (parts * e)) (by (parts * e) l)
    (upto-of-value (float p) p 1 255 1 (zero-lt-suc 0) (float-val p (le_trans h (lit≤ tt))) (omega arith)) v
  where
    by : (c : ℕ) → b ≤ 2 * c → 255 * b ≤ 2048 * (1 * c)
    by c l = omega arith

-- times the other side's share
then-times : (x y : Float) (a b e : ℕ) → 0 < e → a ≤ 512 * (parts * e) → b ≤ 2 * (parts * e) → Upto x a (parts * e) → Upto y b (parts * e) → Upto (x ⊗ y) (a * b + e * (parts * e)) (parts * (e * (parts * e)))
then-times x y a b e E h l v w =
    upto-mul x y a (parts * e) b (parts * e) (e * (parts * e)) (mul-pos E (mul-pos (pow_pos 41) E)) (mul_assoc parts e (parts * e)) (le_trans (mul-le-mul h l) (by (parts * e))) v w
  where
    by : (c : ℕ) → 512 * c * (2 * c) ≤ 2048 * (c * c)
    by c = omega arith

-- all four, added in the order of the code
four-sum : (x1 x2 x3 x4 : Float) (a1 a2 a3 a4 g : ℕ) → 0 < g → a1 + a2 + g + a3 + g + a4 + g ≤ 2048 * (parts * g)
    → Upto x1 a1 (parts * g) → Upto x2 a2 (parts * g) → Upto x3 a3 (parts * g) → Upto x4 a4 (parts * g) → Upto (x1 ⊕ x2 ⊕ x3 ⊕ x4) (a1 + a2 + g + a3 + g + a4 + g) (parts * g)
four-sum x1 x2 x3 x4 a1 a2 a3 a4 g G h v1 v2 v3 v4 =
    let s2 = upto_add x1 x2 a1 a2 g G (omega arith) v1 v2 in
    let s3 = upto_add (x1 ⊕ x2) x3 (a1 + a2 + g) a3 g G (omega arith) s2 v3 in
    upto_add (x1 ⊕ x2 ⊕ x3) x4 (a1 + a2 + g + a3 + g) a4 g G (omega arith) s3 v4

-- what they come to
abbrev total : ℕ → ℕ → ℕ → ℕ → ℕ → ℕ → ℕ
total c e u x v y =
    (255 * u + e) * v + e * c + ((255 * x + e) * v + e * c) + e * c + ((255 * u + e) * y + e * c) + e * c + ((255 * x + e) * y + e * c) + e * c

total-is : (c e u x v y : ℕ) → u + x ≡ c + e → v + y ≡ c + e → total c e u x v y ≡ 255 * ((c + e) * (c + e)) + 2 * (e * (c + e)) + 7 * (e * c)
total-is c e u x v y p q = omega (arith, ap (λ (z : ℕ). z * (v + y)) p, ap (λ (z : ℕ). (c + e) * z) q, ap (λ (z : ℕ). e * z) q)

-- little more than 255 times c * c
total-near : (c e : ℕ) → e ≤ c → 255 * ((c + e) * (c + e)) + 2 * (e * (c + e)) + 7 * (e * c) ≤ 255 * (c * c) + 1024 * (e * c)
total-near c e h = omega (arith, mul-le-mul_left e h)

total-far : (s t : ℕ) → s ≡ parts * t → (255 * s + 1024 * t) * 2 ^ 31 ≤ (255 * 2 ^ 31 + 1) * s
total-far s t h = omega arith

total-below : (e u x v y : ℕ) → u + x ≡ parts * e + e → v + y ≡ parts * e + e → total (parts * e) e u x v y * 2 ^ 31 ≤ (255 * 2 ^ 31 + 1) * (parts * (e * (parts * e)))
total-below e u x v y p q =
    let c = parts * e in
    let s : c * c ≡ parts * (e * c) = mul_assoc parts e c in
    le_trans (mul-le-mul_right (2 ^ 31) (le_trans (le_of_eq (total-is c e u x v y p q)) (total-near c e (omega arith))))
    (le_trans (total-far (c * c) (e * c) s) (le_of_eq (ap (λ (z : ℕ). (255 * 2 ^ 31 + 1) * z) s)))

-- ---- from a bound on the value to the order of floats

zero_or : (x : Float) (a c : ℕ) → Upto x a c → T (le bilinear.plus_zero x)
unfolding le
zero_or nan a c v = absurd v
zero_or (inf s) a c v = absurd v
zero_or (fin true m i) a c v = subst (λ (t : Bool). T (t && (false || eqb (0 * 1 * down i) 0))) (sym (eq-eqb (0 * 1 * down i) (m * up i * 1) (omega arith))) (subst T (sym (eq-eqb (0 * 1 * down i) 0 (omega arith))) tt)
zero_or (fin false m i) a c v = le_of_values bilinear.plus_zero (fin false m i) 0 1 (m * up i) (down i) (zero-lt-suc 0) (down_pos i) (refl, refl) (refl, refl) (omega arith)

upto-most : (x : Float) (a c : ℕ) → 0 < c → a * 2 ^ 31 ≤ (255 * 2 ^ 31 + 1) * c → Upto x a c → T (le x most)
unfolding le
upto-most nan a c C h v = absurd v
upto-most (inf s) a c C h v = absurd v
upto-most (fin true m i) a c C h v = or_left (ltb 0 (m * up i * 2 ^ 31 + (255 * 2 ^ 31 + 1) * 1 * down i)) (ieee.level true (m * up i * 2 ^ 31) false ((255 * 2 ^ 31 + 1) * 1 * down i))
    (lt→ltb 0 (m * up i * 2 ^ 31 + (255 * 2 ^ 31 + 1) * 1 * down i) (omega (arith, down_pos i)))
  where
    or_left : (p q : Bool) → T p → T (p || q)
    or_left true q t = tt
    or_left false q t = absurd t
upto-most (fin false m i) a c C h v =
    le_of_values (fin false m i) most (m * up i) (down i) (255 * 2 ^ 31 + 1) (2 ^ 31) (down_pos i) (lit< tt) (refl, refl) (refl, refl)
    (le_of_mul-le-mul_right (by (m * up i) (down i) v) C)
  where
    by : (n d : ℕ) → n * c ≤ a * d → n * 2 ^ 31 * c ≤ (255 * 2 ^ 31 + 1) * d * c
    by n d l = omega (arith, mul-le-mul_right d h)

-- ---- THEOREM on the blend of four levels up to 255 with shares from 0 to 1
module _ (p00 p10 p01 p11 : ℕ) (h00 : p00 ≤ 255) (h10 : p10 ≤ 255) (h01 : p01 ≤ 255) (h11 : p11 ≤ 255) where
  split-range : (dx dy : Float) (e : ℕ) → 0 < e → Split dx e → Split dy e → ReadingRange (blended (float p00) (float p10) (float p01) (float p11) dx dy)
  unfolding blended
  split-range dx dy e E s t =
      let c = parts * e in
      let g = e * c in
      let G : 0 < g = mul-pos E (mul-pos (pow_pos 41) E) in
      let v = four-sum _ _ _ _ _ _ _ _ g G (small (total c e s.rest s.share t.rest t.share) (parts * g) (total-below e s.rest s.share t.rest t.share s.whole t.whole))
      (product p00 (one ⊖ dx) (one ⊖ dy) s.rest t.rest h00 (few-rest s) (few-rest t) s.rest-is t.rest-is)
      (product p10 dx (one ⊖ dy) s.share t.rest h10 (few-share s) (few-rest t) s.share-is t.rest-is)
      (product p01 (one ⊖ dx) dy s.rest t.share h01 (few-rest s) (few-share t) s.rest-is t.share-is)
      (product p11 dx dy s.share t.share h11 (few-share s) (few-share t) s.share-is t.share-is) in
      record { low = zero_or _ _ _ v; high = upto-most _ _ (parts * g) (mul-pos (pow_pos 41) G) (total-below e s.rest s.share t.rest t.share s.whole t.whole) v }
    where
      few-rest : {d : Float} (s : Split d e) → s.rest ≤ 2 * (parts * e)
      few-rest s = omega (arith, s.whole)

      few-share : {d : Float} (s : Split d e) → s.share ≤ 2 * (parts * e)
      few-share s = omega (arith, s.whole)

      small : (n d : ℕ) → n * 2 ^ 31 ≤ (255 * 2 ^ 31 + 1) * d → n ≤ 2048 * d
      small n d h = omega arith

      product : (p : ℕ) (x y : Float) (a b : ℕ) → p ≤ 255 → a ≤ 2 * (parts * e) → b ≤ 2 * (parts * e) → Upto x a (parts * e) → Upto y b (parts * e)
          → Upto (float p ⊗ x ⊗ y) ((255 * a + e) * b + e * (parts * e)) (parts * (e * (parts * e)))
      product p x y a b h i j v w = then-times (float p ⊗ x) y (255 * a + e) b e E (omega arith) j (level-times p x a e E h i v) w

  pub blended-range : (dx dy : Float) → Upto dx 1 1 → Upto dy 1 1 → ReadingRange (blended (float p00) (float p10) (float p01) (float p11) dx dy)
  blended-range dx dy v w =
      split-range dx dy (den dx * den dy) (mul-pos (den_pos dx) (den_pos dy)) (split dx (den dy) (den_pos dy) v) (subst (Split dy) (mul_comm (den dy) (den dx)) (split dy (den dx) (den_pos dx) w))

pub value-range : (pic : List ℕ) (w h : ℕ) (xf yf : Float) → Bytes pic → Readable pic w h xf yf → ReadingRange (value_at pic w h xf yf)
unfolding value_at place_of
value-range pic w h xf yf b r =
    let g = whole (length pic) w h r.good in
    blended-range _ _ _ _ (held _ _) (held _ _) (held _ _) (held _ _) _ _ (shares w xf (side-fits w g.wide) r.x-is) (shares h yf (side-fits h g.high) r.y-is)
  where
    held : (i j : ℕ) → level_at w pic i j ≤ 255
    held i j = omega (arith, level-small pic w i j b)

    shares : (n : ℕ) (t : Float) → SideFits n → is_nan t ≡ false → Upto (clamped t bilinear.plus_zero (float n ⊖ one) ⊖ float (to_unsigned 64 (clamped t bilinear.plus_zero (float n ⊖ one)))) 1 1
    shares n t g i = share-upto (n - 1) (clamped t bilinear.plus_zero (float n ⊖ one)) (omega (arith, g.most)) (side-upto n t g i)

-- ---- THEOREM: the range of what `bilinear` answers
pub in-range : (pic : List ℕ) (w h : ℕ) (xf yf v : Float) → Bytes pic → sample_of pic w h xf yf ≡ is v → ReadingRange v
in-range pic w h xf yf v b e = let a = read_at pic w h xf yf v e in subst ReadingRange a.value (value-range pic w h xf yf b a.reads)

-- ---- THEOREM: it can be above 255, here by 2 ^ -45, of four pixels of the level 255
pub above-255 : sample_of (255 ∷ 255 ∷ 255 ∷ 255 ∷ []) 2 2 (ieee.of_bits binary64 0x3fdf_cbbd_fd38_ac21) (ieee.of_bits binary64 0x3fdb_bc52_667e_0452) ≡ is (fin false (255 * 2 ^ 45 + 1) (negsuc 44))
unfolding sample_of first_of value_at place_of clamped blended lt to_unsigned is_nan of_int ieee.of_bits ieee.add ieee.sub ieee.mul
above-255 = refl
