-- The order of finite floats. Assumes nothing.
use Rattle.std.proofs.Common.{◌≡◌, ℕ, ◌+◌, ◌*◌, ◌<◌, ◌≤◌, Bool, true, false, ◌||◌, T, eqb, ltb, sym, refl, ◌∙◌, subst, true≢false, mul-le-mul_right, add-mul, mul-lt-mul_of_pos_right, mul-pos, mul_right_comm, arith, ltb-false, ltb-true, le-ltb, lt-ltb, eqb-true}
use mathlib.Core.Bool.{and-eq-true_iff, false≢true}
use lib.Ieee.{Float, nan, inf, fin, lt, le, eq, below, level, up, down}
use lib.Ieee.Fits.{down_pos}
use lib.Ieee.Scale.{finite}

-- ---- whole numbers with a sign

-- two tests with the same answer
pub ltb-same : (a b c d : ℕ) → (c < d → a < b) → (d ≤ c → b ≤ a) → ltb a b ≡ ltb c d
ltb-same a b c d p q = go (ltb c d) refl
  where
    go : (t : Bool) → ltb c d ≡ t → ltb a b ≡ t
    go true e = lt-ltb a b (p (ltb-true c d e))
    go false e = le-ltb a b (q (ltb-false c d e))

below-not : (s : Bool) (a : ℕ) (t : Bool) (b : ℕ) → below s a t b ≡ true → below t b s a ≡ false
below-not false a false b h = le-ltb b a (omega (arith, ltb-true a b h))
below-not false a true b h = absurd (false≢true h)
below-not true a false b h = refl
below-not true a true b h = le-ltb a b (omega (arith, ltb-true b a h))

-- where a is below b and not below c, c is below b
below-under : (s : Bool) (a : ℕ) (t : Bool) (b : ℕ) (r : Bool) (c : ℕ) → below s a t b ≡ true → below s a r c ≡ false → below r c t b ≡ true
below-under false a false b false c h k = lt-ltb c b (omega (arith, ltb-true a b h, ltb-false a c k))
below-under false a false b true c h k = lt-ltb 0 (c + b) (omega (arith, ltb-true a b h))
below-under false a true b r c h k = absurd (false≢true h)
below-under true a false b false c h k = lt-ltb c b (omega (arith, ltb-true 0 (a + b) h, ltb-false 0 (a + c) k))
below-under true a false b true c h k = lt-ltb 0 (c + b) (omega (arith, ltb-true 0 (a + b) h, ltb-false c a k))
below-under true a true b false c h k = absurd (let l = ltb-true b a h in let z = ltb-false 0 (a + c) k in omega arith)
below-under true a true b true c h k = lt-ltb b c (omega (arith, ltb-true b a h, ltb-false c a k))

-- both sides times n
below-times : (n : ℕ) → 0 < n → (s : Bool) (a : ℕ) (t : Bool) (b : ℕ) → below s (a * n) t (b * n) ≡ below s a t b
below-times n N false a false b = ltb-same (a * n) (b * n) a b (λ l. mul-lt-mul_of_pos_right l N) (λ l. mul-le-mul_right n l)
below-times n N false a true b = refl
below-times n N true a false b = ltb-same 0 (a * n + b * n) 0 (a + b) (λ l. omega (arith, mul-pos l N, add-mul a b n)) (λ l. omega (arith, mul-le-mul_right n l, add-mul a b n))
below-times n N true a true b = ltb-same (b * n) (a * n) b a (λ l. mul-lt-mul_of_pos_right l N) (λ l. mul-le-mul_right n l)

-- ---- fractions with a sign: ±a / i, ±b / j and ±c / n
fraction-under : (s : Bool) (a i : ℕ) (t : Bool) (b j : ℕ) (r : Bool) (c n : ℕ) → 0 < i → 0 < j → 0 < n
    → below s (a * j) t (b * i) ≡ true → below s (a * n) r (c * i) ≡ false → below r (c * j) t (b * n) ≡ true
fraction-under s a i t b j r c n I J N h k =
    sym (below-times i I r (c * j) t (b * n))
    ∙ rw (mul_right_comm c j i, mul_right_comm b n i)
    (below-under s (a * j * n) t (b * i * n) r (c * i * j)
    (below-times n N s (a * j) t (b * i) ∙ h)
    (rw (mul_right_comm a j n) (below-times j J s (a * n) r (c * i) ∙ k)))

-- ---- floats

pub lt_not : (x y : Float) → lt x y ≡ true → lt y x ≡ false
unfolding lt
lt_not nan y h = absurd (false≢true h)
lt_not (inf s) nan h = absurd (false≢true h)
lt_not (inf true) (inf true) h = absurd (false≢true h)
lt_not (inf true) (inf false) h = refl
lt_not (inf false) (inf t) h = absurd (false≢true h)
lt_not (inf true) (fin t n d) h = refl
lt_not (inf false) (fin t n d) h = absurd (false≢true h)
lt_not (fin s m e) nan h = absurd (false≢true h)
lt_not (fin s m e) (inf true) h = absurd (false≢true h)
lt_not (fin s m e) (inf false) h = refl
lt_not (fin s m e) (fin t n d) h = below-not s (m * up e * down d) t (n * up d * down e) h

pub lt-self : (x : Float) → lt x x ≡ false
lt-self x = go (lt x x) refl
  where
    go : (t : Bool) → lt x x ≡ t → lt x x ≡ false
    go true e = lt_not x x e
    go false e = e

-- where x is below y and not below z, z is below y
pub lt-under : (x y z : Float) → T (finite x) → T (finite y) → T (finite z) → lt x y ≡ true → lt x z ≡ false → lt z y ≡ true
unfolding lt
lt-under nan y z p q r h k = absurd p
lt-under (inf s) y z p q r h k = absurd p
lt-under (fin s m e) nan z p q r h k = absurd q
lt-under (fin s m e) (inf t) z p q r h k = absurd q
lt-under (fin s m e) (fin t n d) nan p q r h k = absurd r
lt-under (fin s m e) (fin t n d) (inf u) p q r h k = absurd r
lt-under (fin s m e) (fin t n d) (fin u o g) p q r h k =
    fraction-under s (m * up e) (down e) t (n * up d) (down d) u (o * up g) (down g) (down_pos e) (down_pos d) (down_pos g) h k

-- where x is below y and z is not, x is below z
pub lt-over : (x y z : Float) → T (finite x) → T (finite y) → T (finite z) → lt x y ≡ true → lt z y ≡ false → lt x z ≡ true
lt-over x y z p q r h k = go (lt x z) refl
  where
    go : (t : Bool) → lt x z ≡ t → lt x z ≡ true
    go true e = e
    go false e = absurd (true≢false (sym (lt-under x y z p q r h e) ∙ k))

-- of two equal numbers none is below the other
level-not : (s : Bool) (a : ℕ) (t : Bool) (b : ℕ) → level s a t b ≡ true → below t b s a ≡ false
level-not false a false b h = let e = eqb-true a b ((and-eq-true_iff (eqb a b) true).0 h).0 in le-ltb b a (omega arith)
level-not true a true b h = let e = eqb-true a b ((and-eq-true_iff (eqb a b) true).0 h).0 in le-ltb a b (omega arith)
level-not true a false b h = refl
level-not false a true b h =
    let both = (and-eq-true_iff (eqb a b) (eqb a 0)).0 h in
    let e = eqb-true a b both.0 in
    let z = eqb-true a 0 both.1 in
    le-ltb 0 (b + a) (omega arith)

-- the same of floats
eq-not : (x y : Float) → eq x y ≡ true → lt y x ≡ false
unfolding eq lt
eq-not nan y h = absurd (false≢true h)
eq-not (inf s) nan h = refl
eq-not (inf true) (inf true) h = refl
eq-not (inf true) (inf false) h = refl
eq-not (inf false) (inf true) h = absurd (false≢true h)
eq-not (inf false) (inf false) h = refl
eq-not (inf s) (fin t n d) h = absurd (false≢true h)
eq-not (fin s m e) nan h = refl
eq-not (fin s m e) (inf t) h = absurd (false≢true h)
eq-not (fin s m e) (fin t n d) h = level-not s (m * up e * down d) t (n * up d * down e) h

-- y is not below x where x is at most y
pub le_not : (x y : Float) → le x y ≡ true → lt y x ≡ false
unfolding le
le_not x y h = go (lt x y) refl
  where
    go : (t : Bool) → lt x y ≡ t → lt y x ≡ false
    go true e = lt_not x y e
    go false e = eq-not x y (subst (λ t. t || eq x y ≡ true) e h)
