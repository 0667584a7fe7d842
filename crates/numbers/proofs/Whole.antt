-- A format counts the whole numbers to 2 ^ prec exactly, so the product and the difference of two of them are worked out as whole numbers and rounded once. Assumes nothing.
use Rattle.std.proofs.Common.{◌≡◌, ℕ, zero, suc, ◌-◌, ◌*◌, ◌^◌, ◌<◌, ◌≤◌, Bool, true, false, cond, ltb, pos, negsuc, ◌-ℤ◌, refl, ap, ◌∙◌, true≢false, zero-le, add-zero, mul_comm, mul-le-mul_left, mul-pos, mul-one, arith, lit<, ltb-false, ltb-true, le-ltb, lt-ltb}
use native.Mathlib.Nat.{sub-zero, mul-mul-mul_comm, mul-lt-mul_of_pos_left, mul-sub}
use lib.IntN.{sub_ℕ}
use lib.Ieee.{Float, nan, inf, fin, Format, binary64, up, down, round, mul, sum, sub, of_int}
use lib.Ieee.Fits.{down_pos}
use lib.Ieee.Back.{round_whole}
use lib.Ieee.Exact.{HasValue}
use lib.Ieee.Scale.{round_same}

-- ---- the product

mul-whole : (f : Format) (x y : Float) (a b : ℕ) → HasValue x false a 1 → HasValue y false b 1 → mul f x y ≡ round f false (a * b) 1
unfolding mul
mul-whole f nan y a b h k = absurd h
mul-whole f (inf s) y a b h k = absurd h
mul-whole f (fin s m e) nan a b h k = absurd k
mul-whole f (fin s m e) (inf t) a b h k = absurd k
mul-whole f (fin s m e) (fin t n d) a b h k =
    rw (h.0, k.0)
    (round_same f false (m * up e * (n * up d)) (down e * down d) (a * b) 1 (mul-pos (down_pos e) (down_pos d)) (lit< tt) (cross (m * up e) (n * up d) (down e) (down d) h.1 k.1))
  where
    cross : (m n x y : ℕ) → m * 1 ≡ a * x → n * 1 ≡ b * y → m * n * 1 ≡ a * b * (x * y)
    cross m n x y p q = mul-mul-mul_comm m n 1 1 ∙ ap (λ (z : ℕ). z * (n * 1)) p ∙ ap (λ (z : ℕ). a * x * z) q ∙ mul-mul-mul_comm a x b y

-- ---- the difference

-- of two whole numbers, by their order
minus : (p q : ℕ) → pos p -ℤ pos q ≡ sub_ℕ p q
minus p zero = rw (le-ltb p 0 zero-le, add-zero, sub-zero)
minus p (suc q) = refl

-- of c * p / c and c * q / c, by the order of p and q
ordered : (f : Format) (p q c : ℕ) → 0 < c → cond (ltb (c * p) (c * q)) (round f true (c * q - c * p) c) (round f false (c * p - c * q) c) ≡ of_int f (pos p -ℤ pos q)
unfolding of_int
ordered f p q c C = rw (minus p q) (go (ltb p q) refl)
  where
    apart : (p q : ℕ) → (c * p - c * q) * 1 ≡ (p - q) * c
    apart p q = rw (mul-one, ← mul-sub c p q) (mul_comm c (p - q))

    less : (p q : ℕ) → p < q → q - p ≡ suc (q - suc p)
    less p q l = omega arith

    go : (t : Bool) → ltb p q ≡ t → cond (ltb (c * p) (c * q)) (round f true (c * q - c * p) c) (round f false (c * p - c * q) c) ≡ of_int f (cond t (negsuc (q - suc p)) (pos (p - q)))
    go true e =
        let l : p < q = ltb-true p q e in
        rw (lt-ltb (c * p) (c * q) (mul-lt-mul_of_pos_left l C), ← less p q l) (round_same f true (c * q - c * p) c (q - p) 1 C (lit< tt) (apart q p))
    go false e = rw (le-ltb (c * p) (c * q) (mul-le-mul_left c (ltb-false p q e))) (round_same f false (c * p - c * q) c (p - q) 1 C (lit< tt) (apart p q))

sub-whole : (f : Format) (x y : Float) (p q : ℕ) → HasValue x false p 1 → HasValue y false q 1 → sub f x y ≡ of_int f (pos p -ℤ pos q)
unfolding sub sum
sub-whole f nan y p q h k = absurd h
sub-whole f (inf s) y p q h k = absurd h
sub-whole f (fin s m e) nan p q h k = absurd k
sub-whole f (fin s m e) (inf t) p q h k = absurd k
sub-whole f (fin true m e) (fin t n d) p q h k = absurd (true≢false h.0)
sub-whole f (fin false m e) (fin true n d) p q h k = absurd (true≢false k.0)
sub-whole f (fin false m e) (fin false n d) p q h k =
    rw (first (m * up e) (down e) (down d) h.1, second (n * up d) (down e) (down d) k.1) (ordered f p q (down e * down d) (mul-pos (down_pos e) (down_pos d)))
  where
    first : (m x y : ℕ) → m * 1 ≡ p * x → m * y ≡ x * y * p
    first m x y h = omega (arith, ap (λ (z : ℕ). z * y) h)

    second : (n x y : ℕ) → n * 1 ≡ q * y → n * x ≡ x * y * q
    second n x y h = omega (arith, ap (λ (z : ℕ). z * x) h)

-- ---- THE LAWS

pub whole-product : (a b : ℕ) → a ≤ 2 ^ 53 → b ≤ 2 ^ 53 → mul binary64 (of_int binary64 (pos a)) (of_int binary64 (pos b)) ≡ of_int binary64 (pos (a * b))
unfolding of_int
whole-product a b h k = mul-whole binary64 (round binary64 false a 1) (round binary64 false b 1) a b (round_whole binary64 false a h) (round_whole binary64 false b k)

pub whole-difference : (p q : ℕ) → p ≤ 2 ^ 53 → q ≤ 2 ^ 53 → sub binary64 (of_int binary64 (pos p)) (of_int binary64 (pos q)) ≡ of_int binary64 (pos p -ℤ pos q)
unfolding of_int
whole-difference p q h k = sub-whole binary64 (round binary64 false p 1) (round binary64 false q 1) p q (round_whole binary64 false p h) (round_whole binary64 false q k)
