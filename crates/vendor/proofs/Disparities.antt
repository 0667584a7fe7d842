-- The disparities of a search as floats: finite, and no two are equal. Assumes nothing.
use Prim.Native.Nat.{ℕ, ◌-◌, ◌*◌, ◌/◌, ◌^◌, ◌<◌, ◌≤◌, min}
use mathlib.Core.Path.{◌≡◌, refl, sym, ap, ◌∙◌, subst}
use mathlib.Core.Bool.{Bool, true, false, not, cond, ◌||◌, beq, false≢true}
use native.Mathlib.Nat.{zero-mul, zero-min, zero-div, eq_of_mul-eq-mul_right}
use native.Mathlib.Omega.{arith}
use borrow.Author.Tests.{eqb-true}
use lib.Dec.{T, eqb}
use lib.IntN.{ℤ, pos, negsuc, nat_abs, neg_ℤ, ◌+ℤ◌, +ℤ_comm, +ℤ-neg_ℤ_cancel}
use lib.Ieee.{Float, nan, inf, fin, binary32, eq, ne, of_int, to_signed, in_signed, up, down}
use lib.Ieee.Back.{positive_back, negative_back}
use lib.Ieee.Compare.{differs_from_itself}
use lib.Ieee.Fits.{down_pos}
use lib.Ieee.Nearest.{div_same}
use lib.Ieee.Scale.{finite}
use Rattle.lists.proofs.Tests.{and_both}
use Rattle.choices.specs.declared.subpixel.Search.{Search}
use Rattle.choices.specs.Subpixel.{disparity}
use Rattle.choices.proofs.Signed.{sum-nat_abs, float_of}
use Rattle.vendor.specs.Inner.{Searched}

-- ---- equal numbers cast to equal integers

-- a whole number with a sign, as the cast cuts it to its range
abbrev ranged : ℕ → Bool → ℕ → ℤ
ranged h s a = cond s (neg_ℤ (pos (min a (2 ^ h)))) (pos (min a (2 ^ h - 1)))

-- of zero the sign is lost
ranged-none : (h : ℕ) (s : Bool) → ranged h s 0 ≡ pos 0
ranged-none h true = ap (λ a. neg_ℤ (pos a)) (zero-min (2 ^ h))
ranged-none h false = ap pos (zero-min (2 ^ h - 1))

-- one size with two signs, which differ for zero only
ranged-same : (h : ℕ) (s t : Bool) (a c : ℕ) → (c ≡ 0 → a ≡ 0) → beq s t || eqb c 0 ≡ true → ranged h s a ≡ ranged h t a
ranged-same h true true a c z e = refl
ranged-same h false false a c z e = refl
ranged-same h true false a c z e = rw (z (eqb-true c 0 e)) (ranged-none h true ∙ sym (ranged-none h false))
ranged-same h false true a c z e = rw (z (eqb-true c 0 e)) (ranged-none h false ∙ sym (ranged-none h true))

-- minus zero equals 0, and both cast to 0
pub cast_same : (h : ℕ) (x y : Float) → eq x y ≡ true → to_signed h x ≡ to_signed h y
unfolding eq to_signed
cast_same h nan y e = absurd (false≢true e)
cast_same h (inf s) nan e = absurd (false≢true e)
cast_same h (inf true) (inf true) e = refl
cast_same h (inf true) (inf false) e = absurd (false≢true e)
cast_same h (inf false) (inf true) e = absurd (false≢true e)
cast_same h (inf false) (inf false) e = refl
cast_same h (inf s) (fin t n d) e = absurd (false≢true e)
cast_same h (fin s m k) nan e = absurd (false≢true e)
cast_same h (fin s m k) (inf t) e = absurd (false≢true e)
cast_same h (fin s m k) (fin t n d) e =
    let both = and_both (eqb (m * up k * down d) (n * up d * down k)) (beq s t || eqb (m * up k * down d) 0) e in
    let same : m * up k / down k ≡ n * up d / down d = div_same (m * up k) (down k) (n * up d) (down d) (down_pos k) (down_pos d) (eqb-true _ _ both.0) in
    ranged-same h s t (m * up k / down k) (m * up k * down d) (λ z. none (m * up k) (down d) (down k) (down_pos d) z) both.1 ∙ ap (ranged h t) same
  where
    none : (a c g : ℕ) → 0 < c → a * c ≡ 0 → a / g ≡ 0
    none a c g C z = rw (eq_of_mul-eq-mul_right c C a 0 (z ∙ sym (zero-mul c))) (zero-div g)

-- ---- a disparity

-- first + k is small
small : (s : Search) → Searched s → (k : ℕ) → k < s.count → nat_abs (s.first +ℤ pos k) ≤ 2 ^ 24
small s z k l = sum-nat_abs s.first k (2 ^ 24) (omega (arith, z.few, z.close))

-- a small whole number as a float passes the cast's test, and casts back
whole_back : (z : ℤ) → nat_abs z ≤ 2 ^ 24 → T (in_signed binary32 31 (of_int binary32 z)) × (to_signed 31 (of_int binary32 z) ≡ z)
whole_back (pos n) l = positive_back binary32 31 n (float_of (pos n) l) (omega arith)
whole_back (negsuc n) l = negative_back binary32 31 n (float_of (negsuc n) l) (omega arith)

-- so does a disparity
back : (s : Search) → Searched s → (k : ℕ) → k < s.count → T (in_signed binary32 31 (disparity s k)) × (to_signed 31 (disparity s k) ≡ s.first +ℤ pos k)
back s z k l = whole_back (s.first +ℤ pos k) (small s z k l)

-- what passes the cast's test is finite
whole-finite : (x : Float) → T (in_signed binary32 31 x) → finite x ≡ true
unfolding in_signed
whole-finite nan t = absurd t
whole-finite (inf s) t = absurd t
whole-finite (fin s m e) t = refl

-- a disparity is finite
pub disparity-finite : (s : Search) → Searched s → (k : ℕ) → k < s.count → finite (disparity s k) ≡ true
disparity-finite s z k l = whole-finite (disparity s k) (back s z k l).0

-- a finite number equals itself
pub finite-self : (x : Float) → finite x ≡ true → eq x x ≡ true
finite-self x f = go (eq x x) refl
  where
    go : (t : Bool) → eq x x ≡ t → eq x x ≡ true
    go true e = e
    go false e = absurd (false≢true (sym (ap finite (differs_from_itself x (unfold ne in subst (λ u. T (not u)) (sym e) tt))) ∙ f))

-- a disparity equals itself
pub disparity-self : (s : Search) → Searched s → (k : ℕ) → k < s.count → eq (disparity s k) (disparity s k) ≡ true
disparity-self s z k l = finite-self (disparity s k) (disparity-finite s z k l)

-- two sums with one number
same-added : (a : ℤ) (j k : ℕ) → a +ℤ pos j ≡ a +ℤ pos k → j ≡ k
same-added a j k e = ap nat_abs (sym (+ℤ-neg_ℤ_cancel (pos j) a) ∙ ap (λ z. z +ℤ neg_ℤ a) (+ℤ_comm (pos j) a ∙ e ∙ +ℤ_comm a (pos k)) ∙ +ℤ-neg_ℤ_cancel (pos k) a)

-- a number is one disparity at most
pub disparity-one : (s : Search) → Searched s → (v : Float) (j k : ℕ) → j < s.count → k < s.count → eq v (disparity s j) ≡ true → eq v (disparity s k) ≡ true → j ≡ k
disparity-one s z v j k lj lk ej ek =
    same-added s.first j k
    (sym (back s z j lj).1 ∙ sym (cast_same 31 v (disparity s j) ej) ∙ cast_same 31 v (disparity s k) ek ∙ (back s z k lk).1)
