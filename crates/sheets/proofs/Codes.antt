-- The numbers that stand for cells: each cell has its number, and each number its cell. Assumes nothing.
use Rattle.std.proofs.Common.{◌≡◌, ℕ, zero, suc, ◌+◌, ◌*◌, ◌/◌, ◌%◌, ◌^◌, ◌<◌, ◌≤◌, Bool, true, false, cond, not, ◌&&◌, T, eqb, ltb, leb, ℤ, pos, negsuc, nat_abs, sym, refl, ap, ◌∙◌, subst, arith, le→leb, lt→ltb, leb→le, ltb-true, lt-ltb, eqb-true, leb-true}
use mathlib.Core.Bool.{false≢true}
use borrow.Author.Tests.{eqb-false}
use lib.Ieee.{Float, nan, inf, fin, binary32, up, down, whole, in_signed, in_float, to_signed, of_int, fits, to_bits, of_bits}
use lib.Ieee.Fits.{and_i, and_l, and_r, nan-fits, of_int-fits}
use lib.Ieee.Scale.{finite}
use lib.Ieee.Back.{positive_back, negative_back, Float-back_signed}
use lib.Ieee.Bits.{is_true, of_bits-to_bits, to_bits-of_bits, to_bits-lt, of_bits-fits}
use Rattle.lists.proofs.Tests.{and_both}
use Rattle.numbers.proofs.FinitePatterns.{finite_number}
use Rattle.sheets.specs.declared.code.Kind.{Kind}
use Rattle.sheets.specs.declared.code.Kind.TheVariants.{Whole, Exact}
use Rattle.sheets.specs.Limits.{is_whole_cell}
use Rattle.refusals.specs.Steps.{is, refused}
use Rattle.sheets.specs.Code.{kind_number, kind_of, folded, unfolded, is_whole, code_of, is_finite_pattern, sheet_cell}
use Rattle.refusals.proofs.Stepwise.{not-refused, given_is}

-- ---- the kinds

pub kind-back : (k : Kind) → kind_of (kind_number k) ≡ is k
unfolding kind_of
kind-back Whole = refl
kind-back Exact = refl

pub kind-number : (n : ℕ) (k : Kind) → kind_of n ≡ is k → n ≡ kind_number k
unfolding kind_of
kind-number zero k e = let same : Whole ≡ k = cc in ap kind_number same
kind-number (suc zero) k e = let same : Exact ≡ k = cc in ap kind_number same
kind-number (suc (suc n)) k e = not-refused (sym e)

pub kind-small : (k : Kind) → kind_number k < 2 ^ 35
kind-small Whole = omega arith
kind-small Exact = omega arith

-- ---- whole numbers folded

pub fold-back : (z : ℤ) → unfolded (folded z) ≡ z
fold-back (pos n) =
    let even : 2 * n % 2 ≡ 0 = omega arith in
    let half : 2 * n / 2 ≡ n = omega arith in
    rw (even, half)
fold-back (negsuc n) =
    let odd : (2 * n + 1) % 2 ≡ 1 = omega arith in
    let half : (2 * n + 1) / 2 ≡ n = omega arith in
    rw (odd, half)

pub unfold-back : (m : ℕ) → folded (unfolded m) ≡ m
unfold-back m = go (eqb (m % 2) 0) refl
  where
    go : (b : Bool) → eqb (m % 2) 0 ≡ b → folded (cond b (pos (m / 2)) (negsuc (m / 2))) ≡ m
    go true e = omega (arith, eqb-true (m % 2) 0 e)
    go false e = odd m (eqb-false (m % 2) 0 e)
      where
        odd : (m : ℕ) → (m % 2 ≡ 0 → ⊥) → 2 * (m / 2) + 1 ≡ m
        odd m h = omega arith

one_more : (n : ℕ) → 1 + n ≡ suc n
one_more n = omega arith

-- ---- kind 0: a cell that is a whole number is the float of that number

in-signed : (x : Float) → T (whole binary32 x) → T (in_signed binary32 31 x)
unfolding whole in_signed
in-signed nan t = absurd t
in-signed (inf s) t = absurd t
in-signed (fin s m e) t =
    let c = m * up e / down e in
    let a = eqb (m * up e % down e) 0 in
    let few : c ≤ 2 ^ 24 = leb→le c (2 ^ 24) (and_r a (leb c (2 ^ 24)) (and_l (a && leb c (2 ^ 24)) (not (s && eqb m 0)) t)) in
    and_i (whole binary32 (fin s m e)) (cond s (leb c (2 ^ 31)) (ltb c (2 ^ 31))) t (go c s few)
  where
    go : (c : ℕ) (s : Bool) → c ≤ 2 ^ 24 → T (cond s (leb c (2 ^ 31)) (ltb c (2 ^ 31)))
    go c true h = le→leb c (2 ^ 31) (omega arith)
    go c false h = lt→ltb c (2 ^ 31) (omega arith)

whole-of-signed : (x : Float) → T (in_signed binary32 31 x) → T (whole binary32 x)
unfolding in_signed
whole-of-signed nan t = absurd t
whole-of-signed (inf s) t = absurd t
whole-of-signed (fin s m e) t = and_l (whole binary32 (fin s m e)) _ t

-- the whole number that the cell is
pub whole_float : (x : Float) → T (fits binary32 x) → is_whole x ≡ true → of_int binary32 (to_signed 31 x) ≡ x
whole_float x p w = (Float-back_signed binary32 31 x p (in-signed x (subst T (sym (and_both (whole binary32 x) (is_whole_cell (to_signed 31 x)) w).0) tt))).1

pub whole_in : (x : Float) → is_whole x ≡ true → is_whole_cell (to_signed 31 x) ≡ true
whole_in x w = (and_both (whole binary32 x) (is_whole_cell (to_signed 31 x)) w).1

few : (z : ℤ) → is_whole_cell z ≡ true → nat_abs z ≤ 2 ^ 24
few z w = omega (arith, leb-true (nat_abs z) _ w)

int-back : (z : ℤ) → nat_abs z ≤ 2 ^ 24 → T (in_signed binary32 31 (of_int binary32 z)) × (to_signed 31 (of_int binary32 z) ≡ z)
unfolding in_float
int-back (pos n) h = positive_back binary32 31 n (le→leb n (2 ^ 24) h) (omega arith)
int-back (negsuc n) h = negative_back binary32 31 n (lt→ltb n (2 ^ 24) h) (omega arith)

pub int-whole : (z : ℤ) → is_whole_cell z ≡ true → is_whole (of_int binary32 z) ≡ true
int-whole z w =
    let back = int-back z (few z w) in
    rw (is_true (whole binary32 (of_int binary32 z)) (whole-of-signed _ back.0), back.1) w

pub code-whole : (x : Float) → is_whole x ≡ true → code_of Whole x ≡ is (suc (folded (to_signed 31 x)))
unfolding code_of
code-whole nan w = absurd (false≢true (unfold whole in w))
code-whole (inf s) w = absurd (false≢true (unfold whole in w))
code-whole (fin s m e) w = rw (w, one_more)

pub code-unwhole : (x : Float) → finite x ≡ true → is_whole x ≡ false → code_of Whole x ≡ refused 32
unfolding code_of
code-unwhole nan f w = absurd (false≢true f)
code-unwhole (inf s) f w = absurd (false≢true f)
code-unwhole (fin s m e) f w = rw w

pub code-of-int : (z : ℤ) → is_whole_cell z ≡ true → code_of Whole (of_int binary32 z) ≡ is (suc (folded z))
code-of-int z w = code-whole (of_int binary32 z) (int-whole z w) ∙ ap (λ (y : ℤ). is (suc (folded y))) (int-back z (few z w)).1

-- ---- kind 1

pub code-exact : (x : Float) → finite x ≡ true → code_of Exact x ≡ is (suc (to_bits binary32 x))
unfolding code_of
code-exact nan f = absurd (false≢true f)
code-exact (inf s) f = absurd (false≢true f)
code-exact (fin s m e) f = rw one_more

-- ---- THEOREM: a cell's number gives the cell back, and a number's cell the number

code-back-whole : (x : Float) → T (fits binary32 x) → is_whole x ≡ true → sheet_cell Whole (suc (folded (to_signed 31 x))) ≡ is x
unfolding sheet_cell
code-back-whole x p w = rw (fold-back (to_signed 31 x), whole_in x w, whole_float x p w)

code-back-exact : (x : Float) → T (fits binary32 x) → finite x ≡ true → sheet_cell Exact (suc (to_bits binary32 x)) ≡ is x
unfolding sheet_cell
code-back-exact x p f = rw (of_bits-to_bits binary32 x p, f, lt-ltb (to_bits binary32 x) (2 ^ 32) (to_bits-lt binary32 x p))

pub code-back : (k : Kind) (x : Float) (n : ℕ) → T (fits binary32 x) → code_of k x ≡ is n → sheet_cell k n ≡ is x
unfolding code_of sheet_cell
code-back k nan n p e = let z : n ≡ 0 = cc in rw z
code-back k (inf s) n p e = not-refused (sym e)
code-back Whole (fin s m e') n p e =
    let g = given_is (is_whole (fin s m e')) 32 (1 + folded (to_signed 31 (fin s m e'))) n e in
    rw (← g.1, one_more) (code-back-whole (fin s m e') p g.0)
code-back Exact (fin s m e') n p e =
    let z : n ≡ 1 + to_bits binary32 (fin s m e') = cc in
    rw (z, one_more) (code-back-exact (fin s m e') p refl)

pub cell-back : (k : Kind) (n : ℕ) (x : Float) → sheet_cell k n ≡ is x → code_of k x ≡ is n
unfolding sheet_cell
cell-back k zero x e = let z : x ≡ nan = cc in rw z (unfold code_of in refl)
cell-back Whole (suc m) x e =
    let g = given_is (is_whole_cell (unfolded m)) 37 (of_int binary32 (unfolded m)) x e in
    rw (← g.1) (code-of-int (unfolded m) g.0 ∙ ap (λ (n : ℕ). is (suc n)) (unfold-back m))
cell-back Exact (suc b) x e =
    let g = given_is (is_finite_pattern b) 37 (of_bits binary32 b) x e in
    let parts = and_both (ltb b (2 ^ 32)) (finite (of_bits binary32 b)) g.0 in
    let same = to_bits-of_bits binary32 b (ltb-true b (2 ^ 32) parts.0) (finite_number (of_bits binary32 b) parts.1) in
    rw (← g.1) (code-exact (of_bits binary32 b) parts.1 ∙ ap (λ (n : ℕ). is (suc n)) same)

pub cell-fits : (k : Kind) (n : ℕ) (x : Float) → sheet_cell k n ≡ is x → T (fits binary32 x)
unfolding sheet_cell
cell-fits k zero x e = let z : x ≡ nan = cc in rw z (nan-fits binary32)
cell-fits Whole (suc m) x e = rw (← (given_is (is_whole_cell (unfolded m)) 37 (of_int binary32 (unfolded m)) x e).1) (of_int-fits binary32 (unfolded m))
cell-fits Exact (suc b) x e = rw (← (given_is (is_finite_pattern b) 37 (of_bits binary32 b) x e).1) (of_bits-fits binary32 b)

-- ---- a cell's number is small

folded-most : (z : ℤ) → folded z ≤ 2 * nat_abs z
folded-most (pos n) = omega arith
folded-most (negsuc n) = omega arith

pub code-small : (k : Kind) (x : Float) (n : ℕ) → T (fits binary32 x) → code_of k x ≡ is n → n < 2 ^ 35
unfolding code_of
code-small k nan n p e = let z : n ≡ 0 = cc in omega arith
code-small k (inf s) n p e = not-refused (sym e)
code-small Whole (fin s m e') n p e =
    let x = fin s m e' in
    let z = to_signed 31 x in
    let g = given_is (is_whole x) 32 (1 + folded z) n e in
    omega (arith, g.1, folded-most z, few z (whole_in x g.0))
code-small Exact (fin s m e') n p e =
    let z : n ≡ 1 + to_bits binary32 (fin s m e') = cc in
    omega (arith, to_bits-lt binary32 (fin s m e') p)
