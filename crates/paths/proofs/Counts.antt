-- The binary32 numbers from 0 on by their count of units: from a range to a count and back, and how sums, differences, penalties and the smaller of two change
-- it. Assumes nothing.
use mathlib.Core.Path.{◌≡◌, refl, sym, ap, ◌∙◌, subst}
use mathlib.Core.Bool.{true, false, true≢false}
use mathlib.Core.Logic.{◌⊎◌, ⊎_elim, inl, inr}
use Prim.Native.Nat.{ℕ, zero, suc, ◌+◌, ◌-◌, ◌*◌, ◌^◌, ◌<◌, ◌≤◌, zero-le}
use native.Mathlib.Nat.{le_trans, le_of_eq, mul_assoc, mul_right_comm, mul-pos, zero-mul, mul-one, mul-le-mul_right, le_of_mul-le-mul_right, eq_of_mul-eq-mul_right, mul-lt-mul_of_pos_right, lt_of_le_of_lt, not-le_of_lt, mul-le-mul}
use native.Mathlib.Omega.{arith}
use lib.Dec.{T, ltb→lt, leb→le, lit<}
use lib.Pow.{pow_pos, pow-add, pow_mono, pow-lt}
use lib.IntN.{ℤ, pos, negsuc}
use lib.Ieee.{Float, nan, inf, fin, binary32, up, down, add, sub, lt, fits}
use lib.Ieee.Fits.{down_pos, and_l, and_r, add-fits, sub-fits}
use lib.Ieee.Scale.{round_same}
use borrow.Author.Tests.{lt-ltb, le-ltb}
use Rattle.lists.proofs.Tests.{lt-or-le}
use Rattle.numbers.specs.Plain.{smaller_of}
use Rattle.paths.specs.Bounds.{UpTo}
use Rattle.paths.proofs.Units.{one, one-pos, Val, rounds, Rep, rep-of, rounded, add_is, sub_is, lt-is, left-cross, taken-off, sub-cross}

-- ---- a number of so many units

pub record Num (x : Float) (u : ℕ) : Type 0 where
  pub fit : T (fits binary32 x)
  pub val : Val x u

record Digits (m : ℕ) (e : ℤ) : Type 0 where
  j : ℕ
  is : m * up e * one ≡ m * 2 ^ j * down e
  small : m < 2 ^ 24
  fine : m * 2 ^ j < 2 ^ 277

digits : (m : ℕ) (e : ℤ) → T (fits binary32 (fin false m e)) → Digits m e
unfolding fits one
digits zero e t = record { j = 0; is = ap (λ (z : ℕ). z * one) (zero-mul (up e)) ∙ sym (zero-mul (down e)); small = lit< tt; fine = lit< tt }
digits (suc m) (pos k) t =
    let s : suc m < 2 ^ 24 = ltb→lt (suc m) (2 ^ 24) (search (and_l, and_r)) in
    let b : suc m * 2 ^ k < 2 ^ 128 * 1 = ltb→lt (suc m * 2 ^ k) (2 ^ 128 * 1) (search (and_l, and_r)) in
    let p : suc m * 2 ^ (k + 149) ≡ suc m * 2 ^ k * one = ap (λ (z : ℕ). suc m * z) (pow-add 2 k 149) ∙ sym (mul_assoc (suc m) (2 ^ k) one) in
    record { j = k + 149; is = sym p ∙ sym (mul-one (suc m * 2 ^ (k + 149))); small = s; fine = rw p (mul-lt-mul_of_pos_right b (pow_pos 149)) }
digits (suc m) (negsuc k) t =
    let s : suc m < 2 ^ 24 = ltb→lt (suc m) (2 ^ 24) (search (and_l, and_r)) in
    let d : 2 ^ suc k ≤ 2 ^ 149 = leb→le (2 ^ suc k) (2 ^ 149) (search (and_l, and_r)) in
    let l : suc k ≤ 149 = ⊎_elim (λ (h : 149 < suc k). absurd (not-le_of_lt (pow-lt h) d)) (λ (h : suc k ≤ 149). h) (lt-or-le 149 (suc k)) in
    let e : 149 - suc k + suc k ≡ 149 = omega arith in
    let p : 2 ^ (149 - suc k) * 2 ^ suc k ≡ one = sym (pow-add 2 (149 - suc k) (suc k)) ∙ ap (λ (z : ℕ). 2 ^ z) e in
    let r : 149 - suc k ≤ 149 = omega arith in
    let q : 2 ^ (149 - suc k) ≤ 2 ^ 149 = pow_mono r in
    record {
      j = 149 - suc k;
      is = ap (λ (z : ℕ). z * one) (mul-one (suc m)) ∙ ap (λ (z : ℕ). suc m * z) (sym p) ∙ sym (mul_assoc (suc m) (2 ^ (149 - suc k)) (2 ^ suc k));
      small = s;
      fine = lt_of_le_of_lt (mul-le-mul {n₁ = suc m} {n₂ = 2 ^ 24} (omega arith) q) (lit< tt);
    }

-- x's own count, and rounding leaves it as it is
count_of : (m : ℕ) (e : ℤ) (u : ℕ) (d : Digits m e) → m * up e * one ≡ u * down e → m * 2 ^ d.j ≡ u
count_of m e u d v = eq_of_mul-eq-mul_right (down e) (down_pos e) (m * 2 ^ d.j) u (sym d.is ∙ v)

pub num-rep : (x : Float) (u : ℕ) → Num x u → Rep u
num-rep nan u n = absurd n.val
num-rep (inf s) u n = absurd n.val
num-rep (fin true m e) u n = absurd (true≢false n.val.0)
num-rep (fin false m e) u n =
    let d = digits m e n.fit in
    subst (λ (z : ℕ). Rep z) (count_of m e u d n.val.1) (rep-of m d.j d.small d.fine)

-- ---- from a range to a count, and back

pub record Counted (n : ℕ) (x : Float) : Type 0 where
  pub u : ℕ
  pub num : Num x u
  pub high : u ≤ n * one

pub counted : (n : ℕ) (x : Float) → UpTo n x → Counted n x
counted n nan t = absurd t
counted n (inf s) t = absurd t
counted n (fin true m e) t = absurd t
counted n (fin false m e) t =
    let d = digits m e t.0 in
    let c : n * down e * one ≡ n * one * down e = mul_right_comm n (down e) one in
    record {
      u = m * 2 ^ d.j;
      num = record { fit = t.0; val = (refl, d.is) };
      high = le_of_mul-le-mul_right (le_trans (le_of_eq (sym d.is)) (le_trans (mul-le-mul_right one t.1) (le_of_eq c))) (down_pos e);
    }

pub num-upto : (n : ℕ) (x : Float) (u : ℕ) → Num x u → u ≤ n * one → UpTo n x
num-upto n nan u k h = absurd k.val
num-upto n (inf s) u k h = absurd k.val
num-upto n (fin true m e) u k h = absurd (true≢false k.val.0)
num-upto n (fin false m e) u k h = (
  k.fit,
  le_of_mul-le-mul_right (le_trans (le_of_eq k.val.1) (le_trans (mul-le-mul_right (down e) h) (le_of_eq (mul_right_comm n one (down e))))) one-pos,
)

-- ---- the operations on counts

pub record Ranged (x : Float) (lo hi : ℕ) : Type 0 where
  pub u : ℕ
  pub num : Num x u
  pub from : lo ≤ u
  pub to : u ≤ hi

ranged : (x : Float) (v lo hi : ℕ) → T (fits binary32 x) → x ≡ rounds v → lo ≤ v → v ≤ hi → Rep lo → Rep hi → Ranged x lo hi
ranged x v lo hi f e l h rl rh =
    let r = rounded v one lo hi one-pos (mul-le-mul_right one l) (mul-le-mul_right one h) rl rh in
    record { u = r.units; num = record { fit = f; val = rw e r.val }; from = r.from; to = r.to }

pub add-range : (x y : Float) (a b lo hi : ℕ) → Num x a → Num y b → lo ≤ a + b → a + b ≤ hi → Rep lo → Rep hi → Ranged (add binary32 x y) lo hi
add-range x y a b lo hi nx ny l h rl rh = ranged (add binary32 x y) (a + b) lo hi (add-fits binary32 x y) (add_is x y a b nx.val ny.val) l h rl rh

pub sub-range : (x y : Float) (a b hi : ℕ) → Num x a → Num y b → b ≤ a → a - b ≤ hi → Rep hi → Ranged (sub binary32 x y) 0 hi
sub-range x y a b hi nx ny l h rh =
    ranged (sub binary32 x y) (a - b) 0 hi (sub-fits binary32 x y) (sub_is x y a b nx.val ny.val l) zero-le h (rep-of 0 0 (lit< tt) (lit< tt)) rh

-- a penalty is a number from 0 to 1024, or minus zero
abbrev pub Penalty : Float → Type 0
Penalty nan = ⊥
Penalty (inf s) = ⊥
Penalty (fin true m e) = m ≡ 0
Penalty (fin false m e) = UpTo 1024 (fin false m e)

-- it adds its count, minus zero none
pub record Adds (p : Float) : Type 0 where
  pub b : ℕ
  pub adds : (x : Float) (a : ℕ) → Num x a → add binary32 x p ≡ rounds (a + b)
  pub high : b ≤ 1024 * one

minus-zero : (e : ℤ) (x : Float) (a : ℕ) → Val x a → add binary32 x (fin true 0 e) ≡ rounds (a + 0)
unfolding add
minus-zero e nan a v = absurd v
minus-zero e (inf s) a v = absurd v
minus-zero e (fin true n d) a v = absurd (true≢false v.0)
minus-zero e (fin false n d) a v =
    let X = n * up d * down e in
    let Y = 0 * up e * down d in
    let D = down d * down e in
    let none : Y ≡ 0 = ap (λ (z : ℕ). z * down d) (zero-mul (up e)) ∙ zero-mul (down d) in
    let off : Y * one ≡ 0 * D = ap (λ (z : ℕ). z * one) none ∙ zero-mul one ∙ sym (zero-mul D) in
    let same : a - 0 ≡ a + 0 = omega arith in
    taken-off X Y D (omega arith)
    ∙ round_same binary32 false (X - Y) D (a + 0) one (mul-pos (down_pos d) (down_pos e)) one-pos
    (sub-cross X Y a 0 D (left-cross (n * up d) a (down d) (down e) v.1) off ∙ ap (λ (z : ℕ). z * D) same)

pub penalty : (p : Float) → Penalty p → Adds p
penalty nan t = absurd t
penalty (inf s) t = absurd t
penalty (fin true m e) t = record { b = 0; adds = λ x a n. rw t (minus-zero e x a n.val); high = zero-le }
penalty (fin false m e) t =
    let c = counted 1024 (fin false m e) t in
    record { b = c.u; adds = λ x a n. add_is x (fin false m e) a c.u n.val c.num.val; high = c.high }

pub add-penalty : (x p : Float) (a : ℕ) (k : Adds p) (lo hi : ℕ) → Num x a → lo ≤ a + k.b → a + k.b ≤ hi → Rep lo → Rep hi → Ranged (add binary32 x p) lo hi
add-penalty x p a k lo hi n l h rl rh = ranged (add binary32 x p) (a + k.b) lo hi (add-fits binary32 x p) (k.adds x a n) l h rl rh

-- the smaller of two
pub record Smaller (x : Float) (a b : ℕ) : Type 0 where
  pub u : ℕ
  pub num : Num x u
  pub first : u ≤ a
  pub second : u ≤ b
  pub which : (u ≡ a) ⊎ (u ≡ b)

pub smaller-num : (x y : Float) (a b : ℕ) → Num x a → Num y b → Smaller (smaller_of x y) a b
smaller-num x y a b nx ny =
    ⊎_elim
    (λ (h : b < a). let e : lt y x ≡ true = lt-is y x b a ny.val nx.val ∙ lt-ltb b a h in
    record { u = b; num = rw e ny; first = omega arith; second = omega arith; which = inr refl })
    (λ (h : a ≤ b). let e : lt y x ≡ false = lt-is y x b a ny.val nx.val ∙ le-ltb b a h in
    record { u = a; num = rw e nx; first = omega arith; second = omega arith; which = inl refl })
    (lt-or-le b a)

pub smaller-inf : (x : Float) (a : ℕ) → Val x a → smaller_of x (inf false) ≡ x
unfolding lt
smaller-inf nan a v = absurd v
smaller-inf (inf s) a v = absurd v
smaller-inf (fin s m e) a v = refl

pub inf-smaller : (x : Float) (a : ℕ) → Val x a → smaller_of (inf false) x ≡ x
unfolding lt
inf-smaller nan a v = absurd v
inf-smaller (inf s) a v = absurd v
inf-smaller (fin s m e) a v = refl
