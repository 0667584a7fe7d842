-- The bit patterns of the binary32 numbers from 0 on stand in the order of the numbers, so that the least of a run is found among the patterns. Assumes nothing.
use mathlib.Core.Path.{◌≡◌, refl, sym, ap, ◌∙◌, subst}
use mathlib.Core.Bool.{Bool, true, false, not, cond, true≢false}
use mathlib.Core.List.{List}
use mathlib.Core.Logic.{◌⊎◌, ⊎_elim, inl, inr}
use Prim.Native.Nat.{ℕ, ◌+◌, ◌-◌, ◌*◌, ◌/◌, ◌^◌, ◌<◌, ◌≤◌}
use native.Mathlib.Nat.{le_trans, le_of_eq, lt_of_le_of_lt, mul-le-mul_right, suc-mul, zero-add, mul-div_cancel, eq_of_mul-eq-mul_right, le-div_iff_mul-le}
use native.Mathlib.Omega.{arith}
use borrow.Author.Tests.{lt-ltb, le-ltb}
use lib.Dec.{T, ltb, lit≤}
use lib.Pow.{pow_pos, pow-add}
use Rattle.std.proofs.Common.{min}
use lib.ListN.{length, get_or, drop}
use lib.Ieee.{Float, nan, inf, fin, binary32, down, size, lt, fits, is_nan, to_bits, of_bits, nan_bits}
use lib.Ieee.Bits.{of_bits-to_bits}
use lib.Ieee.Digits.{size-lt, size-le, size_reaches}
use lib.Ieee.Fits.{down_pos, inf-fits, kept-lt}
use lib.Ieee.Nearest.{div_mono}
use Rattle.lists.proofs.Tests.{lt-or-le}
use Rattle.numbers.specs.Plain.{smaller_of}
use Rattle.numbers.proofs.Patterns.{no-nan-bits}
use Rattle.paths.specs.Bounds.{UpTo, All}
use Rattle.paths.specs.Path.{least_from, least_of}
use Rattle.paths.proofs.Units.{one, lt-is}
use Rattle.paths.proofs.Counts.{Num, counted}
use Rattle.paths.proofs.Bounded.{all-at}
use Rattle.paths.proofs.Steps.{least-turn, least-done}

-- ---- the pattern of so many units

-- the digits that are dropped, counted in the exponent's field, and the digits kept
abbrev dropped : ℕ → ℕ
dropped n = size n - 24

abbrev pattern_of : ℕ → ℕ
pattern_of n = dropped n * 2 ^ 23 + n / 2 ^ dropped n

size-grows : (a b : ℕ) → a ≤ b → size a ≤ size b
size-grows a b h = size-le a (size b) (lt_of_le_of_lt h (size-lt b))

-- where digits are dropped, the leading one is kept
leading : (n : ℕ) → 0 < dropped n → 2 ^ 23 ≤ n / 2 ^ dropped n
leading n h =
    let last : size n - 1 < size n = omega arith in
    let whole : 23 + dropped n ≡ size n - 1 = omega arith in
    (le-div_iff_mul-le (pow_pos (dropped n))).1 (le_trans (le_of_eq (sym (pow-add 2 23 (dropped n)) ∙ ap (λ (z : ℕ). 2 ^ z) whole)) (size_reaches n (size n - 1) last))

-- one more digit dropped is more than all digits kept
further : (a b x y : ℕ) → a < b → x < 2 ^ 24 → 2 ^ 23 ≤ y → a * 2 ^ 23 + x ≤ b * 2 ^ 23 + y
further a b x y h hx hy = omega (arith, mul-le-mul_right (2 ^ 23) h, suc-mul a (2 ^ 23))

pattern-grows : (a b : ℕ) → a ≤ b → pattern_of a ≤ pattern_of b
pattern-grows a b h =
    ⊎_elim
    (λ (l : dropped a < dropped b). further (dropped a) (dropped b) (a / 2 ^ dropped a) (b / 2 ^ dropped b) l (kept-lt 24 a) (leading b (omega arith)))
    (λ (l : dropped b ≤ dropped a). let same : dropped a ≡ dropped b = omega (arith, size-grows a b h) in
    subst (λ (k : ℕ). k * 2 ^ 23 + a / 2 ^ k ≤ pattern_of b) (sym same) (omega (arith, div_mono a (2 ^ dropped b) b (2 ^ dropped b) (pow_pos (dropped b)) (pow_pos (dropped b)) (mul-le-mul_right (2 ^ dropped b) h))))
    (lt-or-le (dropped a) (dropped b))

bits_are : (x : Float) (u : ℕ) → Num x u → to_bits binary32 x ≡ pattern_of u
unfolding to_bits one
bits_are nan u n = absurd n.val
bits_are (inf s) u n = absurd n.val
bits_are (fin true m e) u n = absurd (true≢false n.val.0)
bits_are (fin false m e) u n =
    ap (λ (z : ℕ). 0 + dropped z * 2 ^ 23 + z / 2 ^ dropped z) (ap (λ (z : ℕ). z / down e) n.val.1 ∙ mul-div_cancel u (down_pos e))
    ∙ ap (λ (z : ℕ). z + u / 2 ^ dropped u) (zero-add (dropped u * 2 ^ 23))

-- ---- the order

-- a number is so many units and no other
one-count : (x : Float) (a b : ℕ) → Num x a → Num x b → a ≡ b
one-count nan a b n k = absurd n.val
one-count (inf s) a b n k = absurd n.val
one-count (fin s m e) a b n k = eq_of_mul-eq-mul_right (down e) (down_pos e) a b (sym n.val.1 ∙ k.val.1)

-- equal patterns are equal numbers
same_count : (x y : Float) (a b : ℕ) → Num x a → Num y b → pattern_of a ≡ pattern_of b → a ≡ b
same_count x y a b n k e =
    let same : x ≡ y = sym (of_bits-to_bits binary32 x n.fit) ∙ ap (of_bits binary32) (bits_are x a n ∙ e ∙ sym (bits_are y b k)) ∙ of_bits-to_bits binary32 y k.fit in
    one-count x a b n (subst (λ (z : Float). Num z b) (sym same) k)

bits-order : (x y : Float) (a b : ℕ) → Num x a → Num y b → ltb (to_bits binary32 x) (to_bits binary32 y) ≡ lt x y
bits-order x y a b n k =
    rw (bits_are x a n, bits_are y b k, lt-is x y a b n.val k.val)
    (⊎_elim
    (λ (h : a < b). lt-ltb (pattern_of a) (pattern_of b)
    (⊎_elim (λ (l : pattern_of a < pattern_of b). l)
    (λ (l : pattern_of b ≤ pattern_of a). let same = same_count x y a b n k (omega (arith, pattern-grows a b (omega arith))) in absurd (omega arith))
    (lt-or-le (pattern_of a) (pattern_of b)))
    ∙ sym (lt-ltb a b h))
    (λ (h : b ≤ a). le-ltb (pattern_of a) (pattern_of b) (pattern-grows b a h) ∙ sym (le-ltb a b h))
    (lt-or-le a b))

-- ---- the least of the patterns of a run

-- what was found so far: plus infinity, or a path cost
abbrev Found : Float → Type 0
Found x = (x ≡ inf false) ⊎ UpTo 1027 x

pub upto-number : (n : ℕ) (x : Float) → UpTo n x → T (not (is_nan x))
unfolding is_nan
upto-number n nan t = absurd t
upto-number n (inf s) t = tt
upto-number n (fin s m e) t = tt

found_number : (x : Float) → Found x → T (not (is_nan x))
unfolding is_nan
found_number x f = ⊎_elim (λ (e : x ≡ inf false). subst (λ (z : Float). T (not (is_nan z))) (sym e) tt) (upto-number 1027 x) f

upto-fits : (n : ℕ) (x : Float) → UpTo n x → T (fits binary32 x)
upto-fits n nan t = absurd t
upto-fits n (inf s) t = absurd t
upto-fits n (fin true m e) t = absurd t
upto-fits n (fin false m e) t = t.0

found-fits : (x : Float) → Found x → T (fits binary32 x)
found-fits x f = ⊎_elim (λ (e : x ≡ inf false). subst (λ (z : Float). T (fits binary32 z)) (sym e) (inf-fits binary32 false)) (upto-fits 1027 x) f

-- no path cost is above plus infinity, and neither is its pattern
below_top : (y : Float) → UpTo 1027 y → to_bits binary32 y < to_bits binary32 (inf false)
unfolding to_bits size one
below_top y t =
    let c = counted 1027 y t in
    let most : pattern_of (1027 * one) ≤ 2139095039 = lit≤ tt in
    rw (bits_are y c.u c.num) (omega (arith, pattern-grows c.u (1027 * one) c.high))

below_inf : (y : Float) → UpTo 1027 y → lt y (inf false) ≡ true
unfolding lt
below_inf nan t = absurd t
below_inf (inf s) t = absurd t
below_inf (fin s m e) t = refl

found-order : (x y : Float) → Found x → UpTo 1027 y → ltb (to_bits binary32 y) (to_bits binary32 x) ≡ lt y x
found-order x y f t =
    ⊎_elim
    (λ (e : x ≡ inf false). rw e (lt-ltb (to_bits binary32 y) (to_bits binary32 (inf false)) (below_top y t) ∙ sym (below_inf y t)))
    (λ (s : UpTo 1027 x). let a = counted 1027 x s in let b = counted 1027 y t in bits-order y x b.u a.u b.num a.num)
    f

least-bits : (a b : ℕ) → min a b ≡ cond (ltb b a) b a
least-bits a b = ⊎_elim (λ (h : b < a). rw (lt-ltb b a h) (omega arith)) (λ (h : a ≤ b). rw (le-ltb b a h) (omega arith)) (lt-or-le b a)

-- after k turns the pattern is that of a number, and the least of it and of the rest is that of all
pub record Lowest (bits k : ℕ) (cells : List Float) : Type 0 where
  pub x : Float
  pub is : bits ≡ to_bits binary32 x
  pub found : Found x
  pub rest : least_from x (drop k cells) ≡ least_of cells

pub lowest-none : (cells : List Float) → Lowest 2139095040 0 cells
unfolding to_bits least_of
lowest-none cells = record { x = inf false; is = refl; found = inl refl; rest = refl }

pub lowest-turn : (cells : List Float) (k bits : ℕ) → All (UpTo 1027) cells → k < length cells → Lowest bits k cells → Lowest (min bits (to_bits binary32 (get_or cells k nan))) (k + 1) cells
lowest-turn cells k bits all h l =
    let y = get_or cells k nan in
    let t = all-at (UpTo 1027) cells k nan all h in
    let test : ltb (to_bits binary32 y) bits ≡ lt y l.x = ap (ltb (to_bits binary32 y)) l.is ∙ found-order l.x y l.found t in
    record {
      x = smaller_of l.x y;
      is = least-bits bits (to_bits binary32 y) ∙ ap (λ (b : Bool). cond b (to_bits binary32 y) bits) test ∙ ap (cond (lt y l.x) (to_bits binary32 y)) l.is ∙ taken (lt y l.x) y l.x;
      found = either (lt y l.x) y l.x (inr t) l.found;
      rest = least-turn cells k l.x (smaller_of l.x y) h refl ∙ l.rest;
    }
  where
    taken : (b : Bool) (y x : Float) → cond b (to_bits binary32 y) (to_bits binary32 x) ≡ to_bits binary32 (cond b y x)
    taken true y x = refl
    taken false y x = refl

    either : (b : Bool) (y x : Float) → Found y → Found x → Found (cond b y x)
    either true y x f g = f
    either false y x f g = g

pub lowest-number : (bits k : ℕ) (cells : List Float) → Lowest bits k cells → T (not (nan_bits binary32 bits))
lowest-number bits k cells l = no-nan-bits binary32 bits l.x (ap (of_bits binary32) l.is ∙ of_bits-to_bits binary32 l.x (found-fits l.x l.found)) (found_number l.x l.found)

pub lowest-done : (bits k : ℕ) (cells : List Float) → length cells ≤ k → Lowest bits k cells → of_bits binary32 bits ≡ least_of cells
lowest-done bits k cells h l =
    ap (of_bits binary32) l.is ∙ of_bits-to_bits binary32 l.x (found-fits l.x l.found) ∙ sym (least-done cells k l.x h) ∙ l.rest
