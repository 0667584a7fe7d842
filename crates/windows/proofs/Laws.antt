-- The laws of variance and covariance, over any n levels a 0, .., a (n - 1), in any order of the window's pixels.
use Prim.Native.Nat.{ℕ, zero, suc, ◌+◌, ◌*◌, ◌-◌, ◌≤◌, ◌<◌}
use mathlib.Core.Path.{◌≡◌, refl, sym, ap, ap₂, ◌∙◌}
use mathlib.Core.Logic.{⊎_elim}
use native.Mathlib.Nat.{mul-add, add-mul, suc-mul, mul_comm, mul-mul-mul_comm, mul-zero, zero-mul}
use native.Mathlib.Nat.{le_trans, eq-zero-or-pos, mul-pos, eq-or-lt_of_le, le_of_suc-le-suc}
use native.Mathlib.Omega.{arith}
use Rattle.lists.proofs.Tests.{lt-or-le}
use Rattle.lists.specs.Sums.{sum_to}
use Rattle.windows.specs.Moments.{var_of}
use Rattle.lists.proofs.Sums.{sum_to-same, sum_to-scale, sum_to-const, sum_to-member}

-- how far two numbers are apart
abbrev pub dist : ℕ → ℕ → ℕ
dist a b = a - b + (b - a)

dist-sq-up : (a b d : ℕ) → a ≡ b + d → dist a b * dist a b + 2 * (a * b) ≡ a * a + b * b
dist-sq-up a b d e =
    let far : dist (b + d) b ≡ d = omega arith in
    rw (e, far) (simp (mul-add, add-mul) (omega (arith, mul_comm b d)))

-- (a - b)² + 2ab = a² + b²
dist-sq : (a b : ℕ) → dist a b * dist a b + 2 * (a * b) ≡ a * a + b * b
dist-sq a b =
    ⊎_elim
    (λ (l : a < b).
    let same : dist a b ≡ dist b a = omega arith in
    rw same (omega (arith, dist-sq-up b a (b - a) (omega arith), mul_comm a b)))
    (λ (l : b ≤ a). dist-sq-up a b (a - b) (omega arith))
    (lt-or-le a b)

-- the sum of the squared distances of n levels from v
apart : ℕ → (ℕ → ℕ) → ℕ → ℕ
apart n a v = sum_to n (λ i. dist (a i) v * dist (a i) v)

apart-sum : (n : ℕ) (a : ℕ → ℕ) (v : ℕ) → n * (v * v) + sum_to n (λ i. a i * a i) ≡ 2 * (v * sum_to n a) + apart n a v
unfolding sum_to apart
apart-sum zero a v = omega (arith, zero-mul (v * v), mul-zero v)
apart-sum (suc n) a v =
    omega (arith, apart-sum n a v, suc-mul n (v * v), mul-add v (sum_to n a) (a n), dist-sq (a n) v, mul_comm v (a n))

-- the sum of the squared distances of all pairs among n levels
spread : ℕ → (ℕ → ℕ) → ℕ
spread zero a = 0
spread (suc n) a = spread n a + apart n a (a n)

spread-sum : (n : ℕ) (a : ℕ → ℕ) → n * sum_to n (λ i. a i * a i) ≡ sum_to n a * sum_to n a + spread n a
unfolding sum_to spread
spread-sum zero a = refl
spread-sum (suc n) a =
    let s = sum_to n a in
    let q = sum_to n (λ i. a i * a i) in
    let v = a n in
    let square : (s + v) * (s + v) ≡ s * s + 2 * (v * s) + v * v = simp (mul-add, add-mul) (omega (arith, mul_comm s v)) in
    omega (arith, spread-sum n a, apart-sum n a v, suc-mul n (q + v * v), mul-add n q (v * v))

-- n·Saa is at least Sa²: nothing is cut in the variance
pub var-not-cut : (n : ℕ) (a : ℕ → ℕ) → sum_to n a * sum_to n a ≤ n * sum_to n (λ i. a i * a i)
var-not-cut n a = omega (arith, spread-sum n a)

var-spread : (n : ℕ) (a : ℕ → ℕ) → var_of n a ≡ spread n a
var-spread n a = omega (arith, spread-sum n a)

near : (x y : ℕ) → dist x y * dist x y ≤ 0 → x ≡ y
near x y l =
    ⊎_elim
    (λ (e : dist x y ≡ 0). omega arith)
    (λ (p : 0 < dist x y). absurd (omega (arith, mul-pos p p)))
    (eq-zero-or-pos (dist x y))

-- where nothing is spread, every level is the last one
spread-flat : (n : ℕ) (a : ℕ → ℕ) → spread (suc n) a ≡ 0 → (i : ℕ) → i < suc n → a i ≡ a n
unfolding spread apart
spread-flat n a e i l =
    ⊎_elim
    (λ (h : i ≡ n). ap a h)
    (λ (h : i < n). near (a i) (a n) (le_trans (sum_to-member n (λ i. dist (a i) (a n) * dist (a i) (a n)) i h) (omega arith)))
    (eq-or-lt_of_le (le_of_suc-le-suc l))

flat-spread : (n : ℕ) (a : ℕ → ℕ) → ((i j : ℕ) → i < n → j < n → a i ≡ a j) → spread n a ≡ 0
unfolding spread apart
flat-spread zero a flat = refl
flat-spread (suc n) a flat =
    let before : spread n a ≡ 0 = flat-spread n a (λ i j li lj. flat i j (omega arith) (omega arith)) in
    let last : apart n a (a n) ≡ n * 0 =
    sum_to-same n _ _
    (λ i l.
    let none : dist (a i) (a n) ≡ 0 = omega (arith, flat i n (omega arith) (omega arith)) in
    rw none refl)
    ∙ sum_to-const n 0 in
    omega (arith, mul-zero n)

-- the variance is 0 exactly when the window shows one level
pub var-zero-flat : (n : ℕ) (a : ℕ → ℕ) → var_of n a ≡ 0 → (i j : ℕ) → i < n → j < n → a i ≡ a j
var-zero-flat zero a e i j li lj = absurd (omega arith)
var-zero-flat (suc n) a e i j li lj =
    let none : spread (suc n) a ≡ 0 = sym (var-spread (suc n) a) ∙ e in
    spread-flat n a none i li ∙ sym (spread-flat n a none j lj)

pub flat-var-zero : (n : ℕ) (a : ℕ → ℕ) → ((i j : ℕ) → i < n → j < n → a i ≡ a j) → var_of n a ≡ 0
flat-var-zero n a flat = var-spread n a ∙ flat-spread n a flat

dist-affine-up : (m s x y d : ℕ) → x ≡ y + d → dist (m * x + s) (m * y + s) ≡ m * dist x y
dist-affine-up m s x y d e =
    let far : dist (y + d) y ≡ d = omega arith in
    rw (e, far) (omega (arith, mul-add m y d))

dist-affine : (m s x y : ℕ) → dist (m * x + s) (m * y + s) ≡ m * dist x y
dist-affine m s x y =
    ⊎_elim
    (λ (l : x < y).
    let same : dist x y ≡ dist y x = omega arith in
    rw same (omega (arith, dist-affine-up m s y x (y - x) (omega arith))))
    (λ (l : y ≤ x). dist-affine-up m s x y (x - y) (omega arith))
    (lt-or-le x y)

spread-affine : (n m s : ℕ) (a : ℕ → ℕ) → spread n (λ i. m * a i + s) ≡ m * m * spread n a
unfolding spread apart
spread-affine zero m s a = sym (mul-zero (m * m))
spread-affine (suc n) m s a =
    let last : apart n (λ i. m * a i + s) (m * a n + s) ≡ m * m * apart n a (a n) =
    sum_to-same n _ _ (λ i _. rw (dist-affine m s (a i) (a n)) (mul-mul-mul_comm m _ m _)) ∙ sum_to-scale n (m * m) _ in
    omega (arith, spread-affine n m s a, mul-add (m * m) (spread n a) (apart n a (a n)))

-- under v ↦ m·v + s the variance becomes m²·var
pub var-affine : (n m s : ℕ) (a : ℕ → ℕ) → var_of n (λ i. m * a i + s) ≡ m * m * var_of n a
var-affine n m s a = var-spread n (λ i. m * a i + s) ∙ spread-affine n m s a ∙ ap (λ v. m * m * v) (sym (var-spread n a))

-- under v ↦ c - v the variance stays
spread-reflected : (n c : ℕ) (a : ℕ → ℕ) → ((i : ℕ) → i < n → a i ≤ c) → spread n (λ i. c - a i) ≡ spread n a
unfolding spread apart
spread-reflected zero c a h = refl
spread-reflected (suc n) c a h =
    let last : apart n (λ i. c - a i) (c - a n) ≡ apart n a (a n) =
    sum_to-same n _ _
    (λ i l.
    let same : dist (c - a i) (c - a n) ≡ dist (a i) (a n) = omega (arith, h i (omega arith), h n (omega arith)) in
    rw same refl) in
    ap₂ (λ u v. u + v) (spread-reflected n c a (λ i l. h i (omega arith))) last

pub var-reflected : (n c : ℕ) (a : ℕ → ℕ) → ((i : ℕ) → i < n → a i ≤ c) → var_of n (λ i. c - a i) ≡ var_of n a
var-reflected n c a h = var-spread n (λ i. c - a i) ∙ spread-reflected n c a h ∙ sym (var-spread n a)
