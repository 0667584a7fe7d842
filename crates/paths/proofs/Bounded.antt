-- The ranges of the path costs and of their sums, from those of the matching costs and the penalties. Assumes nothing.
use mathlib.Core.Path.{◌≡◌, refl, sym, ◌∙◌}
use mathlib.Core.Bool.{true, false}
use mathlib.Core.List.{List, [], ◌∷◌, ◌++◌}
use mathlib.Core.Logic.{◌⊎◌, ⊎_elim, inl, inr}
use Prim.Native.Nat.{ℕ, zero, suc, ◌+◌, ◌*◌, ◌/◌, ◌^◌, ◌<◌, ◌≤◌, zero-le}
use native.Mathlib.Nat.{le_trans, mul_comm, mul-le-mul_right, add-mul, le_of_suc-le-suc, not-suc-le-zero, suc-mul, div-mul-le_self, lt-div-mul-add, div-le_of_le-mul}
use native.Mathlib.Omega.{arith}
use lib.Dec.{lit<, lit≤}
use lib.IntN.{ℤ, pos}
use lib.ListN.{length, get_or, take, drop, replicate, length-replicate}
use lib.Ieee.{Float, nan, inf, fin, binary32, down, add, fits}
use borrow.Author.Tests.{lt-ltb, le-ltb}
use Rattle.lists.specs.Lists.{list_of}
use Rattle.lists.proofs.Tests.{lt-or-le}
use Rattle.numbers.specs.Plain.{smaller_of}
use Rattle.paths.specs.declared.direction.Walk.{Walk}
use Rattle.std.specs.Prelude.{Option, None, Some}
use Rattle.paths.specs.Bounds.{UpTo, All}
use Rattle.paths.specs.Path.{least_from, least_of, from_below, from_above, best_of, step_cell, step_vec, add_vec}
use Rattle.paths.specs.Walk.{previous_of, path_from, path_cells, walk_along, path_within, path_at, joined, path_volume, pixels_in, cells_in, Direction, directions, add_paths, path_sums, zeros}
use Rattle.paths.proofs.Steps.{length-sum}
use Rattle.paths.proofs.Places.{previous-in}
use Rattle.paths.proofs.Walks.{cells-length, within-length, volume-length}
use Rattle.paths.proofs.Added.{AllDirections, all-directions}
use Rattle.paths.proofs.Counts.{Num, num-rep, counted, num-upto, Ranged, add-range, sub-range, Adds, add-penalty, smaller-num, smaller-inf, inf-smaller}
use Rattle.paths.proofs.Units.{one, half, half_pos, two-halves, rep-halves, rep-ones, Rep, rep-of}

-- ---- the least of four ways

-- a way that may not exist
Way : Float → ℕ → Type 0
Way y lo = (y ≡ inf false) ⊎ Ranged y lo (2051 * one)

-- the better of a way that exists and one that may not, both from lo on
better : (x y : Float) (a lo : ℕ) → Num x a → lo ≤ a → Way y lo → Ranged (smaller_of x y) lo a
unfolding Way
better x y a lo n l w =
    ⊎_elim
    (λ (e : y ≡ inf false). record { u = a; num = rw (e, smaller-inf x a n.val) n; from = l; to = omega arith })
    (λ (r : Ranged y lo (2051 * one)). let s = smaller-num x y a r.u n r.num in
    record { u = s.u; num = s.num; from = ⊎_elim (λ (e : s.u ≡ a). omega arith) (λ (e : s.u ≡ r.u). omega (arith, r.from)) s.which; to = s.first })
    w

-- ---- the least of a list

-- a number from lo units to n
abbrev Elem : ℕ → ℕ → Float → Type 0
Elem lo n x = Ranged x lo (n * one)

record Least (n : ℕ) (m : Float) (a : ℕ) (xs : List Float) : Type 0 where
  u : ℕ
  num : Num (least_from m xs) u
  first : u ≤ a
  others : All (Elem u n) xs

least-from : (n : ℕ) (m : Float) (a : ℕ) (xs : List Float) → Num m a → All (UpTo n) xs → Least n m a xs
least-from n m a [] k t = record { u = a; num = k; first = omega arith; others = tt }
least-from n m a (x ∷ xs) k t =
    let c = counted n x t.0 in
    let s = smaller-num m x a c.u k c.num in
    let r = least-from n (smaller_of m x) s.u xs s.num t.1 in
    record {
      u = r.u;
      num = r.num;
      first = omega (arith, r.first, s.first);
      others = (record { u = c.u; num = c.num; from = omega (arith, r.first, s.second); to = c.high }, r.others);
    }

record LeastOf (n : ℕ) (xs : List Float) : Type 0 where
  u : ℕ
  num : Num (least_of xs) u
  high : u ≤ n * one
  all : All (Elem u n) xs

least-of : (n : ℕ) (xs : List Float) → 0 < length xs → All (UpTo n) xs → LeastOf n xs
unfolding least_of
least-of n [] h t = absurd (not-suc-le-zero h)
least-of n (x ∷ xs) h t =
    let c = counted n x t.0 in
    let r = least-from n x c.u xs c.num t.1 in
    record {
      u = r.u;
      num = rw (inf-smaller x c.u c.num.val) r.num;
      high = omega (arith, r.first, c.high);
      all = (record { u = c.u; num = c.num; from = r.first; to = c.high }, r.others);
    }

pub all-at : (P : Float → Type 0) (xs : List Float) (k : ℕ) (d : Float) → All P xs → k < length xs → P (get_or xs k d)
all-at P [] k d a h = absurd (not-suc-le-zero h)
all-at P (x ∷ xs) zero d a h = a.0
all-at P (x ∷ xs) (suc k) d a h = all-at P xs k d a.1 (le_of_suc-le-suc h)

-- ---- one cell

-- a count that rounding leaves as it is, at most half of one above v
record Ceiling (v : ℕ) : Type 0 where
  hi : ℕ
  rep : Rep hi
  above : v ≤ hi
  near : hi ≤ v + half

ceiling : (v : ℕ) → v ≤ 4096 * one → Ceiling v
ceiling v h =
    let q : v / half ≤ 8192 = div-le_of_le-mul half (rw (mul_comm half 8192) (omega (arith, two-halves))) in
    let lo : v / half * half ≤ v = div-mul-le_self v half in
    let hi : v < v / half * half + half = lt-div-mul-add half_pos in
    let m : suc (v / half) * half ≡ v / half * half + half = suc-mul (v / half) half in
    record { hi = suc (v / half) * half; rep = rep-halves (suc (v / half)) (omega arith); above = omega arith; near = omega arith }

module _ (p1 p2 : Float) (k1 : Adds p1) (k2 : Adds p2) (prev cost : List Float) (same : length prev ≡ length cost) (some : 0 < length prev)
    (before : All (UpTo 1027) prev) (costs : All (UpTo 2) cost) (k : ℕ) (hk : k < length cost) where
  least : LeastOf 1027 prev
  least = least-of 1027 prev some before

  abbrev μ : ℕ
  μ = least.u

  rep-μ : Rep μ
  rep-μ = num-rep (least_of prev) μ least.num

  at-prev : (i : ℕ) → i < length prev → Elem μ 1027 (get_or prev i nan)
  at-prev i h = all-at (Elem μ 1027) prev i nan least.all h

  way : (i : ℕ) → i < length prev → Way (add binary32 (get_or prev i nan) p1) μ
  unfolding Way
  way i h =
      let e = at-prev i h in
      inr (add-penalty (get_or prev i nan) p1 e.u k1 μ (2051 * one) e.num (omega (arith, e.from)) (omega (arith, e.to, k1.high)) rep-μ (rep-ones 2051 (lit< tt)))

  way-below : (i : ℕ) → i < length prev → Way (from_below p1 prev i) μ
  unfolding from_below Way
  way-below zero h = inl refl
  way-below (suc i) h = way i (omega arith)

  way_above : Way (from_above p1 prev k) μ
  unfolding from_above Way
  way_above =
      ⊎_elim (λ (h : k + 1 < length prev). rw (lt-ltb (k + 1) (length prev) h) (way (k + 1) h))
      (λ (h : length prev ≤ k + 1). rw (le-ltb (k + 1) (length prev) h) (inl refl))
      (lt-or-le (k + 1) (length prev))

  jump-top : Ceiling (μ + k2.b)
  jump-top = ceiling (μ + k2.b) (omega (arith, least.high, k2.high))

  jump : Ranged (add binary32 (least_of prev) p2) μ jump-top.hi
  jump = add-penalty (least_of prev) p2 μ k2 μ jump-top.hi least.num (omega arith) jump-top.above rep-μ jump-top.rep

  best : Ranged (best_of (get_or prev k nan) (from_below p1 prev k) (from_above p1 prev k) (add binary32 (least_of prev) p2)) μ (μ + k2.b + half)
  best =
      let e = at-prev k (omega arith) in
      let b1 = better (get_or prev k nan) (from_below p1 prev k) e.u μ e.num e.from (way-below k (omega arith)) in
      let b2 = better (smaller_of (get_or prev k nan) (from_below p1 prev k)) (from_above p1 prev k) b1.u μ b1.num b1.from way_above in
      let j = jump in
      let s = smaller-num (smaller_of (smaller_of (get_or prev k nan) (from_below p1 prev k)) (from_above p1 prev k)) (add binary32 (least_of prev) p2) b2.u j.u b2.num j.num in
      record {
        u = s.u;
        num = s.num;
        from = ⊎_elim (λ (e : s.u ≡ b2.u). omega (arith, b2.from)) (λ (e : s.u ≡ j.u). omega (arith, j.from)) s.which;
        to = omega (arith, s.second, j.to, jump-top.near);
      }

  pub cell-range : UpTo 1027 (step_cell p1 p2 prev cost k)
  unfolding step_cell
  cell-range =
      let c = counted 2 (get_or cost k nan) (all-at (UpTo 2) cost k nan costs hk) in
      let b = best in
      let top = ceiling (c.u + b.u) (omega (arith, c.high, b.to, least.high, k2.high, two-halves)) in
      let t = add-range (get_or cost k nan) (best_of (get_or prev k nan) (from_below p1 prev k) (from_above p1 prev k) (add binary32 (least_of prev) p2)) c.u b.u μ top.hi
      c.num b.num (omega (arith, b.from)) top.above rep-μ top.rep in
      let r = sub-range (add binary32 (get_or cost k nan) (best_of (get_or prev k nan) (from_below p1 prev k) (from_above p1 prev k) (add binary32 (least_of prev) p2))) (least_of prev) t.u μ (1027 * one)
      t.num least.num t.from (omega (arith, t.to, top.near, b.to, c.high, k2.high, two-halves)) (rep-ones 1027 (lit< tt)) in
      num-upto 1027 _ r.u r.num r.to

-- ---- lists of numbers in a range

module _ (P : Float → Type 0) where
  pub all-list_of : (n : ℕ) (f : ℕ → Float) → ((k : ℕ) → k < n → P (f k)) → All P (list_of n f)
  unfolding list_of
  all-list_of zero f h = tt
  all-list_of (suc n) f h = (h 0 (omega arith), all-list_of n (λ k. f (suc k)) (λ k l. h (suc k) (omega arith)))

  all_take : (n : ℕ) (xs : List Float) → All P xs → All P (take n xs)
  all_take zero xs a = tt
  all_take (suc n) [] a = tt
  all_take (suc n) (x ∷ xs) a = (a.0, all_take n xs a.1)

  all_drop : (n : ℕ) (xs : List Float) → All P xs → All P (drop n xs)
  all_drop zero xs a = a
  all_drop (suc n) [] a = tt
  all_drop (suc n) (x ∷ xs) a = all_drop n xs a.1

  all_append : (xs ys : List Float) → All P xs → All P ys → All P (xs ++ ys)
  all_append [] ys a b = b
  all_append (x ∷ xs) ys a b = (a.0, all_append xs ys a.1 b)

  all-joined : (n : ℕ) (f : ℕ → List Float) → ((p : ℕ) → p < n → All P (f p)) → All P (joined n f)
  all-joined zero f h = tt
  all-joined (suc n) f h = all_append (f 0) (joined n (λ p. f (suc p))) (h 0 (omega arith)) (all-joined n (λ p. f (suc p)) (λ p l. h (suc p) (omega arith)))

  all_replicate : (n : ℕ) (x : Float) → P x → All P (replicate n x)
  all_replicate zero x h = tt
  all_replicate (suc n) x h = (h, all_replicate n x h)

upto-more : (n m : ℕ) (x : Float) → n ≤ m → UpTo n x → UpTo m x
upto-more n m nan h t = t
upto-more n m (inf s) h t = t
upto-more n m (fin true a e) h t = t
upto-more n m (fin false a e) h t = (t.0, le_trans t.1 (mul-le-mul_right (down e) h))

all_more : (n m : ℕ) (xs : List Float) → n ≤ m → All (UpTo n) xs → All (UpTo m) xs
all_more n m [] h a = tt
all_more n m (x ∷ xs) h a = (upto-more n m x h a.0, all_more n m xs h a.1)

-- ---- a path

step_range : (p1 p2 : Float) (k1 : Adds p1) (k2 : Adds p2) (prev cost : List Float) → length prev ≡ length cost → 0 < length prev
    → All (UpTo 1027) prev → All (UpTo 2) cost → All (UpTo 1027) (step_vec p1 p2 prev cost)
unfolding step_vec
step_range p1 p2 k1 k2 prev cost e s a b = all-list_of (UpTo 1027) (length cost) (step_cell p1 p2 prev cost) (λ k h. cell-range p1 p2 k1 k2 prev cost e s a b k h)

module _ (k : Walk) (c : List Float) (dir : Direction k.dx k.dy) (k1 : Adds k.p1) (k2 : Adds k.p2) (some : 0 < k.count)
    (size : length c ≡ cells_in k) (costs : All (UpTo 2) c) where
  cells-range : (p : ℕ) → All (UpTo 2) (path_cells k.count c p)
  cells-range p = all_take (UpTo 2) k.count (drop (p * k.count) c) (all_drop (UpTo 2) (p * k.count) c costs)

  from-range : (f : ℕ → List Float) (p : ℕ) → p < pixels_in k → (a : Option ℕ) → ((q : ℕ) → a ≡ Some q → (length (f q) ≡ k.count) × All (UpTo 1027) (f q))
      → All (UpTo 1027) (path_from k f (path_cells k.count c p) a)
  from-range f p hp (Some q) h =
      let b = h q refl in
      step_range k.p1 k.p2 k1 k2 (f q) (path_cells k.count c p) (b.0 ∙ sym (cells-length k c size p hp)) (omega (arith, b.0)) b.1 (cells-range p)
  from-range f p hp None h = all_more 2 1027 (path_cells k.count c p) (lit≤ tt) (cells-range p)

  within-range : (n p : ℕ) → p < pixels_in k → All (UpTo 1027) (path_within k c n p)
  unfolding path_within
  within-range zero p hp = all_more 2 1027 (path_cells k.count c p) (lit≤ tt) (cells-range p)
  within-range (suc n) p hp =
      from-range (path_within k c n) p hp (previous_of k p)
      (λ q e. let hq = previous-in k dir p hp q e in (within-length k c size n q hq, within-range n q hq))

  pub path-range : (p : ℕ) → p < pixels_in k → All (UpTo 1027) (path_at k c p)
  unfolding path_at
  path-range p hp = within-range (pixels_in k) p hp

  -- each path cost lies from 0 to 1027
  pub volume-range : All (UpTo 1027) (path_volume k c)
  unfolding path_volume
  volume-range = all-joined (UpTo 1027) (pixels_in k) (path_at k c) path-range

-- ---- the sums

add-upto : (a b : ℕ) (x y : Float) → a + b < 2 ^ 24 → UpTo a x → UpTo b y → UpTo (a + b) (add binary32 x y)
add-upto a b x y h s t =
    let u = counted a x s in
    let v = counted b y t in
    let m : (a + b) * one ≡ a * one + b * one = add-mul a b one in
    let r = add-range x y u.u v.u 0 ((a + b) * one) u.num v.num zero-le (omega (arith, u.high, v.high)) (rep-of 0 0 (lit< tt) (lit< tt)) (rep-ones (a + b) h) in
    num-upto (a + b) (add binary32 x y) r.u r.num r.to

all-sum : (a b : ℕ) (s l : List Float) → a + b < 2 ^ 24 → length s ≡ length l → All (UpTo a) s → All (UpTo b) l → All (UpTo (a + b)) (add_vec s l)
unfolding add_vec
all-sum a b s l h e p q =
    all-list_of (UpTo (a + b)) (length s) (λ k. add binary32 (get_or s k nan) (get_or l k nan))
    (λ k hk. add-upto a b (get_or s k nan) (get_or l k nan) h (all-at (UpTo a) s k nan p hk) (all-at (UpTo b) l k nan q (omega arith)))

zero_is : UpTo 0 (fin false 0 (pos 0))
unfolding fits
zero_is = (tt, lit≤ tt)

module _ (w h count : ℕ) (p1 p2 : Float) (c : List Float) (k1 : Adds p1) (k2 : Adds p2) (some : 0 < count) (size : length c ≡ w * h * count) (costs : All (UpTo 2) c) where
  paths-range : (ds : List (List ℤ)) → AllDirections ds → (a : ℕ) (s : List Float) → a + 1027 * length ds < 2 ^ 24 → length s ≡ w * h * count → All (UpTo a) s
      → All (UpTo (a + 1027 * length ds)) (add_paths (walk_along w h count p1 p2) c s ds)
  unfolding add_paths
  paths-range [] dirs a s l e r = all_more a (a + 1027 * 0) s (omega arith) r
  paths-range (d ∷ ds) dirs a s l e r =
      let k = walk_along w h count p1 p2 d in
      let v = path_volume k c in
      let lv : length v ≡ w * h * count = volume-length k c size in
      let rest = paths-range ds dirs.1 (a + 1027) (add_vec s v) (omega arith) (length-sum s v ∙ e)
      (all-sum a 1027 s v (omega arith) (e ∙ sym lv) r (volume-range k c dirs.0 k1 k2 some size costs)) in
      all_more (a + 1027 + 1027 * length ds) (a + 1027 * suc (length ds)) (add_paths (walk_along w h count p1 p2) c (add_vec s v) ds) (omega arith) rest

  -- each sum of the eight path costs lies from 0 to 8216
  pub sums-range : All (UpTo 8216) (path_sums w h count p1 p2 c)
  unfolding path_sums
  sums-range =
      paths-range directions all-directions 0 (zeros (w * h * count)) (lit< tt) (length-replicate (w * h * count) (fin false 0 (pos 0)))
      (all_replicate (UpTo 0) (w * h * count) (fin false 0 (pos 0)) zero_is)
