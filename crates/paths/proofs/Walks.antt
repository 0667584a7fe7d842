-- Paths over a picture, and the visit of all its pixels. Assumes nothing.
use Prim.Native.Nat.{ℕ, zero, suc, ◌+◌, ◌-◌, ◌*◌, ◌<◌, ◌≤◌}
use mathlib.Core.Path.{◌≡◌, refl, sym, ap, ◌∙◌}
use mathlib.Core.Bool.{cond}
use mathlib.Core.List.{List, [], ◌∷◌, ◌++◌}
use mathlib.Core.Logic.{◌⊎◌, ⊎_elim, inl, inr}
use native.Mathlib.Nat.{suc-mul, zero-mul, le_refl, not-suc-le-zero}
use native.Mathlib.Omega.{arith}
use lib.ListN.{length, get_or, take, drop, length-append, length-drop, take-append-drop}
use lib.Seq.{drop-drop, ext_get_or, take_at, drop_at}
use lib.Ieee.{Float, nan, binary32, add}
use Rattle.lists.proofs.Rows.{row_in}
use Rattle.lists.proofs.Tests.{lt-or-le}
use Rattle.paths.specs.declared.direction.Walk.{Walk}
use Rattle.std.specs.Prelude.{Option, None, Some}
use Rattle.paths.specs.Path.{step_vec, add_vec}
use Rattle.paths.specs.Room.{run, put}
use Rattle.paths.specs.Walk.{previous_of, path_from, path_cells, slot_of, slot_path, path_within, path_at, joined, path_volume, pixels_in, cells_in, is_forward, Direction}
use Rattle.paths.proofs.Parts.{length_run, get_d-run, run-put, run_out, length-put}
use Rattle.paths.proofs.Steps.{length-step, length-sum, get_d-sum}
use Rattle.paths.proofs.Places.{rank, previous-in, previous-earlier, previous-near, turn_in, rank-turn, rank-one, rank_below}
use Rattle.paths.proofs.Slots.{slot-in, slot-later}

-- ---- the steps that count are enough

module _ (k : Walk) (f g : ℕ → List Float) (cost : List Float) where
  from-same : (a : Option ℕ) → ((q : ℕ) → a ≡ Some q → f q ≡ g q) → path_from k f cost a ≡ path_from k g cost a
  from-same (Some q) e = ap (λ (r : List Float). step_vec k.p1 k.p2 r cost) (e q refl)
  from-same None e = refl

  from_start : (a : Option ℕ) → ((q : ℕ) → a ≡ Some q → ⊥) → path_from k f cost a ≡ cost
  from_start (Some q) e = absurd (e q refl)
  from_start None e = refl

length_from : (k : Walk) (f : ℕ → List Float) (cost : List Float) (a : Option ℕ) → length (path_from k f cost a) ≡ length cost
length_from k f cost (Some q) = length-step k.p1 k.p2 (f q) cost
length_from k f cost None = refl

module _ (k : Walk) (c : List Float) (dir : Direction k.dx k.dy) where
  settled : (n p : ℕ) → p < pixels_in k → rank k p ≤ n → path_within k c (suc n) p ≡ path_within k c n p
  unfolding path_within
  settled zero p hp r =
      from_start k (path_within k c zero) (path_within k c zero) (path_cells k.count c p) (previous_of k p) (λ q e. let o = previous-earlier k dir p hp q e in omega arith)
  settled (suc n) p hp r =
      from-same k (path_within k c (suc n)) (path_within k c n) (path_cells k.count c p) (previous_of k p)
      (λ q e. settled n q (previous-in k dir p hp q e) (let o = previous-earlier k dir p hp q e in omega arith))

  -- L at a pixel follows from L at the previous one
  pub path-unfolds : (p : ℕ) → p < pixels_in k → path_at k c p ≡ path_from k (path_at k c) (path_cells k.count c p) (previous_of k p)
  unfolding path_at path_within
  path-unfolds p hp = sym (settled (pixels_in k) p hp (omega (arith, rank_below (is_forward k.dx k.dy) (pixels_in k) p hp)))

  -- THEOREM: at a path start L is the cost c
  pub path-start : (p : ℕ) → p < pixels_in k → previous_of k p ≡ None → path_at k c p ≡ path_cells k.count c p
  path-start p hp e = path-unfolds p hp ∙ ap (path_from k (path_at k c) (path_cells k.count c p)) e

  -- THEOREM: else it is a step from L at the previous pixel
  pub path-step : (p q : ℕ) → p < pixels_in k → previous_of k p ≡ Some q → path_at k c p ≡ step_vec k.p1 k.p2 (path_at k c q) (path_cells k.count c p)
  path-step p q hp e = path-unfolds p hp ∙ ap (path_from k (path_at k c) (path_cells k.count c p)) e

-- ---- volumes, pixel by pixel

-- the run of pixel p lies in a volume of n pixels of m cells
pub cells-end : (n m p : ℕ) → p < n → p * m + m ≤ n * m
cells-end n m p h = row_in p n m (n * m) h (le_refl (n * m))

-- the runs of two pixels have no cell in common
pub cells-apart : (m p q : ℕ) → (q ≡ p → ⊥) → (q * m + m ≤ p * m) ⊎ (p * m + m ≤ q * m)
cells-apart m p q n =
    ⊎_elim (λ (l : q < p). inl (cells-end p m q l))
    (λ (l : p ≤ q). ⊎_elim (λ (a : p < q). inr (cells-end q m p a)) (λ (b : q ≤ p). absurd (n (omega arith))) (lt-or-le p q))
    (lt-or-le q p)

cells-later : (m : ℕ) (v : List Float) (p : ℕ) → path_cells m (drop m v) p ≡ path_cells m v (suc p)
cells-later m v p =
    let e : m + p * m ≡ suc p * m = omega (arith, suc-mul p m) in
    ap (take m) (drop-drop (p * m) m v ∙ ap (λ (i : ℕ). drop i v) e)

from-cells : (n m : ℕ) (v : List Float) (f : ℕ → List Float) → length v ≡ n * m → ((p : ℕ) → p < n → path_cells m v p ≡ f p) → v ≡ joined n f
from-cells zero m [] f h e = refl
from-cells zero m (x ∷ v) f h e = absurd (let z : suc (length v) ≡ 0 = rw zero-mul at h in omega arith)
from-cells (suc n) m v f h e =
    let first : take m v ≡ f 0 = rw zero-mul at (e 0 (omega arith)) in
    let rest : drop m v ≡ joined n (λ p. f (suc p)) =
    from-cells n m (drop m v) (λ p. f (suc p)) (omega (arith, length-drop m v, suc-mul n m)) (λ p l. cells-later m v p ∙ e (suc p) (omega arith)) in
    sym (take-append-drop m v) ∙ ap (λ (a : List Float). a ++ drop m v) first ∙ ap (λ (b : List Float). f 0 ++ b) rest

same-cells : (n m : ℕ) (u v : List Float) → length u ≡ n * m → length v ≡ n * m → ((p : ℕ) → p < n → path_cells m u p ≡ path_cells m v p) → u ≡ v
same-cells n m u v hu hv e = from-cells n m u (path_cells m v) hu e ∙ sym (from-cells n m v (path_cells m v) hv (λ p l. refl))

-- a run of sums is the sum of the runs
run-sum : (n at : ℕ) (a b : List Float) → at + n ≤ length a → at + n ≤ length b → run n at (add_vec a b) ≡ add_vec (run n at a) (run n at b)
run-sum n at a b ha hb =
    let la : length (run n at a) ≡ n = length_run n at a ha in
    let l₁ : length (run n at (add_vec a b)) ≡ n = length_run n at (add_vec a b) (omega (arith, length-sum a b)) in
    let l₂ : length (add_vec (run n at a) (run n at b)) ≡ n = length-sum (run n at a) (run n at b) ∙ la in
    ext_get_or nan (run n at (add_vec a b)) (add_vec (run n at a) (run n at b)) (l₁ ∙ sym l₂)
    (λ i h. let hi : i < n = omega arith in
    get_d-run n at (add_vec a b) i nan hi
    ∙ get_d-sum a b (at + i) (omega arith)
    ∙ sym (get_d-sum (run n at a) (run n at b) i (omega arith)
    ∙ ap (λ (x : Float). add binary32 x (get_or (run n at b) i nan)) (get_d-run n at a i nan hi)
    ∙ ap (add binary32 (get_or a (at + i) nan)) (get_d-run n at b i nan hi)))

-- a pixel's run after it was replaced, and another's
module _ (n m : ℕ) (v : List Float) (p : ℕ) (r : List Float) (hp : p < n) (hv : length v ≡ n * m) (hr : length r ≡ m) where
  there : p * m + length r ≤ length v
  there = omega (arith, cells-end n m p hp)

  put-length : length (put v (p * m) r) ≡ n * m
  put-length = length-put v (p * m) r there ∙ hv

  put-cells : path_cells m (put v (p * m) r) p ≡ r
  put-cells = run-put v (p * m) r there m (sym hr)

  put-others : (q : ℕ) → q < n → (q ≡ p → ⊥) → path_cells m (put v (p * m) r) q ≡ path_cells m v q
  put-others q hq ne = run_out v (p * m) r there m (q * m) (omega (arith, cells-end n m q hq)) (rw hr (cells-apart m p q ne))

-- ---- how long a path's costs are

length-joined : (n m : ℕ) (f : ℕ → List Float) → ((p : ℕ) → p < n → length (f p) ≡ m) → length (joined n f) ≡ n * m
length-joined zero m f h = sym (zero-mul m)
length-joined (suc n) m f h =
    let r : length (joined n (λ p. f (suc p))) ≡ n * m = length-joined n m (λ p. f (suc p)) (λ p l. h (suc p) (omega arith)) in
    let e : length (f 0) ≡ m = h 0 (omega arith) in
    omega (arith, length-append (f 0) (joined n (λ p. f (suc p))), suc-mul n m)

-- the cells of one of them
cells-joined : (n m : ℕ) (f : ℕ → List Float) → ((p : ℕ) → p < n → length (f p) ≡ m) → (p : ℕ) → p < n → path_cells m (joined n f) p ≡ f p
cells-joined zero m f h p l = absurd (not-suc-le-zero l)
cells-joined (suc n) m f h zero l = rw zero-mul (take_at (f 0) (joined n (λ q. f (suc q))) m (h 0 l))
cells-joined (suc n) m f h (suc p) l =
    let rest : List Float = joined n (λ q. f (suc q)) in
    sym (cells-later m (f 0 ++ rest) p)
    ∙ ap (λ (z : List Float). path_cells m z p) (drop_at (f 0) rest m (h 0 (omega arith)))
    ∙ cells-joined n m (λ q. f (suc q)) (λ q hq. h (suc q) (omega arith)) p (omega arith)

module _ (k : Walk) (c : List Float) (size : length c ≡ cells_in k) where
  pub cells-length : (p : ℕ) → p < pixels_in k → length (path_cells k.count c p) ≡ k.count
  cells-length p hp = length_run k.count (p * k.count) c (omega (arith, cells-end (pixels_in k) k.count p hp))

  pub slot-length : (l : List Float) (p : ℕ) → p < pixels_in k → length (slot_path k l c p) ≡ k.count
  slot-length l p hp = length_from k (λ q. path_cells k.count l (slot_of k.w q)) (path_cells k.count c p) (previous_of k p) ∙ cells-length p hp

  pub within-length : (n p : ℕ) → p < pixels_in k → length (path_within k c n p) ≡ k.count
  unfolding path_within
  within-length zero p hp = cells-length p hp
  within-length (suc n) p hp = length_from k (path_within k c n) (path_cells k.count c p) (previous_of k p) ∙ cells-length p hp

  pub volume-length : length (path_volume k c) ≡ cells_in k
  unfolding path_volume path_at
  volume-length = length-joined (pixels_in k) k.count (path_at k c) (λ p hp. within-length (pixels_in k) p hp)

  volume-cells : (p : ℕ) → p < pixels_in k → path_cells k.count (path_volume k c) p ≡ path_at k c p
  unfolding path_volume path_at
  volume-cells p hp = cells-joined (pixels_in k) k.count (path_at k c) (λ q hq. within-length (pixels_in k) q hq) p hp

-- ---- the visit of a whole picture

-- after t turns: the pixels of the last two rows' turns have their path costs in their slots, the pixels of a rank below t have theirs in their sums, and the
-- sums of the others are as they were
pub record Visited (k : Walk) (c s₀ l s : List Float) (t : ℕ) : Type 0 where
  pub l-length : length l ≡ cells_in k
  pub s-length : length s ≡ cells_in k
  pub kept : (p : ℕ) → p < pixels_in k → rank k p < t → t ≤ rank k p + 2 * k.w → path_cells k.count l (slot_of k.w p) ≡ path_at k c p
  pub summed : (p : ℕ) → p < pixels_in k → rank k p < t → path_cells k.count s p ≡ add_vec (path_cells k.count s₀ p) (path_at k c p)
  pub waiting : (p : ℕ) → p < pixels_in k → t ≤ rank k p → path_cells k.count s p ≡ path_cells k.count s₀ p

-- one turn
module _ {k : Walk} {c s₀ l s : List Float} {t : ℕ} (dir : Direction k.dx k.dy) (hc : length c ≡ cells_in k) (v : Visited k c s₀ l s t) (ht : t < pixels_in k)
    (p : ℕ) (ep : p ≡ cond (is_forward k.dx k.dy) t (pixels_in k - 1 - t)) where
  abbrev all : ℕ
  all = pixels_in k

  abbrev m : ℕ
  m = k.count

  abbrev slot : ℕ
  slot = slot_of k.w p

  abbrev vec : List Float
  vec = slot_path k l c p

  abbrev total : List Float
  total = add_vec (path_cells m s p) vec

  hp : p < all
  hp = rw ep (turn_in (is_forward k.dx k.dy) all t ht)

  slot-here : slot < all
  slot-here = slot-in k.w k.h p hp

  rank-p : rank k p ≡ t
  rank-p = ap (rank k) ep ∙ rank-turn (is_forward k.dx k.dy) all t ht

  vec-length : length vec ≡ m
  vec-length = slot-length k c hc l p hp

  vec-is : vec ≡ path_at k c p
  vec-is =
      from-same k (λ q. path_cells m l (slot_of k.w q)) (path_at k c) (path_cells m c p) (previous_of k p)
      (λ q e. v.kept q (previous-in k dir p hp q e) (omega (arith, previous-earlier k dir p hp q e, rank-p)) (omega (arith, previous-near k dir p hp q e, rank-p)))
      ∙ sym (path-unfolds k c dir p hp)

  total-length : length total ≡ m
  total-length = length-sum (path_cells m s p) vec ∙ cells-length k s v.s-length p hp

  abbrev l' : List Float
  l' = put l (slot * m) vec

  abbrev s' : List Float
  s' = put s (p * m) total

  at_turn : (q : ℕ) → q < all → rank k q < t + 1 → t ≤ rank k q → q ≡ p
  at_turn q hq r r' = rank-one (is_forward k.dx k.dy) all q p hq hp (omega (arith, rank-p))

  -- a slot that is taken again is that of a pixel two rows before
  l-there : (q : ℕ) → q < all → rank k q < t → t + 1 ≤ rank k q + 2 * k.w → path_cells m l' (slot_of k.w q) ≡ path_cells m l (slot_of k.w q)
  l-there q hq r near =
      put-others all m l slot vec slot-here v.l-length vec-length (slot_of k.w q) (slot-in k.w k.h q hq)
      (λ e. omega (arith, rank-p, slot-later k q p hq hp e (omega (arith, rank-p))))

  s-there : (q : ℕ) → q < all → (rank k q ≡ t → ⊥) → path_cells m s' q ≡ path_cells m s q
  s-there q hq n = put-others all m s p total hp v.s-length total-length q hq (λ e. n (ap (rank k) e ∙ rank-p))

  next-kept : (q : ℕ) → q < all → rank k q < t + 1 → t + 1 ≤ rank k q + 2 * k.w → path_cells m l' (slot_of k.w q) ≡ path_at k c q
  next-kept q hq r near =
      ⊎_elim (λ (b : rank k q < t). l-there q hq b near ∙ v.kept q hq b (omega arith))
      (λ (b : t ≤ rank k q). rw (at_turn q hq r b) (put-cells all m l slot vec slot-here v.l-length vec-length ∙ vec-is))
      (lt-or-le (rank k q) t)

  next-summed : (q : ℕ) → q < all → rank k q < t + 1 → path_cells m s' q ≡ add_vec (path_cells m s₀ q) (path_at k c q)
  next-summed q hq r =
      ⊎_elim (λ (b : rank k q < t). s-there q hq (λ e. omega arith) ∙ v.summed q hq b)
      (λ (b : t ≤ rank k q). rw (at_turn q hq r b)
      (put-cells all m s p total hp v.s-length total-length
      ∙ ap (λ (u : List Float). add_vec u vec) (v.waiting p hp (omega (arith, rank-p))) ∙ ap (add_vec (path_cells m s₀ p)) vec-is))
      (lt-or-le (rank k q) t)

  pub visited-more : Visited k c s₀ (put l (slot_of k.w p * k.count) (slot_path k l c p)) (put s (p * k.count) (add_vec (path_cells k.count s p) (slot_path k l c p))) (t + 1)
  visited-more =
      record {
        l-length = put-length all m l slot vec slot-here v.l-length vec-length;
        s-length = put-length all m s p total hp v.s-length total-length;
        kept = next-kept;
        summed = next-summed;
        waiting = λ q hq r. s-there q hq (λ e. omega arith) ∙ v.waiting q hq (omega arith);
      }

-- after the last turn
module _ {k : Walk} {c s₀ l s : List Float} (hc : length c ≡ cells_in k) (hs : length s₀ ≡ cells_in k) (v : Visited k c s₀ l s (pixels_in k)) where
  pub all-summed : s ≡ add_vec s₀ (path_volume k c)
  all-summed =
      same-cells (pixels_in k) k.count s (add_vec s₀ (path_volume k c)) v.s-length (length-sum s₀ (path_volume k c) ∙ hs)
      (λ p hp. let end = cells-end (pixels_in k) k.count p hp in
      v.summed p hp (rank_below (is_forward k.dx k.dy) (pixels_in k) p hp)
      ∙ ap (add_vec (path_cells k.count s₀ p)) (sym (volume-cells k c hc p hp))
      ∙ sym (run-sum k.count (p * k.count) s₀ (path_volume k c) (omega arith) (omega (arith, volume-length k c hc))))
