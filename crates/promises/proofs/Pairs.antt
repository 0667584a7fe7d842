-- The raw costs of two pairs of pictures of which the second is the first with levels changed: the same where the window rows miss the rows left out. Assumes nothing.
use Prim.Native.Nat.{ℕ, suc, ◌+◌, ◌-◌, ◌*◌, ◌/◌, ◌%◌, ◌^◌, ◌≤◌, ◌<◌}
use mathlib.Core.Path.{◌≡◌, sym, ap, ◌∙◌}
use mathlib.Core.Logic.{⊎_elim}
use mathlib.Core.List.{List}
use native.Mathlib.Nat.{mod-lt, div-lt_iff_lt-mul}
use native.Mathlib.Omega.{arith}
use borrow.Author.Tests.{lt-ltb, le-ltb}
use lib.IntN.{ℤ, pos, negsuc, nat_abs, sub_ℕ, ◌+ℤ◌, pos-ne-negsuc}
use Rattle.lists.specs.Rows.{level_at}
use Rattle.lists.proofs.Tests.{lt-or-le}
use Rattle.lists.proofs.Lists.{list_of-same}
use Rattle.options.specs.Limits.{block_most}
use Rattle.options.specs.Costs.{stored}
use Rattle.options.specs.declared.BlockMatchOptions.{BlockMatchOptions}
use Rattle.options.specs.declared.Side.{Side}
use Rattle.options.specs.declared.Side.TheVariants.{Left, Right}
use Rattle.calls.specs.Accepted.{Sizes}
use Rattle.calls.proofs.Rows.{accepted}
use Rattle.windows.specs.Window as window
use Rattle.windows.proofs.Flat.{pixel, count}
use Rattle.windows.proofs.Affine.{Affine}
use Rattle.costs.specs.Raw.{shifted_cost, shift_of, raw_cost}
use Rattle.costs.specs.Rooms.{Picture}
use Rattle.costs.specs.Volume.{raw_volume}
use Rattle.costs.proofs.Frames.{at_each}
use Rattle.costs.proofs.Scaling.{pair-scaled}
use Rattle.matching.specs.Maps.{half, count_of, volume_of}
use Rattle.matching.specs.Outcome.{match_call}
use Rattle.matching.specs.Accepted.{AcceptedPair}
use Rattle.promises.specs.Changes.{Outside, Misses, NoRows, Relevelled, Changed}

-- ---- the levels over naturals, with s = u - t
record Whole (w h p q m : ℕ) (a a' : List ℕ) : Type 0 where
  t : ℕ
  u : ℕ
  is : (x y : ℕ) → x < w → y < h → Outside p q y → level_at w a' x y + t ≡ m * level_at w a x y + u

-- what a sum with a negative number says over naturals
taken : (v e u : ℕ) → pos v ≡ sub_ℕ e (suc u) → v + suc u ≡ e
taken v e u h =
    ⊎_elim
    (λ (l : e < suc u). absurd (pos-ne-negsuc v (suc u - suc e) (h ∙ rw (lt-ltb e (suc u) l))))
    (λ (l : suc u ≤ e). let n : v ≡ e - suc u = ap nat_abs (rw (le-ltb e (suc u) l) at h) in omega arith)
    (lt-or-le e (suc u))

whole_by : (w h p q m : ℕ) (a a' : List ℕ) (s : ℤ) → ((x y : ℕ) → x < w → y < h → Outside p q y → pos (level_at w a' x y) ≡ pos (m * level_at w a x y) +ℤ s)
    → Whole w h p q m a a'
whole_by w h p q m a a' (pos u) f = record {
  t = 0;
  u = u;
  is = λ x y lx ly o. let e : level_at w a' x y ≡ m * level_at w a x y + u = ap nat_abs (f x y lx ly o) in omega arith;
}
whole_by w h p q m a a' (negsuc u) f = record {
  t = suc u;
  u = 0;
  is = λ x y lx ly o. let e = taken (level_at w a' x y) (m * level_at w a x y) u (f x y lx ly o) in omega arith;
}

whole : {w h p q : ℕ} {a a' : List ℕ} (c : Relevelled w h p q a a') → Whole w h p q (2 ^ c.j) a a'
whole {w} {h} {p} {q} {a} {a'} c = whole_by w h p q (2 ^ c.j) a a' c.s c.levels

-- ---- the pixels of a window that lies in the picture, in rows that are kept
module _ {w h p q m : ℕ} {a a' : List ℕ} (c : Whole w h p q m a a') {x y r : ℕ} (l : window.Inside w h x y r) (o : Misses h p q r y) where
  level-changed : (i j : ℕ) → i < 2 * r + 1 → j < 2 * r + 1 → level_at w a' (x - r + i) (y - r + j) + c.t ≡ m * level_at w a (x - r + i) (y - r + j) + c.u
  level-changed i j li lj =
      let low : y - r + j < h = omega arith in
      c.is (x - r + i) (y - r + j) (omega arith) low (o (y - r + j) low (omega arith, omega arith))

  window-affine : Affine (count r) m (pixel (level_at w a) x y r) (pixel (level_at w a') x y r)
  window-affine =
      let some : 0 < 2 * r + 1 = omega arith in
      record { t = c.t; u = c.u; is = λ k n. level-changed (k % (2 * r + 1)) (k / (2 * r + 1)) (mod-lt k some) ((div-lt_iff_lt-mul some).1 n) }

-- ---- the raw cost of two windows, wherever they lie
module _ {w h p q : ℕ} {a a' b b' : List ℕ} (r : ℕ) (few : r ≤ block_most / 2) (pa : Picture w h a') (pb : Picture w h b') (ca : Relevelled w h p q a a') (cb : Relevelled w h p q b b') where
  shifted-same : (s : ℤ) (x y : ℕ) → Misses h p q r y → shifted_cost w h r a b s x y ≡ shifted_cost w h r a' b' s x y
  shifted-same s x y o =
      at_each w h r a b a' b' s x y
      (λ l x' f.
      let l' : window.Inside w h x' y r = record { left = f.left; right = f.right; top = l.top; bottom = l.bottom } in
      sym
      (pair-scaled w h r a b a' b' few pa pb s x x' y f.column l.left f.left ca.j cb.j
      (window-affine (whole ca) l o) (window-affine (whole cb) l' o)))

-- ---- what an accepted pair has
module _ {w h : ℕ} {o : BlockMatchOptions} {left right : List ℕ} (c : AcceptedPair w h o left right) where
  pub sizes : Sizes (match_call left w h right w h o c.out c.whole c.float)
  sizes = (accepted _ c.accepted).sizes

  pub left-picture : Picture w h left
  left-picture = record { bytes = sizes.left-bytes; small = c.left-levels }

  pub right-picture : Picture w h right
  right-picture = record { bytes = sizes.right-bytes; small = c.right-levels }

module _ {w h : ℕ} {o : BlockMatchOptions} {p q : ℕ} {left right left' right' : List ℕ} (c : Changed w h o p q left right left' right') where
  -- THEOREM: in a row whose window rows miss p to q the raw costs of the second pair are those of the first, from either side
  pub raw_same : (side : Side) (first : ℤ) (x y i : ℕ) → Misses h p q (half o) y → raw_cost side w h (half o) first left right x y i ≡ raw_cost side w h (half o) first left' right' x y i
  unfolding raw_cost
  raw_same Left first x y i m =
      shifted-same (half o) (sizes c.second).r-most (left-picture c.second) (right-picture c.second) c.left-change c.right-change (shift_of Left first i) x y m
  raw_same Right first x y i m =
      shifted-same (half o) (sizes c.second).r-most (right-picture c.second) (left-picture c.second) c.right-change c.left-change (shift_of Right first i) x y m

  -- THEOREM: with no row left out the raw volumes of the second pair are those of the first, from either side
  pub volumes-same : NoRows h p q → (side : Side) → volume_of w h o side left right ≡ volume_of w h o side left' right'
  unfolding raw_volume
  volumes-same none side =
      list_of-same (count_of o * (w * h)) _ _
      (λ n _. ap stored (raw_same side o.min_disparity _ _ _ (λ i l _. none i l)))
