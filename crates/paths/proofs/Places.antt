-- The place before, on a line and in a picture, and that the previous pixel is visited earlier. Assumes nothing.
use Prim.Native.Nat.{ℕ, zero, suc, ◌+◌, ◌-◌, ◌*◌, ◌/◌, ◌%◌, ◌<◌, ◌≤◌}
use mathlib.Core.Path.{◌≡◌, refl, sym, ap, ◌∙◌}
use mathlib.Core.Bool.{Bool, true, false, cond}
use mathlib.Core.Logic.{⊎_elim}
use native.Mathlib.Nat.{add-zero, mod-lt, div-add-mod', suc-mul, add-mul, mul_comm}
use native.Mathlib.Numerals.{add-one}
use native.Mathlib.Omega.{arith}
use borrow.Author.Tests.{lt-ltb, le-ltb, ltb-true}
use lib.Dec.{ltb, eqb}
use lib.IntN.{ℤ, pos, negsuc, ◌-ℤ◌, sub_ℕ}
use mir.Syntax.{w32}
use mir.Val.{of_z, to_z}
use Rattle.std.specs.Option.{SomeIff}
use Rattle.lists.proofs.Rows.{in-column, in-row, pixel-in, mul-pos-left}
use Rattle.lists.proofs.Tests.{lt-or-le}
use Rattle.paths.specs.declared.direction.Walk.{Walk}
use Rattle.std.specs.Prelude.{Option, None, Some}
use Rattle.paths.specs.Walk.{place_in, step_back, pixel_of, previous_of, pixels_in, is_forward, UnitStep, Direction}

-- one step back, by the step
module _ (n x : ℕ) (d : ℤ) where
  pub back_none : d ≡ pos 0 → x < n → step_back n d x ≡ Some x
  unfolding step_back
  back_none e h = rw (e, add-zero, lt-ltb x n h)

  pub back-up-start : d ≡ pos 1 → x ≡ 0 → step_back n d x ≡ None
  unfolding step_back
  back-up-start e h = rw (e, h)

  pub back-up : d ≡ pos 1 → 0 < x → x < n → step_back n d x ≡ Some (x - 1)
  unfolding step_back
  back-up e h h' =
      let in-n : x - 1 < n = omega arith in
      rw (e, le-ltb x 1 h, lt-ltb (x - 1) n in-n)

  pub back-down : d ≡ negsuc 0 → x + 1 < n → step_back n d x ≡ Some (x + 1)
  unfolding step_back
  back-down e h = rw (e, lt-ltb (x + 1) n h)

  pub back-down-start : d ≡ negsuc 0 → n ≤ x + 1 → step_back n d x ≡ None
  unfolding step_back
  back-down-start e h = rw (e, le-ltb (x + 1) n h)

  -- what is left of x, or nothing
  pub back-checked : (r : Option ℕ) → d ≡ pos 1 → x < n → SomeIff r (1 ≤ x) (x - 1) → r ≡ step_back n d x
  back-checked None e h f = sym (back-up-start e (⊎_elim (λ (z : x < 1). omega arith) (λ (z : 1 ≤ x). absurd (f z)) (lt-or-le x 1)))
  back-checked (Some y) e h f = ap Some f.1 ∙ sym (back-up e f.0 h)

-- a step by its bits
by-step : {P : Type 0} (d : ℤ) → UnitStep d → (d ≡ pos 0 → P) → (d ≡ pos 1 → P) → (d ≡ negsuc 0 → P) → P
by-step d u none up down = ⊎_elim none (λ v. ⊎_elim up down v) u

module _ (d : ℤ) (u : UnitStep d) where
  pub unit-none : of_z w32 d ≡ 0 → d ≡ pos 0
  unit-none h = by-step d u (λ e. e) (λ e. absurd (let z : 1 ≡ 0 = rw e at h in omega arith)) (λ e. absurd (let z : 4294967295 ≡ 0 = rw e at h in omega arith))

  pub unit-up : of_z w32 d ≡ 1 → d ≡ pos 1
  unit-up h = by-step d u (λ e. absurd (let z : 0 ≡ 1 = rw e at h in omega arith)) (λ e. e) (λ e. absurd (let z : 4294967295 ≡ 1 = rw e at h in omega arith))

  pub unit-down : (of_z w32 d ≡ 0 → ⊥) → (of_z w32 d ≡ 1 → ⊥) → d ≡ negsuc 0
  unit-down h h' = by-step d u (λ e. absurd (h (ap (of_z w32) e))) (λ e. absurd (h' (ap (of_z w32) e))) (λ e. e)

  pub unit-same : to_z w32 (of_z w32 d) ≡ d
  unit-same = by-step d u (λ e. rw e) (λ e. rw e) (λ e. rw e)

  pub unit-back : UnitStep (to_z w32 (of_z w32 d))
  unit-back = rw unit-same u

-- which way the pixels are numbered, by the bits of the steps
pub forward-level : (dx dy : ℤ) → UnitStep dx → dy ≡ pos 0 → eqb (of_z w32 dx) 1 ≡ is_forward dx dy
forward-level dx dy u e = by-step dx u (λ f. rw (e, f)) (λ f. rw (e, f)) (λ f. rw (e, f))

pub forward-row : (dx dy : ℤ) → UnitStep dy → (of_z w32 dy ≡ 0 → ⊥) → eqb (of_z w32 dy) 1 ≡ is_forward dx dy
forward-row dx dy u n = by-step dy u (λ f. absurd (n (ap (of_z w32) f))) (λ f. rw f) (λ f. rw f)

-- what a place tells
known-place : (n z y : ℕ) (b : Bool) → ltb z n ≡ b → cond b (Some z) None ≡ Some y → (y < n) × (z ≡ y)
known-place n z y true e p = let q : z ≡ y = cc in (omega (arith, ltb-true z n e), q)
known-place n z y false e p = absurd (let o : ◌≡◌ {A = ℕ} 0 1 = cc in omega arith)

in_place : (n : ℕ) (z : ℤ) (y : ℕ) → place_in n z ≡ Some y → (y < n) × (z ≡ pos y)
in_place n (pos z) y e = let k = known-place n z y (ltb z n) refl e in (k.0, ap pos k.1)
in_place n (negsuc z) y e = absurd (let o : ◌≡◌ {A = ℕ} 0 1 = cc in omega arith)

pub back_in : (n x : ℕ) (d : ℤ) (y : ℕ) → step_back n d x ≡ Some y → y < n
unfolding step_back
back_in n x d y e = (in_place n (pos x -ℤ d) y e).0

from-none : (n x : ℕ) (d : ℤ) (y : ℕ) → d ≡ pos 0 → step_back n d x ≡ Some y → y ≡ x
unfolding step_back
from-none n x d y f e = let g : pos (x + 0) ≡ pos y = rw f at (in_place n (pos x -ℤ d) y e).1 in let k : x + 0 ≡ y = cc in omega arith

from-down : (n x : ℕ) (d : ℤ) (y : ℕ) → d ≡ negsuc 0 → step_back n d x ≡ Some y → y ≡ x + 1
unfolding step_back
from-down n x d y f e = let g : pos (x + 1) ≡ pos y = rw f at (in_place n (pos x -ℤ d) y e).1 in cc

from_up : (n x : ℕ) (d : ℤ) (y : ℕ) → d ≡ pos 1 → step_back n d x ≡ Some y → y + 1 ≡ x
unfolding step_back
from_up n zero d y f e = absurd (let g = back-up-start n zero d f refl in let o : ◌≡◌ {A = ℕ} 0 1 = cc in omega arith)
from_up n (suc x) d y f e =
    let h : sub_ℕ (suc x) 1 ≡ pos y = rw f at (in_place n (pos (suc x) -ℤ d) y e).1 in
    let g : pos (suc x - 1) ≡ pos y = rw (le-ltb (suc x) 1 (omega arith)) at h in
    let k : suc x - 1 ≡ y = cc in
    omega arith

-- the previous pixel, from the places before
module _ (k : Walk) (p : ℕ) where
  pub no-column : step_back k.w k.dx (p % k.w) ≡ None → previous_of k p ≡ None
  unfolding previous_of
  no-column e = rw e

  pub no_row : (x : ℕ) → step_back k.w k.dx (p % k.w) ≡ Some x → step_back k.h k.dy (p / k.w) ≡ None → previous_of k p ≡ None
  unfolding previous_of
  no_row x e f = rw (e, f)

  pub both-places : (x y : ℕ) → step_back k.w k.dx (p % k.w) ≡ Some x → step_back k.h k.dy (p / k.w) ≡ Some y → previous_of k p ≡ Some (y * k.w + x)
  unfolding previous_of
  both-places x y e f = rw (e, f)

-- the same of column x of row y, by steps that were read back from their bits
module _ (k : Walk) (dir : Direction k.dx k.dy) (x y : ℕ) (hx : x < k.w) where
  column-is : {r : Option ℕ} → r ≡ step_back k.w (to_z w32 (of_z w32 k.dx)) x → step_back k.w k.dx ((y * k.w + x) % k.w) ≡ r
  column-is e = rw (in-column k.w x y hx) (sym (e ∙ ap (λ (d : ℤ). step_back k.w d x) (unit-same k.dx dir.column)))

  row-is : {r : Option ℕ} → r ≡ step_back k.h (to_z w32 (of_z w32 k.dy)) y → step_back k.h k.dy ((y * k.w + x) / k.w) ≡ r
  row-is e = rw (in-row k.w x y hx) (sym (e ∙ ap (λ (d : ℤ). step_back k.h d y) (unit-same k.dy dir.row)))

  pub off-column : None ≡ step_back k.w (to_z w32 (of_z w32 k.dx)) x → previous_of k (y * k.w + x) ≡ None
  off-column e = no-column k (y * k.w + x) (column-is e)

  pub off-row : (a : ℕ) → Some a ≡ step_back k.w (to_z w32 (of_z w32 k.dx)) x → None ≡ step_back k.h (to_z w32 (of_z w32 k.dy)) y → previous_of k (y * k.w + x) ≡ None
  off-row a e f = no_row k (y * k.w + x) a (column-is e) (row-is f)

  module _ (a b : ℕ) (e : Some a ≡ step_back k.w (to_z w32 (of_z w32 k.dx)) x) (f : Some b ≡ step_back k.h (to_z w32 (of_z w32 k.dy)) y) where
    pub on-both : previous_of k (y * k.w + x) ≡ Some (b * k.w + a)
    on-both = both-places k (y * k.w + x) a b (column-is e) (row-is f)

    pub on-column : a < k.w
    on-column = back_in k.w ((y * k.w + x) % k.w) k.dx a (column-is e)

    pub on-picture : b * k.w + a < pixels_in k
    on-picture = pixel-in k.w k.h a b on-column (back_in k.h ((y * k.w + x) / k.w) k.dy b (row-is f))

-- ---- the previous pixel has a smaller rank

-- the turn at which pixel p of n is visited
abbrev pub rank_of : Bool → ℕ → ℕ → ℕ
rank_of f n p = cond f p (n - 1 - p)

abbrev pub rank : Walk → ℕ → ℕ
rank k p = rank_of (is_forward k.dx k.dy) (pixels_in k) p

record Found (w : ℕ) (a b : Option ℕ) (q : ℕ) : Type 0 where
  x : ℕ
  y : ℕ
  column : a ≡ Some x
  row : b ≡ Some y
  is : q ≡ y * w + x

found : (w : ℕ) (a b : Option ℕ) (q : ℕ) → pixel_of w a b ≡ Some q → Found w a b q
found w (Some x) (Some y) q e = record { x = x; y = y; column = refl; row = refl; is = cc }
found w (Some x) None q e = absurd (let o : ◌≡◌ {A = ℕ} 0 1 = cc in omega arith)
found w None b q e = absurd (let o : ◌≡◌ {A = ℕ} 0 1 = cc in omega arith)

module _ (k : Walk) (dir : Direction k.dx k.dy) (p : ℕ) (hp : p < pixels_in k) (q : ℕ) (e : previous_of k p ≡ Some q) where
  abbrev w : ℕ
  w = k.w

  places : Found w (step_back w k.dx (p % w)) (step_back k.h k.dy (p / w)) q
  unfolding previous_of
  places = found w (step_back w k.dx (p % w)) (step_back k.h k.dy (p / w)) q e

  x-in : places.x < w
  x-in = back_in w (p % w) k.dx places.x places.column

  pub previous-in : q < pixels_in k
  previous-in = rw places.is (pixel-in w k.h places.x places.y x-in (back_in k.h (p / w) k.dy places.y places.row))

  whole : p / w * w + p % w ≡ p
  whole = div-add-mod' p w

  mod-in : p % w < w
  mod-in = mod-lt p (mul-pos-left p w k.h hp)

  up-row : k.dy ≡ pos 1 → q < p
  up-row f =
      let r : places.y + 1 ≡ p / w = from_up k.h (p / w) k.dy places.y f places.row in
      let m : p / w * w ≡ places.y * w + w = ap (λ (i : ℕ). i * w) (sym r ∙ add-one places.y) ∙ suc-mul places.y w in
      omega (arith, x-in, whole, places.is)

  down-row : k.dy ≡ negsuc 0 → p < q
  down-row f =
      let r : places.y ≡ p / w + 1 = from-down k.h (p / w) k.dy places.y f places.row in
      let m : places.y * w ≡ p / w * w + w = ap (λ (i : ℕ). i * w) (r ∙ add-one (p / w)) ∙ suc-mul (p / w) w in
      omega (arith, mod-in, whole, places.is)

  same_row : k.dy ≡ pos 0 → places.y * w ≡ p / w * w
  same_row f = ap (λ (i : ℕ). i * w) (from-none k.h (p / w) k.dy places.y f places.row)

  up-column : k.dy ≡ pos 0 → k.dx ≡ pos 1 → q < p
  up-column f g = omega (arith, same_row f, from_up w (p % w) k.dx places.x g places.column, whole, places.is)

  down-column : k.dy ≡ pos 0 → k.dx ≡ negsuc 0 → p < q
  down-column f g = omega (arith, same_row f, from-down w (p % w) k.dx places.x g places.column, whole, places.is)

  pub previous-earlier : rank k q < rank k p
  previous-earlier =
      by-step k.dy dir.row
      (λ f. by-step k.dx dir.column (λ g. absurd (dir.moves g f)) (λ g. rw (f, g) (up-column f g)) (λ g. let o = down-column f g in rw (f, g) (omega (arith, previous-in))))
      (λ f. rw f (up-row f))
      (λ f. let o = down-row f in rw f (omega (arith, previous-in)))

  -- and fewer than two rows lie between
  up-near : k.dy ≡ pos 1 → p < q + 2 * w
  up-near f =
      let r : places.y + 1 ≡ p / w = from_up k.h (p / w) k.dy places.y f places.row in
      let m : p / w * w ≡ places.y * w + w = ap (λ (i : ℕ). i * w) (sym r ∙ add-one places.y) ∙ suc-mul places.y w in
      omega (arith, mod-in, whole, places.is)

  down-near : k.dy ≡ negsuc 0 → q < p + 2 * w
  down-near f =
      let r : places.y ≡ p / w + 1 = from-down k.h (p / w) k.dy places.y f places.row in
      let m : places.y * w ≡ p / w * w + w = ap (λ (i : ℕ). i * w) (r ∙ add-one (p / w)) ∙ suc-mul (p / w) w in
      omega (arith, x-in, whole, places.is)

  level-near : k.dy ≡ pos 0 → (p < q + 2 * w) × (q < p + 2 * w)
  level-near f = (omega (arith, same_row f, mod-in, whole, places.is), omega (arith, same_row f, x-in, whole, places.is))

  pub previous-near : rank k p < rank k q + 2 * k.w
  previous-near =
      by-step k.dy dir.row
      (λ f. by-step k.dx dir.column (λ g. absurd (dir.moves g f)) (λ g. rw (f, g) (level-near f).0) (λ g. let o = (level-near f).1 in rw (f, g) (omega (arith, previous-in))))
      (λ f. rw f (up-near f))
      (λ f. let o = down-near f in rw f (omega (arith, previous-in)))

-- the rank tells the pixel
pub turn_in : (f : Bool) (n t : ℕ) → t < n → cond f t (n - 1 - t) < n
turn_in true n t h = h
turn_in false n t h = omega arith

pub rank-turn : (f : Bool) (n t : ℕ) → t < n → rank_of f n (cond f t (n - 1 - t)) ≡ t
rank-turn true n t h = refl
rank-turn false n t h = omega arith

pub rank-one : (f : Bool) (n p q : ℕ) → p < n → q < n → rank_of f n p ≡ rank_of f n q → p ≡ q
rank-one true n p q hp hq e = e
rank-one false n p q hp hq e = omega arith

pub rank_below : (f : Bool) (n p : ℕ) → p < n → rank_of f n p < n
rank_below true n p h = h
rank_below false n p h = omega arith

-- ---- turn i of line j

-- the pixel of a turn, by its column and its row
pub turn-pixel : (f : Bool) (w h i j : ℕ) → i < w → j < h → cond f j (h - 1 - j) * w + cond f i (w - 1 - i) ≡ cond f (j * w + i) (w * h - 1 - (j * w + i))
turn-pixel true w h i j hi hj = refl
turn-pixel false w h i j hi hj =
    let b : ℕ = h - 1 - j in
    let e : b + suc j ≡ h = omega arith in
    let m : b * w + suc j * w ≡ h * w = sym (add-mul b (suc j) w) ∙ ap (λ (z : ℕ). z * w) e in
    omega (arith, suc-mul j w, mul_comm w h)
