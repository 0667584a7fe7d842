-- The slots of the path costs: two rows of them are enough. Assumes nothing.
use Prim.Native.Nat.{ℕ, ◌+◌, ◌*◌, ◌/◌, ◌%◌, ◌<◌, ◌≤◌}
use mathlib.Core.Path.{◌≡◌, refl, sym, ap, ◌∙◌}
use mathlib.Core.Bool.{Bool, true, false}
use mathlib.Core.Logic.{⊎_elim}
use native.Mathlib.Nat.{mod-lt, div-add-mod', add-mul, mul-le-mul_right}
use native.Mathlib.Omega.{arith}
use Rattle.lists.proofs.Rows.{in-column, in-row, pixel-in, mul-pos-left, row_below}
use Rattle.lists.proofs.Tests.{lt-or-le}
use Rattle.paths.specs.declared.direction.Walk.{Walk}
use Rattle.std.specs.Prelude.{Option, None, Some}
use Rattle.paths.specs.Walk.{previous_of, slot_row, slot_of, slot_in, pixels_in, is_forward, Direction}
use Rattle.paths.proofs.Places.{rank, rank_of, previous-in, previous-earlier, previous-near}

-- the slot of column x of row y
pub slot_at : (w x y : ℕ) → x < w → slot_of w (y * w + x) ≡ slot_row y * w + x
unfolding slot_of
slot_at w x y h = rw (in-column w x y h, in-row w x y h)

-- no slot is behind its pixel, so that none is off the picture
row-most : (y : ℕ) → slot_row y ≤ y
row-most y = omega arith

pub slot-in : (w h p : ℕ) → p < w * h → slot_of w p < w * h
unfolding slot_of
slot-in w h p hp =
    pixel-in w h (p % w) (slot_row (p / w)) (mod-lt p (mul-pos-left p w h hp)) (omega (arith, row-most (p / w), row_below w h p hp))

-- two pixels of one slot have two rows between them at least
apart-rows : (a b : ℕ) → a < b → slot_row a ≡ slot_row b → a + 2 ≤ b
apart-rows a b l e = omega arith

pub slot-far : (w p q : ℕ) → 0 < w → slot_of w p ≡ slot_of w q → p < q → p + 2 * w ≤ q
unfolding slot_of
slot-far w p q some e l =
    let px = mod-lt p some in
    let qx = mod-lt q some in
    let a = slot_row (p / w) in
    let b = slot_row (q / w) in
    let column : p % w ≡ q % w = sym (in-column w (p % w) a px) ∙ ap (λ (i : ℕ). i % w) e ∙ in-column w (q % w) b qx in
    let row : slot_row (p / w) ≡ slot_row (q / w) = sym (in-row w (p % w) a px) ∙ ap (λ (i : ℕ). i / w) e ∙ in-row w (q % w) b qx in
    ⊎_elim
    (λ (z : p / w < q / w). omega (arith, mul-le-mul_right w (apart-rows (p / w) (q / w) z row), add-mul (p / w) 2 w, div-add-mod' p w, div-add-mod' q w))
    (λ (z : q / w ≤ p / w). absurd (omega (arith, mul-le-mul_right w z, div-add-mod' p w, div-add-mod' q w)))
    (lt-or-le (p / w) (q / w))

far-turns : (f : Bool) (w n p q : ℕ) → 0 < w → p < n → q < n → slot_of w p ≡ slot_of w q → rank_of f n p < rank_of f n q → rank_of f n p + 2 * w ≤ rank_of f n q
far-turns true w n p q some hp hq e l = slot-far w p q some e l
far-turns false w n p q some hp hq e l = let o : q < p = omega arith in omega (arith, slot-far w q p some (sym e) o)

module _ (k : Walk) where
  -- so many turns lie between them
  pub slot-later : (p q : ℕ) → p < pixels_in k → q < pixels_in k → slot_of k.w p ≡ slot_of k.w q → rank k p < rank k q → rank k p + 2 * k.w ≤ rank k q
  slot-later p q hp hq e l = far-turns (is_forward k.dx k.dy) k.w (pixels_in k) p q (mul-pos-left p k.w k.h hp) hp hq e l

  -- a pixel's slot is not the one that its step reads
  pub slot-other : Direction k.dx k.dy → (p : ℕ) → p < pixels_in k → (q : ℕ) → previous_of k p ≡ Some q → slot_of k.w q ≡ slot_of k.w p → ⊥
  slot-other dir p hp q e s =
      omega (arith, slot-later q p (previous-in k dir p hp q e) hp s (previous-earlier k dir p hp q e), previous-near k dir p hp q e)

-- the pixel of a slot that was found
pub record OfSlot (w : ℕ) (a : Option ℕ) (r : ℕ) : Type 0 where
  pub q : ℕ
  pub pixel : a ≡ Some q
  pub slot : slot_of w q ≡ r

pub of-slot : (w : ℕ) (a : Option ℕ) (r : ℕ) → slot_in w a ≡ Some r → OfSlot w a r
of-slot w (Some q) r e = record { q = q; pixel = refl; slot = cc }
of-slot w None r e = absurd (let o : ◌≡◌ {A = ℕ} 0 1 = cc in omega arith)

pub no_slot : (w : ℕ) (a : Option ℕ) → slot_in w a ≡ None → a ≡ None
no_slot w (Some q) e = absurd (let o : ◌≡◌ {A = ℕ} 0 1 = cc in omega arith)
no_slot w None e = refl
