-- The raw cost by where the two windows lie. Assumes nothing.
use Prim.Native.Nat.{ℕ, ◌+◌, ◌≤◌, ◌<◌}
use mathlib.Core.Path.{◌≡◌, refl, sym, ap, ◌∙◌}
use mathlib.Core.Bool.{Bool, true, false}
use mathlib.Core.List.{List}
use lib.IntN.{ℤ, pos, negsuc, ◌+ℤ◌}
use Rattle.lists.proofs.Tests.{and_both}
use Rattle.options.specs.declared.RawCost.TheVariants.{Blank}
use Rattle.options.specs.Frame.{within, is_in_frame}
use Rattle.options.proofs.Frames.{says-within, within-says}
use Rattle.windows.specs.Window.{Inside}
use Rattle.costs.specs.Raw.{pair_cost, target_cost, shifted_cost}

-- a target column that is found
pub record Found (w r : ℕ) (z : ℤ) (x : ℕ) : Type 0 where
  pub column : z ≡ pos x
  pub left : r ≤ x
  pub right : x + r < w

-- one is found, or the cost is blank whatever the pictures
by-target : {A : Type 0} (w r : ℕ) (z : ℤ) → ((x' : ℕ) → Found w r z x' → A) → (((a b : List ℕ) (s : ℤ) (x y : ℕ) → Blank ≡ target_cost w r a b s x y z) → A) → A
unfolding target_cost
by-target {A} w r (negsuc n) found none = none (λ a b s x y. refl)
by-target {A} w r (pos t) found none = go (within w r t) refl
  where
    go : (c : Bool) → within w r t ≡ c → A
    go true e = let k = within-says w r t e in found t (record { column = refl; left = k.0; right = k.1 })
    go false e = none (λ a b s x y. rw e)

module _ (w h r : ℕ) (a b : List ℕ) (s : ℤ) (x y : ℕ) where
  in_frame : Inside w h x y r → shifted_cost w h r a b s x y ≡ target_cost w r a b s x y (pos x +ℤ s)
  unfolding shifted_cost
  in_frame i = rw (says-within w r x i.left i.right, says-within h r y i.top i.bottom)

  pub target_found : Inside w h x y r → (x' : ℕ) → Found w r (pos x +ℤ s) x' → pair_cost w r a b s x x' y ≡ shifted_cost w h r a b s x y
  unfolding target_cost
  target_found i x' f = sym (in_frame i ∙ ap (target_cost w r a b s x y) f.column ∙ rw (says-within w r x' f.left f.right))

module _ (w h r : ℕ) (s : ℤ) (x y : ℕ) where
  inside-says : is_in_frame w h r x y ≡ true → Inside w h x y r
  inside-says e =
      let both = and_both (within w r x) (within h r y) e in
      let across = within-says w r x both.0 in
      let down = within-says h r y both.1 in
      record { left = across.0; right = across.1; top = down.0; bottom = down.1 }

  -- both windows lie in their pictures, or the raw cost is blank whatever the pictures
  pub by-windows : {A : Type 0} → (Inside w h x y r → (x' : ℕ) → Found w r (pos x +ℤ s) x' → A) → (((a b : List ℕ) → Blank ≡ shifted_cost w h r a b s x y) → A) → A
  unfolding shifted_cost
  by-windows {A} both none = go (is_in_frame w h r x y) refl
    where
      go : (c : Bool) → is_in_frame w h r x y ≡ c → A
      go true e =
          let i = inside-says e in
          by-target w r (pos x +ℤ s) (both i) (λ blank. none (λ a b. blank a b s x y ∙ sym (in_frame w h r a b s x y i)))
      go false e = none (λ a b. rw e)

-- blank unless both windows lie in their pictures
pub blank-unless : (w h r : ℕ) (a b : List ℕ) (s : ℤ) (x y : ℕ) → (Inside w h x y r → (x' : ℕ) → Found w r (pos x +ℤ s) x' → ⊥) → Blank ≡ shifted_cost w h r a b s x y
blank-unless w h r a b s x y off = by-windows w h r s x y (λ i x' f. absurd (off i x' f)) (λ blank. blank a b)

-- two raw costs at one place are equal where they are wherever both windows lie in their pictures
pub at_each : (w h r : ℕ) (a b a' b' : List ℕ) (s : ℤ) (x y : ℕ) → (Inside w h x y r → (x' : ℕ) → Found w r (pos x +ℤ s) x' → pair_cost w r a b s x x' y ≡ pair_cost w r a' b' s x x' y)
    → shifted_cost w h r a b s x y ≡ shifted_cost w h r a' b' s x y
at_each w h r a b a' b' s x y each =
    by-windows w h r s x y
    (λ i x' f. sym (target_found w h r a b s x y i x' f) ∙ each i x' f ∙ target_found w h r a' b' s x y i x' f)
    (λ blank. sym (blank a b) ∙ blank a' b')
