-- Rows of one level: every raw cost is blank. Assumes nothing.
use Prim.Native.Nat.{ℕ, ◌+◌, ◌-◌, ◌*◌, ◌<◌}
use mathlib.Core.Path.{◌≡◌, refl, sym, ◌∙◌}
use mathlib.Core.Logic.{◌⊎◌, inl, inr, ⊎_swap}
use mathlib.Core.Bool.{Bool, true, false, cond, ◌||◌, false≢true}
use mathlib.Core.List.{List}
use native.Mathlib.Omega.{arith}
use borrow.Author.Tests.{leb-true, ltb-true, eq-eqb}
use lib.Dec.{leb, ltb}
use lib.IntN.{ℤ, pos, negsuc, ◌+ℤ◌}
use lib.Ieee.{Float}
use Rattle.lists.specs.Rows.{level_at}
use Rattle.lists.proofs.Tests.{and_both, of-all}
use Rattle.options.specs.declared.RawCost.TheVariants.{Blank, Corr}
use Rattle.options.specs.declared.Side.{Side}
use Rattle.options.specs.declared.Side.TheVariants.{Left, Right}
use Rattle.windows.specs.Window as window
use Rattle.options.specs.Frame.{within, is_in_frame}
use Rattle.costs.specs.Raw.{one_level, pair_cost, target_cost, shifted_cost, shift_of, raw_cost}
use Rattle.promises.specs.Changes.{Inside, OneLevel}

-- ---- a window inside rows of one level shows one level
level-window : {w h p q : ℕ} {a : List ℕ} → OneLevel w h p q a → (x y r : ℕ) → window.Inside w h x y r → Inside h p q r y → one_level w a x y r ≡ true
unfolding one_level
level-window {w} {h} {p} {q} {a} c x y r l o =
    of-all (2 * r + 1) _ (λ j lj. of-all (2 * r + 1) _ (λ i li. eq-eqb _ _ (at_level i j li lj ∙ sym corner)))
  where
    at_level : (i j : ℕ) → i < 2 * r + 1 → j < 2 * r + 1 → level_at w a (x - r + i) (y - r + j) ≡ c.level
    at_level i j li lj =
        let low : y - r + j < h = omega arith in
        c.only (x - r + i) (y - r + j) (omega arith) low (o (y - r + j) low (omega arith, omega arith))

    corner : level_at w a (x - r) (y - r) ≡ c.level
    corner =
        let low : y - r < h = omega arith in
        c.only (x - r) (y - r) (omega arith) low (o (y - r) low (omega arith, omega arith))

-- ---- a window in the picture, by its tests
within-is : (n r x : ℕ) → within n r x ≡ true → (leb r x ≡ true) × (ltb (x + r) n ≡ true)
within-is n r x e = and_both (leb r x) (ltb (x + r) n) e

inside_is : (w h r x y : ℕ) → within w r x ≡ true → within h r y ≡ true → window.Inside w h x y r
inside_is w h r x y e f =
    let across = within-is w r x e in
    let down = within-is h r y f in
    record { left = leb-true r x across.0; right = ltb-true (x + r) w across.1; top = leb-true r y down.0; bottom = ltb-true (y + r) h down.1 }

-- ---- so the raw cost is blank, whichever of the two pictures has such rows
module _ {w h p q : ℕ} {a b : List ℕ} (r : ℕ) (c : OneLevel w h p q a ⊎ OneLevel w h p q b) where
  pair-blank : (s : ℤ) (x x' y : ℕ) → window.Inside w h x y r → window.Inside w h x' y r → Inside h p q r y → pair_cost w r a b s x x' y ≡ Blank
  unfolding pair_cost
  pair-blank s x x' y l l' o = blank (one_level w a x y r) (one_level w b x' y r) _ (either c)
    where
      either : OneLevel w h p q a ⊎ OneLevel w h p q b → (one_level w a x y r ≡ true) ⊎ (one_level w b x' y r ≡ true)
      either (inl e) = inl (level-window e x y r l o)
      either (inr e) = inr (level-window e x' y r l' o)

      blank : (t u : Bool) (v : Float) → (t ≡ true) ⊎ (u ≡ true) → cond (t || u) Blank (Corr v) ≡ Blank
      blank true u v e = refl
      blank false true v e = refl
      blank false false v (inl e) = absurd (false≢true e)
      blank false false v (inr e) = absurd (false≢true e)

  target-blank : (s : ℤ) (x y : ℕ) (z : ℤ) → within w r x ≡ true → within h r y ≡ true → Inside h p q r y → target_cost w r a b s x y z ≡ Blank
  unfolding target_cost
  target-blank s x y (negsuc _) e f o = refl
  target-blank s x y (pos x') e f o = go (within w r x') refl
    where
      go : (t : Bool) → within w r x' ≡ t → cond t (pair_cost w r a b s x x' y) Blank ≡ Blank
      go true k = pair-blank s x x' y (inside_is w h r x y e f) (inside_is w h r x' y k f) o
      go false k = refl

  shifted-blank : (s : ℤ) (x y : ℕ) → Inside h p q r y → shifted_cost w h r a b s x y ≡ Blank
  unfolding shifted_cost
  shifted-blank s x y o = go (is_in_frame w h r x y) refl
    where
      go : (t : Bool) → is_in_frame w h r x y ≡ t → cond t (target_cost w r a b s x y (pos x +ℤ s)) Blank ≡ Blank
      go true k = let both = and_both (within w r x) (within h r y) k in target-blank s x y (pos x +ℤ s) both.0 both.1 o
      go false k = refl

-- ---- THEOREM: where the window rows lie inside rows of one level, of either picture, every raw cost is blank
pub raw-blank : {w h p q : ℕ} {left right : List ℕ} (r : ℕ) → OneLevel w h p q left ⊎ OneLevel w h p q right → (side : Side) (first : ℤ) (x y i : ℕ) → Inside h p q r y
    → raw_cost side w h r first left right x y i ≡ Blank
unfolding raw_cost
raw-blank r c Left first x y i o = shifted-blank r c (shift_of Left first i) x y o
raw-blank r c Right first x y i o = shifted-blank r (⊎_swap c) (shift_of Right first i) x y o
