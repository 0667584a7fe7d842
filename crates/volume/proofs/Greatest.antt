-- A cell's height is the greatest of the points in it: none there is higher, and it is the height of one of them. Assumes nothing.
use Prim.Native.Nat.{ℕ, ◌*◌, ◌≤◌, ◌<◌, max}
use mathlib.Core.Path.{◌≡◌, refl, sym, ap, ◌∙◌}
use mathlib.Core.Bool.{Bool, true, false, not, cond, ◌&&◌, true≢false}
use mathlib.Core.Logic.{⊎_elim}
use mathlib.Core.List.{List, [], ◌∷◌, ◌++◌}
use native.Mathlib.Nat.{le_refl, mul-le-mul_right}
use native.Mathlib.Omega.{arith}
use Rattle.lists.proofs.Sums.{sum_to-mono}
use Rattle.lists.proofs.Tests.{lt-or-le}
use Rattle.volume.specs.declared.site.Site.{Site}
use Rattle.volume.specs.declared.metres.Spot.{Spot}
use Rattle.volume.specs.Rectangle.{cells_of}
use Rattle.volume.specs.Heights.{falls_in, height_of, height_at, is_empty, volume_of}

-- one point more does not lower a cell
raise-up : (t : Bool) (h n : ℕ) → n ≤ cond t (max h n) n
raise-up true h n = omega arith
raise-up false h n = le_refl n

-- a higher cell stays at least as high after the same point
raise-mono : (t : Bool) (h m n : ℕ) → m ≤ n → cond t (max h m) m ≤ cond t (max h n) n
raise-mono true h m n l = omega arith
raise-mono false h m n l = l

module _ (s : Site) where
  -- THEOREM: one point more, wherever it stands among them, never lowers a cell
  pub never-lower : (before after : List Spot) (p : Spot) (c : ℕ) → height_at s (before ++ after) c ≤ height_at s (before ++ p ∷ after) c
  unfolding height_at
  never-lower [] after p c = raise-up (falls_in s c p) (height_of s p) (height_at s after c)
  never-lower (q ∷ before) after p c = raise-mono (falls_in s c q) (height_of s q) _ _ (never-lower before after p c)

  -- THEOREM: no point in a cell is higher than the cell
  pub height-reached : (before after : List Spot) (p : Spot) (c : ℕ) → falls_in s c p ≡ true → height_of s p ≤ height_at s (before ++ p ∷ after) c
  unfolding height_at
  height-reached [] after p c falls = rw falls (omega arith)
  height-reached (q ∷ before) after p c falls =
      let there = height-reached before after p c falls in
      let up = raise-up (falls_in s c q) (height_of s q) (height_at s (before ++ p ∷ after) c) in
      omega arith

  -- THEOREM: a cell without points has height 0
  pub empty-zero : (ps : List Spot) (c : ℕ) → is_empty s ps c ≡ true → height_at s ps c ≡ 0
  unfolding is_empty height_at
  empty-zero [] c e = refl
  empty-zero (p ∷ ps) c e = go (falls_in s c p) e (empty-zero ps c)
    where
      go : (t : Bool) → not t && is_empty s ps c ≡ true → (is_empty s ps c ≡ true → height_at s ps c ≡ 0)
          → cond t (max (height_of s p) (height_at s ps c)) (height_at s ps c) ≡ 0
      go true e zero-there = absurd (true≢false (sym e))
      go false e zero-there = zero-there e

-- a point that falls in the cell and has the cell's height, and where it stands among the points
pub record HeightOfOne (s : Site) (ps : List Spot) (c : ℕ) : Type 0 where
  pub before : List Spot
  pub point : Spot
  pub after : List Spot
  pub stands : ps ≡ before ++ point ∷ after
  pub falls : falls_in s c point ≡ true
  pub height : height_at s ps c ≡ height_of s point

module _ (s : Site) (c : ℕ) (p : Spot) (ps : List Spot) where
  first_one : falls_in s c p ≡ true → height_at s ps c ≤ height_of s p → HeightOfOne s (p ∷ ps) c
  unfolding height_at
  first_one falls low = record { before = []; point = p; after = ps; stands = refl; falls = falls; height = rw falls (omega arith) }

  later-one : HeightOfOne s ps c → height_at s (p ∷ ps) c ≡ height_at s ps c → HeightOfOne s (p ∷ ps) c
  later-one o same = record {
    before = p ∷ o.before;
    point = o.point;
    after = o.after;
    stands = ap (λ l. p ∷ l) o.stands;
    falls = o.falls;
    height = same ∙ o.height;
  }

  falling-one : falls_in s c p ≡ true → (t : Bool) → is_empty s ps c ≡ t → (is_empty s ps c ≡ false → HeightOfOne s ps c) → HeightOfOne s (p ∷ ps) c
  unfolding height_at
  falling-one falls true e later = first_one falls (omega (arith, empty-zero s ps c e))
  falling-one falls false e later =
      ⊎_elim
      (λ (l : height_of s p < height_at s ps c). later-one (later e) (rw falls (omega arith)))
      (λ (l : height_at s ps c ≤ height_of s p). first_one falls l)
      (lt-or-le (height_of s p) (height_at s ps c))

-- THEOREM: a cell that is not empty has the height of one of its points
pub height-of-one : (s : Site) (ps : List Spot) (c : ℕ) → is_empty s ps c ≡ false → HeightOfOne s ps c
unfolding is_empty height_at
height-of-one s [] c e = absurd (true≢false e)
height-of-one s (p ∷ ps) c e = go (falls_in s c p) refl e (height-of-one s ps c)
  where
    go : (t : Bool) → falls_in s c p ≡ t → not t && is_empty s ps c ≡ false → (is_empty s ps c ≡ false → HeightOfOne s ps c) → HeightOfOne s (p ∷ ps) c
    go true falls e later = falling-one s c p ps falls (is_empty s ps c) refl later
    go false falls e later = later-one s c p ps (later e) (rw falls)

-- THEOREM: one point more never lowers the volume
pub volume-never-lower : (s : Site) (before after : List Spot) (p : Spot) → volume_of s (before ++ after) ≤ volume_of s (before ++ p ∷ after)
unfolding volume_of
volume-never-lower s before after p = sum_to-mono (cells_of s) _ _ (λ c _. mul-le-mul_right (s.cell * s.cell) (never-lower s before after p c))
