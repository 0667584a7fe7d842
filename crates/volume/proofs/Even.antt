-- A heap of one height over every cell has the volume of a block of that height. Assumes nothing.
use Prim.Native.Nat.{ℕ, ◌*◌, ◌<◌}
use mathlib.Core.Path.{◌≡◌, refl, sym, ap, ◌∙◌}
use mathlib.Core.Bool.{Bool, true, false, true≢false}
use mathlib.Core.List.{List, ◌∷◌, ◌++◌}
use native.Mathlib.Nat.{mul_left_comm}
use Rattle.lists.proofs.Sums.{sum_to-same, sum_to-const}
use Rattle.volume.specs.declared.site.Site.{Site}
use Rattle.volume.specs.declared.metres.Spot.{Spot}
use Rattle.volume.specs.Rectangle.{wide_of, long_of, good_cell, good_sides, cells_of}
use Rattle.volume.specs.Heights.{is_inside, falls_in, height_of, height_at, is_empty, volume_of}
use Rattle.volume.proofs.Counts.{no_cell}
use Rattle.volume.proofs.Greatest.{height-of-one}
use Rattle.volume.proofs.Area.{area}

module _ (s : Site) (good : good_cell s ≡ true) (sides : good_sides s ≡ true) where
  -- what falls in a cell lies in the rectangle
  pub falling_inside : (p : Spot) (c : ℕ) → c < cells_of s → falls_in s c p ≡ true → is_inside s p ≡ true
  falling_inside p c below falls = go (is_inside s p) refl
    where
      go : (t : Bool) → is_inside s p ≡ t → is_inside s p ≡ true
      go true e = e
      go false e = absurd (true≢false (sym falls ∙ no_cell s good sides p e c below))

  -- THEOREM: where every cell has a point and every point in the rectangle has one height, the volume is that height times the rectangle's area
  pub even-heap : (h : ℕ) (ps : List Spot) → ((c : ℕ) → c < cells_of s → is_empty s ps c ≡ false)
      → ((before after : List Spot) (p : Spot) → ps ≡ before ++ p ∷ after → is_inside s p ≡ true → height_of s p ≡ h)
      → volume_of s ps ≡ h * (wide_of s * long_of s)
  unfolding volume_of
  even-heap h ps full level =
      sum_to-same (cells_of s) _ (λ _. h * (s.cell * s.cell)) (λ c below. ap (λ n. n * (s.cell * s.cell)) (one-height c below))
      ∙ sum_to-const (cells_of s) (h * (s.cell * s.cell))
      ∙ mul_left_comm (cells_of s) h (s.cell * s.cell)
      ∙ ap (λ n. h * n) (area s sides)
    where
      one-height : (c : ℕ) → c < cells_of s → height_at s ps c ≡ h
      one-height c below =
          let one = height-of-one s ps c (full c below) in
          one.height ∙ level one.before one.after one.point one.stands (falling_inside one.point c below one.falls)
