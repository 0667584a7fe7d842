-- How high and how large a heap of good points can be. Assumes nothing.
use Prim.Native.Nat.{ℕ, ◌*◌, ◌≤◌, max}
use mathlib.Core.Path.{◌≡◌, sym, subst}
use mathlib.Core.Bool.{Bool, true, false, cond}
use mathlib.Core.List.{List, [], ◌∷◌}
use native.Mathlib.Nat.{mul_left_comm, mul-le-mul, mul-le-mul_right, mul-le-mul_left, le_trans}
use native.Mathlib.Omega.{arith}
use lib.Ieee.{Float}
use Rattle.lists.proofs.Sums.{sum_to-bound}
use Rattle.lists.proofs.Tests.{and_both}
use Rattle.volume.specs.declared.site.Site.{Site}
use Rattle.volume.specs.Metres.{good_coordinate, all_good, good_points, spot_of, spots_of}
use Rattle.volume.specs.Rectangle.{wide_of, long_of, near_site, cells_of}
use Rattle.volume.specs.Heights.{falls_in, height_of, height_at, volume_of}
use Rattle.volume.specs.Inner.{SiteFits, height_most}
use Rattle.volume.proofs.Cells.{above_most, near-site, height-most}
use Rattle.volume.proofs.Spots.{good, spot-near}
use Rattle.volume.proofs.Area.{area}

-- 200,000 mm high over 200,000 by 200,000 mm
abbrev pub volume_most : ℕ
volume_most = 8000000000000000

raise-most : (t : Bool) (h n m : ℕ) → h ≤ m → n ≤ m → cond t (max h n) n ≤ m
raise-most true h n m l k = omega arith
raise-most false h n m l k = k

module _ (s : Site) (near : near_site s ≡ true) where
  -- the heights ask only for good depths
  deep-most : (xs ys zs : List Float) → all_good zs ≡ true → (c : ℕ) → height_at s (spots_of xs ys zs) c ≤ height_most
  unfolding spots_of spot_of height_at all_good
  deep-most (x ∷ xs) (y ∷ ys) (z ∷ zs) all c =
      let both = and_both (good_coordinate z) (all_good zs) all in
      let p = spot_of x y z in
      raise-most
      (falls_in s c p)
      (height_of s p)
      (height_at s (spots_of xs ys zs) c)
      height_most
      (height-most s near p (spot-near x y z both.0))
      (deep-most xs ys zs both.1 c)
  deep-most (x ∷ xs) (y ∷ ys) [] all c = omega arith
  deep-most (x ∷ xs) [] zs all c = omega arith
  deep-most [] ys zs all c = omega arith

  -- THEOREM: no cell is higher than 200,000 mm
  pub heights-most : (xs ys zs : List Float) → good_points xs ys zs ≡ true → (c : ℕ) → height_at s (spots_of xs ys zs) c ≤ height_most
  heights-most xs ys zs e = deep-most xs ys zs (good xs ys zs e).zs-good

  -- the rectangle's sides
  sides-most : (wide_of s ≤ height_most) × (long_of s ≤ height_most)
  sides-most =
      let n = near-site s near in
      (above_most s.right s.left n.right n.left, above_most s.bottom s.top n.bottom n.top)

-- THEOREM: no heap of good points over a fit site is larger than 8·10^15 cubic millimetres
pub volume-most : (s : Site) → SiteFits s → (xs ys zs : List Float) → good_points xs ys zs ≡ true → volume_of s (spots_of xs ys zs) ≤ volume_most
unfolding volume_of
volume-most s fit xs ys zs e =
    let cellArea = s.cell * s.cell in
    let most = sides-most s fit.near in
    let high = sum_to-bound (height_most * cellArea) (cells_of s) _ (λ c _. mul-le-mul_right cellArea (heights-most s fit.near xs ys zs e c)) in
    let block : cells_of s * (height_most * cellArea) ≤ height_most * (height_most * height_most) =
    subst
    (λ n. n ≤ height_most * (height_most * height_most))
    (sym (mul_left_comm (cells_of s) height_most cellArea))
    (mul-le-mul_left height_most (subst (λ n. n ≤ height_most * height_most) (sym (area s fit.sides)) (mul-le-mul most.0 most.1))) in
    le_trans high block
