-- A site, points and a grid for each number that can be answered of a heap. Definitions only.
use Rattle.std.specs.Prelude.{ℕ, ◌≡◌, false, [], ◌∷◌, ℤ, pos, negsuc, Float}
use Rattle.std.specs.Float.{nan, fin}
use Rattle.volume.specs.declared.site.Site.{Site}
use Rattle.refusals.specs.Steps.{is, refused}
use Rattle.volume.specs.Outcome.{grid_shape, heap_of, grid_after}
use Rattle.promises.specs.Floats.{quarter, half}

-- 128 metres
abbrev pub far : Float
far = fin false 1 (pos 7)

-- from (0, 0) to a right edge and to 500 mm, with cells and a floor
abbrev pub site_with : ℤ → ℕ → ℤ → Site
site_with right cell floor = record { left = pos 0; right = right; top = pos 0; bottom = pos 500; cell = cell; floor = floor }

-- two cells of 500 mm, the floor 1 m deep
abbrev pub plain : Site
plain = site_with (pos 1000) 500 (pos 1000)

pub record HeapsReached : Type 0 where
  -- a cell of 9 mm, and one of 10,001
  pub of-51 : heap_of (site_with (pos 1000) 9 (pos 1000)) (nan ∷ []) [] [] 0 ≡ refused 51
  pub of-51-wide : heap_of (site_with (pos 1000) 10001 (pos 1000)) [] [] [] 0 ≡ refused 51
  -- a coordinate that is no number, one of 128 m, a point without its z, an edge and a floor of 100,001 mm
  pub of-52 : heap_of plain (quarter ∷ []) (nan ∷ []) (half ∷ []) 2 ≡ refused 52
  pub of-52-far : heap_of plain (quarter ∷ []) (quarter ∷ []) (far ∷ []) 2 ≡ refused 52
  pub of-52-cut : heap_of plain (quarter ∷ []) (quarter ∷ []) [] 2 ≡ refused 52
  pub of-52-edge : heap_of (site_with (pos 100001) 500 (pos 1000)) [] [] [] 2 ≡ refused 52
  pub of-52-floor : heap_of (site_with (pos 1000) 500 (negsuc 100000)) [] [] [] 2 ≡ refused 52
  -- edges in the wrong order, and a side of a cell and a half
  pub of-53 : heap_of (site_with (negsuc 999) 500 (pos 1000)) [] [] [] 2 ≡ refused 53
  pub of-53-part : heap_of (site_with (pos 750) 500 (pos 1000)) [] [] [] 2 ≡ refused 53
  -- 10,000 by 50 cells
  pub of-54 : heap_of (site_with (pos 100000) 10 (pos 1000)) [] [] [] 2 ≡ refused 54
  -- a grid of three cells for two
  pub of-55 : heap_of plain (quarter ∷ []) (quarter ∷ []) (half ∷ []) 3 ≡ refused 55
  -- two points in the first cell, 500 and 750 mm high, a point on the high edge, which is outside, and an empty cell
  pub measured : heap_of plain (quarter ∷ quarter ∷ half ∷ []) (quarter ∷ quarter ∷ half ∷ []) (half ∷ quarter ∷ half ∷ []) 2
      ≡ is (record { volume = 187500000; inside = 2; outside = 1; empty = 1 })
  pub grid : grid_after plain (quarter ∷ quarter ∷ half ∷ []) (quarter ∷ quarter ∷ half ∷ []) (half ∷ quarter ∷ half ∷ []) (7 ∷ 7 ∷ []) ≡ 750 ∷ 0 ∷ []
  -- a point over each cell, both 500 mm high: that height over the rectangle
  pub even : heap_of plain (quarter ∷ half ∷ []) (quarter ∷ quarter ∷ []) (half ∷ half ∷ []) 2
      ≡ is (record { volume = 250000000; inside = 2; outside = 0; empty = 0 })
  pub shaped : grid_shape plain ≡ is (record { columns = 2; rows = 1 })
