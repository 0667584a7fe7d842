-- Coordinates in metres as whole millimetres (docs/SPECIFICATION.md, "Volume of a heap"). Definitions only.
use Rattle.std.specs.Prelude.{ℕ, Bool, true, false, ◌&&◌, List, [], ◌∷◌, length, leb, eqb, ℤ, pos, nat_abs, Float}
use Rattle.std.specs.Float.{fin, binary64}
use Rattle.std.specs.Float.Ieee.{mul, to_signed}
use Rattle.std.specs.Float.Ieee.Scale.{finite}
use Rattle.numbers.specs.Away.{rounded_away}
use Rattle.volume.specs.declared.metres.Spot.{Spot}
use Rattle.volume.specs.declared.metres.Points.{Points}

-- 1000 as an f64
abbrev pub thousand : Float
thousand = fin false 125 (pos 3)

-- a coordinate in millimetres: one f64 product with 1000, then rounding, halves away from zero
unfoldable pub millimetres : Float → ℤ
millimetres x = to_signed 63 (rounded_away binary64 (mul binary64 x thousand))

-- the largest size of a coordinate, an edge or the floor depth, in millimetres
abbrev pub size_most : ℕ
size_most = 100000

-- a number of millimetres that is at most that in size
abbrev pub is_near : ℤ → Bool
is_near v = leb (nat_abs v) size_most

-- a coordinate that is finite and, in millimetres, at most that in size
unfoldable pub good_coordinate : Float → Bool
good_coordinate x = finite x && is_near (millimetres x)

-- all of them are
unfoldable pub all_good : List Float → Bool
all_good [] = true
all_good (x ∷ xs) = good_coordinate x && all_good xs

-- each point has its three coordinates, and all of them are good
unfoldable pub good_points : List Float → List Float → List Float → Bool
good_points xs ys zs = eqb (length ys) (length xs) && eqb (length zs) (length xs) && all_good xs && all_good ys && all_good zs

-- a point in whole millimetres
unfoldable pub spot_of : Float → Float → Float → Spot
spot_of x y z = record { x = millimetres x; y = millimetres y; z = millimetres z }

-- the points given; their coordinates stand in three lists
unfoldable pub spots_of : List Float → List Float → List Float → List Spot
spots_of (x ∷ xs) (y ∷ ys) (z ∷ zs) = spot_of x y z ∷ spots_of xs ys zs
spots_of (x ∷ xs) (y ∷ ys) [] = []
spots_of (x ∷ xs) [] zs = []
spots_of [] ys zs = []

-- the same of lists that are held together
abbrev pub are_good : Points → Bool
are_good p = good_points p.xs.now p.ys.now p.zs.now

-- and their points
abbrev pub spots_in : Points → List Spot
spots_in p = spots_of p.xs.now p.ys.now p.zs.now
