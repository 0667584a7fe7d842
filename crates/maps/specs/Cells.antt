-- The cells of a map as they lie in a float buffer (docs/SPECIFICATION.md, "Map"). Definitions only.
use Rattle.std.specs.Prelude.{cond, List, [], ◌∷◌, T, Float}
use Rattle.std.specs.Float.{nan, binary32}
use Rattle.std.specs.Float.Ieee.{is_nan, fits}
use Rattle.maps.specs.declared.Cell.{Cell}
use Rattle.maps.specs.declared.Cell.TheVariants.{Mark, At}

-- the mark is a NaN
abbrev pub in_buffer : Cell → Float
in_buffer Mark = nan
in_buffer (At d) = d

-- and every NaN is the mark; every other number is itself
abbrev pub cell_of : Float → Cell
cell_of v = cond (is_nan v) Mark (At v)

-- every cell is an f32, as the cells of a lent slice are
abbrev pub AllFit : List Float → Type 0
AllFit [] = Unit {0}
AllFit (x ∷ xs) = T (fits binary32 x) × AllFit xs
