-- A float's magnitude, and the smaller of two. Definitions only.
use Rattle.std.specs.Prelude.{false, cond, Float}
use Rattle.std.specs.Float.{nan, inf, fin}
use Rattle.std.specs.Float.Ieee.{lt}

-- a float without its sign
unfoldable pub magnitude_of : Float → Float
magnitude_of nan = nan
magnitude_of (inf s) = inf false
magnitude_of (fin s m e) = fin false m e

-- the second where it is below the first, else the first
abbrev pub smaller_of : Float → Float → Float
smaller_of a b = cond (lt b a) b a
