-- A raw cost in a float buffer, and the range of raw costs (docs/SPECIFICATION.md, "Raw cost"). Definitions only.
use Rattle.std.specs.Prelude.{true, false, cond, T, pos, Float}
use Rattle.std.specs.Float.{inf, fin}
use Rattle.std.specs.Float.Ieee.{eq, le}
use Rattle.options.specs.declared.RawCost.{RawCost}
use Rattle.options.specs.declared.RawCost.TheVariants.{Blank, Corr}

-- blank is negative infinity
abbrev pub stored : RawCost → Float
stored Blank = inf true
stored (Corr v) = v

-- and negative infinity is blank
abbrev pub raw_of : Float → RawCost
raw_of v = cond (eq v (inf true)) Blank (Corr v)

abbrev pub one : Float
one = fin false 1 (pos 0)

abbrev pub minus_one : Float
minus_one = fin true 1 (pos 0)

-- a number from -1 to 1
abbrev pub Within : Float → Type 0
Within v = T (le minus_one v) × T (le v one)

-- a raw cost that is blank or lies from -1 to 1
abbrev pub InRange : RawCost → Type 0
InRange Blank = Unit
InRange (Corr v) = Within v
