-- The numbers that the witnesses use. Definitions only.
use Rattle.std.specs.Prelude.{true, false, pos, negsuc, Float}
use Rattle.std.specs.Float.{fin}

abbrev pub plus_zero : Float
plus_zero = fin false 0 (pos 0)

abbrev pub minus_zero : Float
minus_zero = fin true 0 (pos 0)

abbrev pub quarter : Float
quarter = fin false 1 (negsuc 1)

abbrev pub half : Float
half = fin false 1 (negsuc 0)

abbrev pub one : Float
one = fin false 1 (pos 0)

abbrev pub minus_one : Float
minus_one = fin true 1 (pos 0)

abbrev pub two : Float
two = fin false 1 (pos 1)

abbrev pub five : Float
five = fin false 5 (pos 0)
