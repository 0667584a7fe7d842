-- A number of a buffer, taken for a raw cost and stored again, is itself, and negative infinity is blank. Assumes nothing.
use Rattle.std.proofs.Common.{◌≡◌, true, false, refl}
use lib.Ieee.{Float, nan, inf, fin, eq}
use Rattle.options.specs.declared.RawCost.TheVariants.{Blank}
use Rattle.options.specs.Costs.{stored, raw_of}

pub raw-back : (v : Float) → stored (raw_of v) ≡ v
unfolding eq
raw-back nan = refl
raw-back (inf true) = refl
raw-back (inf false) = refl
raw-back (fin s m e) = refl

pub blank-is : Blank ≡ raw_of (inf true)
unfolding eq
blank-is = refl
