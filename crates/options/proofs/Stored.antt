-- A raw cost that was stored reads back. Assumes nothing.
use mathlib.Core.Path.{◌≡◌, refl}
use mathlib.Core.Bool.{true, false}
use lib.Dec.{T}
use lib.Ieee.{Float, nan, inf, fin, eq, le}
use Rattle.options.specs.declared.RawCost.{RawCost}
use Rattle.options.specs.declared.RawCost.TheVariants.{Blank, Corr}
use Rattle.options.specs.Costs.{stored, raw_of, minus_one, InRange}

-- what is no less than -1 is not negative infinity
not-blank : (v : Float) → T (le minus_one v) → eq v (inf true) ≡ false
unfolding le eq
not-blank nan h = absurd h
not-blank (inf true) h = absurd h
not-blank (inf false) h = refl
not-blank (fin s m e) h = refl

pub stored_back : (c : RawCost) → InRange c → raw_of (stored c) ≡ c
unfolding eq
stored_back Blank h = refl
stored_back (Corr v) h = rw (not-blank v h.0)
