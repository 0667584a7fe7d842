-- `netpbm::order::outward_pattern` meets its contract: what differs from itself is the NaN, for which plus infinity's pattern is written out. Assumes nothing.
use mathlib.Core.Path.{◌≡◌, refl, sym, subst}
use mathlib.Core.Bool.{false, not, false≢true}
use lib.Dec.{T}
use lib.Ieee.{Float, nan, inf, fin, is_nan, ne, to_bits}
use lib.Ieee.Compare.{differs_from_itself}
use Rattle.netpbm.specs.Pfm.{outward}
use Rattle.netpbm.proofs.order.outward_pattern.Goals as goal

-- what equals itself is no NaN, and is written as it is
number : (x : Float) → ne x x ≡ false → T (not (is_nan x)) × (outward x ≡ x)
unfolding is_nan ne
number nan e = absurd (false≢true (sym e))
number (inf s) e = (tt, refl)
number (fin s m k) e = (tt, refl)

pub float_to_bits-result : goal.float_to_bits-result
float_to_bits-result c = (number c.args.x c.if-x.false).0

pub returns-then-x : goal.returns-then-x
unfolding to_bits
returns-then-x c = rw (differs_from_itself c.args.x (subst T (sym c.if-x.true) tt))

pub returns-else-x : goal.returns-else-x
returns-else-x c = rw (number c.args.x c.if-x.false).1
