-- `netpbm::order::inward_cell` meets its contract: numbers says which patterns are finite. Assumes nothing.
use mathlib.Core.Path.{◌≡◌, ◌∙◌, ap}
use mathlib.Core.Bool.{true, not}
use Prim.Native.Nat.{◌/◌, ◌%◌, ◌^◌}
use lib.Ieee.{binary32, of_bits}
use lib.Ieee.Bits.{nan_bits_is}
use lib.Ieee.Scale.{finite}
use borrow.Author.Tests.{eq-eqb, ne_eqb}
use Rattle.numbers.proofs.FinitePatterns.{pattern-finite, finite_number}
use Rattle.netpbm.proofs.order.inward_cell.Goals.{Else-p-eq255}
use Rattle.netpbm.proofs.order.inward_cell.Goals as goal

-- what passes the test is finite
found : (c : Else-p-eq255) → finite (of_bits binary32 c.args.p) ≡ true
found c = let p = c.args.p in pattern-finite p ∙ ap not (ne_eqb (p / 2 ^ 23 % 256) 255 c.if-p-eq255.false)

pub returns-then-p-eq255 : goal.returns-then-p-eq255
returns-then-p-eq255 c = let p = c.args.p in rw (pattern-finite p, eq-eqb (p / 2 ^ 23 % 256) 255 c.if-p-eq255.true) c.from.ensures

pub float_from_bits-result : goal.float_from_bits-result
float_from_bits-result c = rw (nan_bits_is binary32 c.args.p) (finite_number (of_bits binary32 c.args.p) (found c))

pub returns : goal.returns
returns c = rw (found c)
