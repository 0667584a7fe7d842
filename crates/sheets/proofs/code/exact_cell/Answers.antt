-- `sheets::code::exact_cell` meets its contract: numbers says which patterns are finite. Assumes nothing.
use Rattle.std.proofs.Common.{◌≡◌, ◌/◌, ◌%◌, ◌^◌, true, not, ap, ◌∙◌, arith, le-ltb, lt-ltb, eq-eqb, ne_eqb}
use lib.Ieee.{binary32, of_bits}
use lib.Ieee.Bits.{nan_bits_is}
use lib.Ieee.Scale.{finite}
use Rattle.sheets.specs.Code.{sheet_cell}
use Rattle.numbers.proofs.FinitePatterns.{pattern-finite, finite_number}
use Rattle.sheets.proofs.code.exact_cell.Goals.{Else-bits-eq255}
use Rattle.sheets.proofs.code.exact_cell.Goals as goal

-- what passes both tests is finite
found : (c : Else-bits-eq255) → finite (of_bits binary32 c.args.bits) ≡ true
found c =
    let bits = c.args.bits in
    pattern-finite bits ∙ ap not (ne_eqb (bits / 2 ^ 23 % 256) 255 c.if-bits-eq255.false)

pub returns-then-bits-gt4294967295 : goal.returns-then-bits-gt4294967295
unfolding sheet_cell
returns-then-bits-gt4294967295 c = rw (le-ltb c.args.bits (2 ^ 32) (omega arith))

pub returns-then-bits-eq255 : goal.returns-then-bits-eq255
unfolding sheet_cell
returns-then-bits-eq255 c =
    let bits = c.args.bits in
    rw (pattern-finite bits, eq-eqb (bits / 2 ^ 23 % 256) 255 c.if-bits-eq255.true, lt-ltb bits (2 ^ 32) (omega arith))

pub float_from_bits-result : goal.float_from_bits-result
float_from_bits-result c = rw (nan_bits_is binary32 c.args.bits) (finite_number (of_bits binary32 c.args.bits) (found c))

pub returns : goal.returns
unfolding sheet_cell
returns c = rw (found c, lt-ltb c.args.bits (2 ^ 32) (omega arith))
