-- `costs::tables::root_bits` meets its contract: a root is no NaN, and 0 has the bits 0. Assumes nothing.
use mathlib.Core.Path.{sym, ap, ◌∙◌, subst}
use mathlib.Core.Bool.{not}
use native.Mathlib.Omega.{arith}
use lib.Dec.{T}
use lib.Ieee.{Float, binary64, to_bits, is_nan}
use Rattle.costs.proofs.RootBits.{bits-of-zero, bits_are, root-no-nan}
use Rattle.costs.proofs.tables.root_bits.Goals as goal

pub float_to_bits-result : goal.float_to_bits-result
float_to_bits-result c =
    subst (λ (x : Float). T (not (is_nan x))) (sym c.root.ensures)
    (root-no-nan c.args.variance (omega arith) c.requires)

pub returns-then-variance-eq0 : goal.returns-then-variance-eq0
returns-then-variance-eq0 c = rw c.if-variance-eq0.true (sym bits-of-zero)

pub returns-else-variance-eq0 : goal.returns-else-variance-eq0
returns-else-variance-eq0 c =
    ap (to_bits binary64) c.root.ensures
    ∙ sym (bits_are c.args.variance (omega arith) c.requires)
