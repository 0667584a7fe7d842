-- `costs::raw::quotient` meets its contract. Assumes nothing.
use mathlib.Core.Path.{◌∙◌}
use Rattle.costs.proofs.raw.quotient.Goals as goal

pub narrow_plain-corr-requires : goal.narrow_plain-corr-requires
narrow_plain-corr-requires c = rw (c.divisor.ensures, c.is_flat-flat.ensures) c.requires.moderate

pub returns : goal.returns
returns c =
    let flat = c.is_flat-flat.ensures in
    let by = c.divisor.ensures in
    c.cost_of.ensures ∙ rw (c.narrow_plain-corr.ensures, by, flat)
