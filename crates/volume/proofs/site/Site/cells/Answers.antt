-- `volume::site::Site::cells` meets its contract: a near site has not so many columns and rows that their product is too large. Assumes nothing.
use mathlib.Core.Path.{refl}
use native.Mathlib.Nat.{mul-le-mul}
use native.Mathlib.Omega.{arith}
use Rattle.volume.proofs.Cells.{near-site, parts-most}
use Rattle.volume.proofs.site.Site.cells.Goals as goal

pub overflow_mul-result : goal.overflow_mul-result
overflow_mul-result c =
    let s = c.args.self in
    let n = near-site s c.requires.near in
    let few = mul-le-mul (parts-most s.right s.left n.right n.left _ s.cell refl) (parts-most s.bottom s.top n.bottom n.top _ s.cell refl) in
    rw (c.columns.ensures, c.rows.ensures) record { fits = omega (arith, few) }
