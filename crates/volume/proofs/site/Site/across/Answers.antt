-- `volume::site::Site::across` meets its contract: the edges are near, so that their bits give them back. Assumes nothing.
use Rattle.volume.proofs.Differences.{near-back}
use Rattle.volume.proofs.Cells.{near-site, cell-some}
use Rattle.volume.proofs.site.Site.across.Goals as goal

pub invariant_of-result : goal.invariant_of-result
invariant_of-result c =
    let s = c.args.self in
    let n = near-site s c.requires.near in
    record { low_near = near-back s.left n.left; high_near = near-back s.right n.right; cell_some = cell-some s c.requires.cell }
