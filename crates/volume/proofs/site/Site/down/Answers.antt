-- `volume::site::Site::down` meets its contract: the edges are near, so that their bits give them back. Assumes nothing.
use Rattle.volume.proofs.Differences.{near-back}
use Rattle.volume.proofs.Cells.{near-site, cell-some}
use Rattle.volume.proofs.site.Site.down.Goals as goal

pub invariant_of-result : goal.invariant_of-result
invariant_of-result c =
    let s = c.args.self in
    let n = near-site s c.requires.near in
    record { low_near = near-back s.top n.top; high_near = near-back s.bottom n.bottom; cell_some = cell-some s c.requires.cell }
