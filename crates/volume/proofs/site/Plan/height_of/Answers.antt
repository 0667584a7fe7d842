-- `volume::site::Plan::height_of` meets its contract: the bits of near numbers give their difference. Assumes nothing.
use mathlib.Core.Path.{◌∙◌}
use Rattle.volume.specs.Heights.{height_of}
use Rattle.volume.proofs.Differences.{near-back, above-back}
use Rattle.volume.proofs.Cells.{near, near-site}
use Rattle.volume.proofs.site.Plan.height_of.Goals as goal

pub above_by-requires : goal.above_by-requires
above_by-requires c =
    let s = c.args.self.site in
    (near-back s.floor (near-site s c.args.self.fits.near).floor, near-back c.args.at.z (near c.args.at.z c.requires))

pub returns : goal.returns
unfolding height_of
returns c =
    let s = c.args.self.site in
    c.above_by.ensures ∙ above-back s.floor c.args.at.z (near-site s c.args.self.fits.near).floor (near c.args.at.z c.requires)
