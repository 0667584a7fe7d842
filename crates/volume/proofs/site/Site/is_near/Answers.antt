-- `volume::site::Site::is_near` meets its contract: the edges and the floor are read back from their bits. Assumes nothing.
use Rattle.std.proofs.Common.{arith, rules}
use mir.Syntax.{w64}
use mir.Val.{SFits}
use mir.ValLaws.{to_z-of_z}
use Rattle.volume.specs.Rectangle.{near_site}
use Rattle.volume.proofs.site.Site.is_near.Goals as goal

pub returns-then-is_near-4 : goal.returns-then-is_near-4
unfolding near_site
returns-then-is_near-4 c =
    let s = c.args.self in
    let left : SFits w64 s.left = search (rules, c.well_formed) in
    let right : SFits w64 s.right = search (rules, c.well_formed) in
    let top : SFits w64 s.top = search (rules, c.well_formed) in
    let bottom : SFits w64 s.bottom = search (rules, c.well_formed) in
    let floor : SFits w64 s.floor = search (rules, c.well_formed) in
    grind (arith, to_z-of_z)

pub returns-else-is_near-4 : goal.returns-else-is_near-4
unfolding near_site
returns-else-is_near-4 c =
    let s = c.args.self in
    let left : SFits w64 s.left = search (rules, c.well_formed) in
    let right : SFits w64 s.right = search (rules, c.well_formed) in
    let top : SFits w64 s.top = search (rules, c.well_formed) in
    let bottom : SFits w64 s.bottom = search (rules, c.well_formed) in
    grind (arith, to_z-of_z)
