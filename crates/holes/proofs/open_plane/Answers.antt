-- `holes::open_plane` meets its contract: before pixel p the first p cells are done. Assumes nothing.
use Rattle.std.proofs.Common.{◌≡◌, ◌<◌, length, get_or, refl, ◌∙◌, arith}
use lib.Ieee.{nan}
use Rattle.lists.specs.Lists.{list_of}
use Rattle.lists.proofs.Lists.{filled_next, filled-rest, filled-end}
use Rattle.holes.proofs.open_plane.Goals as goal

pub loop-p-init : goal.loop-p-init
unfolding list_of
loop-p-init c = refl

pub loop-p-preserved : goal.loop-p-preserved
loop-p-preserved c =
    let at = c.loop-p in
    let args = c.args in
    let inside : at.p < length args.out.now = omega arith in
    let untouched : get_or at.out at.p nan ≡ get_or args.out.now at.p nan = rw at.invariant (filled-rest _ _ _ _ _ (omega arith)) in
    rw (c.from-in-loop-p.ensures, c.opened_by.ensures, c.from.ensures, c.from-cost.ensures, untouched, at.invariant) (filled_next _ _ _ _ inside refl)

pub returns : goal.returns
returns c = c.loop-p.invariant ∙ filled-end _ _ _ _ (omega arith) c.requires
