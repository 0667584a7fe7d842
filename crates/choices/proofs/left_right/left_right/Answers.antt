-- `choices::left_right::left_right` meets its contract: before pixel p the first p cells are tested. Assumes nothing.
use Rattle.std.proofs.Common.{◌≡◌, ◌<◌, length, refl, ◌∙◌, le_refl, arith}
use lib.Ieee.{nan}
use Rattle.choices.specs.LeftRight.{left_right}
use Rattle.lists.specs.Lists.{list_of}
use Rattle.lists.proofs.Lists.{filled-rest, filled_next, filled-end}
use Rattle.choices.proofs.left_right.left_right.Invariants.{at-pixel}
use Rattle.choices.proofs.left_right.left_right.Goals as goal

pub loop-p-init : goal.loop-p-init
unfolding list_of
loop-p-init c = refl

pub loop-p-preserved : goal.loop-p-preserved
loop-p-preserved c =
    let loop = c.loop-p in
    let inside : loop.p < length c.args.out.now = omega arith in
    rw (c.tested.ensures, loop.invariant, filled-rest _ (at-pixel _ _ _ _) _ _ nan (le_refl _)) (filled_next _ _ _ _ inside refl)

pub returns : goal.returns
unfolding left_right
returns c =
    let past : c.loop-p.p ≡ length c.args.out.now = omega arith in
    c.loop-p.invariant ∙ filled-end _ _ _ _ past refl
