-- `choices::semi_global::select_sgm` meets its contract: before pixel p the first p cells are the map's. Assumes nothing.
use Rattle.std.proofs.Common.{◌≡◌, ◌*◌, ◌<◌, length, sym, refl, ◌∙◌, arith}
use Rattle.choices.specs.SemiGlobal.{semi_map}
use Rattle.lists.specs.Lists.{list_of}
use Rattle.lists.proofs.Lists.{filled_next, filled-end, map-list_of}
use Rattle.choices.proofs.semi_global.select_sgm.Goals as goal

pub loop-p-init : goal.loop-p-init
unfolding list_of
loop-p-init c = refl

pub loop-p-preserved : goal.loop-p-preserved
loop-p-preserved c =
    let inside : c.loop-p.p < length c.args.out.now = omega arith in
    rw (c.loop-p.invariant, c.from.ensures, c.semi_cell.ensures) (filled_next _ _ _ _ inside refl)

pub returns : goal.returns
unfolding semi_map
returns c =
    let a = c.args in
    let past : c.loop-p.p ≡ a.w * a.h = omega arith in
    c.loop-p.invariant
    ∙ filled-end _ _ _ _ past c.requires.out_len
    ∙ sym (map-list_of _ _ _)
