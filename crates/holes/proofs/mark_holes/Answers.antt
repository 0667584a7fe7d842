-- `holes::mark_holes` meets its contract: before index k each pixel is what the first k raw costs make it. Assumes nothing.
use Rattle.std.proofs.Common.{◌+◌, ◌*◌, ◌≤◌, length, replicate, sym, ap, ◌∙◌}
use lib.Ieee.{Float}
use Rattle.lists.proofs.Lists.{list_of-same, list_of-const}
use Rattle.lists.proofs.Rows.{row_in}
use Rattle.maps.specs.declared.Cell.TheVariants.{Mark}
use Rattle.maps.specs.Cells.{in_buffer}
use Rattle.holes.proofs.Opening.{open_none, plane-next}
use Rattle.holes.proofs.mark_holes.Goals as goal

pub loop-k-init : goal.loop-k-init
loop-k-init c =
    let a = c.args in
    c.fill.ensures.after (λ y e. e)
    ∙ ap (λ n. replicate n c.from.result) c.requires.out_len
    ∙ ap (λ (v : Float). replicate a.area v) c.from.ensures
    ∙ sym (list_of-const a.area (in_buffer Mark))
    ∙ list_of-same a.area _ _ (λ p l. ap in_buffer (sym (open_none a.raw.now a.area p)))

pub loop-k-preserved : goal.loop-k-preserved
loop-k-preserved c =
    let a = c.args in
    let at = c.loop-k in
    let inside : at.k * a.area + a.area ≤ length a.raw.now = row_in _ _ _ _ c.loop-k-test.true c.requires.area_in_bounds in
    c.open_plane.ensures ∙ rw at.invariant (plane-next a.raw.now a.area at.k inside)
