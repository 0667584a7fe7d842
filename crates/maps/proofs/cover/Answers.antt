-- `maps::cover` meets its contract: a map that is not refused has an inner frame, with few enough cells that a thousand times their number fits. Assumes nothing.
use Rattle.std.proofs.Common.{◌/◌, length, sym, arith}
use Rattle.maps.specs.Inner.{Framed}
use Rattle.maps.proofs.Covered.{cover-framed, area-some, area-few, valids-few}
use Rattle.maps.proofs.cover.Goals.{In_ok-check_cover}
use Rattle.maps.proofs.cover.Goals as goal

framed : (c : In_ok-check_cover) → let map = c.args.map in Framed map.width map.height (c.args.block / 2) (length map.cells.now)
framed c = cover-framed _ _ _ _ (sym c.in_ok-check_cover.ensures)

pub inner_valids-n-requires : goal.inner_valids-n-requires
inner_valids-n-requires c = framed c

pub overflow_mul-result : goal.overflow_mul-result
overflow_mul-result c =
    let f = framed (goal.at.overflow_mul-result c).In_ok-check_cover in
    record { fits = omega (arith, c.inner_valids-n.ensures, valids-few f c.args.map.cells.now, area-few f) }

pub overflow_sub-result : goal.overflow_sub-result
overflow_sub-result c = omega (arith, (framed (goal.at.overflow_sub-result c).In_ok-check_cover).across)

pub overflow_sub-result-2 : goal.overflow_sub-result-2
overflow_sub-result-2 c = omega (arith, (framed (goal.at.overflow_sub-result-2 c).In_ok-check_cover).down)

pub overflow_mul-result-4 : goal.overflow_mul-result-4
overflow_mul-result-4 c = record { fits = omega (arith, area-few (framed (goal.at.overflow_mul-result-4 c).In_ok-check_cover)) }

pub nonzero_div-result : goal.nonzero_div-result
nonzero_div-result c = area-some (framed (goal.at.nonzero_div-result c).In_ok-check_cover)
