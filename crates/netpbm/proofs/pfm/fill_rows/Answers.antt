-- `netpbm::pfm::fill_rows` meets its contract: at each turn the rows passed stand. Assumes nothing.
use native.Mathlib.Omega.{arith}
use Rattle.netpbm.proofs.Rasters.{rows_room, rows_more, rows_all}
use Rattle.netpbm.proofs.pfm.fill_rows.Goals as goal

pub slice_bounds-fill_row-end-in-loop-y : goal.slice_bounds-fill_row-end-in-loop-y
slice_bounds-fill_row-end-in-loop-y c =
    let y = c.loop-y in
    let a = c.args in
    omega (arith, y.invariant.long, y.invariant.place, rows_room a.order a.width a.height a.s.now a.out.now y.y y.from y.out y.invariant c.loop-y-test.true)

pub loop-y-preserved : goal.loop-y-preserved
loop-y-preserved c = rows_more _ _ _ _ _ _ _ _ c.loop-y.invariant _ c.loop-y-test.true c.requires.out_len c.requires.s_len c.fill_row.ensures

pub returns : goal.returns
returns c = rows_all _ _ _ _ _ _ _ _ c.loop-y.invariant c.loop-y-test.false c.requires.out_len
