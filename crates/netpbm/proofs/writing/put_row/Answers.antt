-- `netpbm::writing::put_row` meets its contract: at each turn the bytes of the cells passed stand. Assumes nothing.
use Rattle.std.proofs.Common.{zero-le, refl, arith}
use lib.Ieee.{nan}
use lib.Seq.{take_all}
use Rattle.texts.proofs.Pens.{writes_then, writes_length}
use Rattle.netpbm.specs.Pfm.{cells_bytes}
use Rattle.netpbm.proofs.Rasters.{bytes-more, bytes-long}
use Rattle.netpbm.proofs.writing.put_row.Goals as goal

pub loop-x-init : goal.loop-x-init
unfolding cells_bytes
loop-x-init c = (zero-le, record { same_slice = refl; wrote = record { bytes = refl; place = omega arith } })

pub put_cell-requires : goal.put_cell-requires
put_cell-requires c =
    let a = c.args in
    let i = c.loop-x.invariant in
    omega (arith, i.1.wrote.place, writes_length i.1, bytes-long a.order a.cells.now c.loop-x.x-index i.0)

pub loop-x-preserved : goal.loop-x-preserved
loop-x-preserved c =
    let a = c.args in
    let more = bytes-more a.order a.cells.now c.loop-x.x-index nan c.loop-x-test.true in
    (omega arith, rw more (writes_then c.loop-x.invariant.1 c.put_cell.ensures))

pub returns : goal.returns
returns c = rw (take_all _ _ c.loop-x-test.false) at c.loop-x.invariant.1
