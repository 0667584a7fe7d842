-- `netpbm::writing::put_rows` meets its contract: at each turn the bytes of the rows passed stand. Assumes nothing.
use Prim.Native.Nat.{◌-◌}
use mathlib.Core.Path.{refl}
use mathlib.Core.List.{[]}
use native.Mathlib.Nat.{add-sub_cancel_left}
use native.Mathlib.Omega.{arith}
use Rattle.lists.proofs.Rows.{upward-none, upward-more, upward-all, row-long}
use Rattle.texts.proofs.Pens.{writes_then, writes_length}
use Rattle.netpbm.specs.Pfm.{cells_bytes}
use Rattle.netpbm.proofs.Orders.{cells-length}
use Rattle.netpbm.proofs.Rasters.{bytes-append, row_room}
use Rattle.netpbm.proofs.writing.put_rows.Goals as goal

pub loop-y-init : goal.loop-y-init
unfolding cells_bytes
loop-y-init c = ([], upward-none _ _ _, record { same_slice = refl; wrote = record { bytes = refl; place = omega arith } })

pub put_row-requires : goal.put_row-requires
put_row-requires c =
    let a = c.args in
    let p = c.loop-y.invariant in
    let size = row_room a.width a.height c.loop-y.y a.cells.now p.0 p.1 c.loop-y-test.true c.requires.cells_len in
    rw (add-sub_cancel_left, row-long a.width a.cells.now (c.loop-y.y - 1) (omega (arith, c.requires.cells_len)))
    (omega (arith, c.requires.height_in_bounds, p.2.wrote.place, writes_length p.2, cells-length a.order p.0))

pub loop-y-preserved : goal.loop-y-preserved
loop-y-preserved c =
    let p = c.loop-y.invariant in
    (_, upward-more _ _ _ _ _ p.1 c.loop-y-test.true, rw bytes-append (writes_then p.2 (rw add-sub_cancel_left at c.put_row.ensures)))

pub returns : goal.returns
returns c =
    let p = c.loop-y.invariant in
    rw (upward-all _ _ _ _ _ p.1 c.loop-y-test.false) at p.2
