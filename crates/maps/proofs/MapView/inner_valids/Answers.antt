-- `maps::MapView::inner_valids` meets its contract: each turn counts the part of one row that lies within. Assumes nothing.
use Rattle.std.proofs.Common.{◌≡◌, ◌+◌, ◌-◌, ◌*◌, arith}
use Rattle.maps.proofs.Facts.{pixels-small}
use Rattle.maps.proofs.Framed.{CountedRows, counted_none, counted-more, counted-all, counted-few}
use Rattle.maps.proofs.MapView.inner_valids.Goals.{After-valids_in-n}
use Rattle.maps.proofs.MapView.inner_valids.Goals as goal

pub loop-y-init : goal.loop-y-init
loop-y-init c = counted_none c.args.self.cells.now c.requires

-- the row counted
counted : (c : After-valids_in-n)
    → let map = c.args.self in
    CountedRows map.width map.height c.args.r map.cells.now (c.loop-y.n + c.valids_in-n.result) (c.loop-y.y + 1)
counted c =
    let map = c.args.self in
    let y = c.loop-y.y in
    let part : y * map.width + (map.width - c.args.r) - (y * map.width + c.args.r) ≡ map.width - 2 * c.args.r = omega (arith, c.requires.across) in
    rw (c.valids_in-n.ensures, part) (counted-more map.cells.now c.requires c.loop-y.n y c.loop-y.invariant c.loop-y-test.true)

pub overflow_add-n : goal.overflow_add-n
overflow_add-n c =
    let f = c.requires in
    record { fits = omega (arith, counted-few c.args.self.cells.now f _ _ (counted c), pixels-small _ _ f.narrow f.low) }

pub loop-y-preserved : goal.loop-y-preserved
loop-y-preserved c = counted c

pub returns : goal.returns
returns c = counted-all c.args.self.cells.now c.requires c.loop-y.n c.loop-y.y c.loop-y.invariant c.loop-y-test.false
