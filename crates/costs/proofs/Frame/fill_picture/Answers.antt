-- `Frame::fill_picture` meets its contract: the loop's first i cells of either table are sums and roots, and the rest are levels and squares. Assumes nothing.
use Prim.Native.Nat.{◌+◌, ◌*◌, ◌<◌}
use mathlib.Core.Path.{◌≡◌, sym, ◌∙◌}
use native.Mathlib.Omega.{arith}
use lib.ListN.{length, length-set}
use Rattle.windows.specs.Window.{cells}
use Rattle.costs.specs.Rooms.{Picture, TablesFrom, TablesTurned}
use Rattle.costs.proofs.Turns.{turn-start, turn-length, turning, turn-again, turn-done}
use Rattle.costs.proofs.Frame.fill_picture.Goals.{After-window_at-sum, At-loop-i, In-loop-i}
use Rattle.costs.proofs.Frame.fill_picture.Goals as goal

-- the picture's bytes, as the slice has them
picture : (c : At-loop-i) → Picture c.args.self.w c.args.self.h c.args.pic.now
picture c = record { bytes = c.requires.bytes; small = λ i. omega (arith, c.type_inv.pic i) }

length-of : (c : At-loop-i) → length c.loop-i.pair ≡ 2 * cells c.args.self.w c.args.self.h
length-of c = turn-length _ _ _ _ _ _ c.loop-i.invariant

pub loop-i-init : goal.loop-i-init
loop-i-init c = turn-start _ _ _ _ _ _ _ c.requires.cells-of c.fill_levels.ensures c.fill_squares.ensures

-- the tables that are left from cell i on
left_over : (c : In-loop-i) → TablesFrom c.loop-i.pair c.args.self.w c.args.self.h c.loop-i.i c.args.pic.now
left_over c = turning _ _ _ _ _ _ c.loop-i.invariant (picture (goal.at.In-loop-i c).At-loop-i)

held : (c : In-loop-i) → TablesTurned c.loop-i.pair c.args.self.w c.args.self.h c.args.self.r c.loop-i.i
held c = record { pic = c.args.pic.now; frame = c.requires.frame; among = c.loop-i-test.true; held = left_over c }

pub window_at-sum-requires : goal.window_at-sum-requires
window_at-sum-requires c = held (goal.at.window_at-sum-requires c).In-loop-i

-- the cells that are written, and the next turn's number
room : (c : After-window_at-sum) → (cells c.args.self.w c.args.self.h + c.loop-i.i < length c.loop-i.pair) × (length c.loop-i.pair ≡ length c.args.pair.now)
room c = (omega (arith, length-of (goal.at.After-window_at-sum c).At-loop-i, c.loop-i-test.true), length-of (goal.at.After-window_at-sum c).At-loop-i ∙ sym c.requires.cells-of)

pub bounds-pair-i : goal.bounds-pair-i
bounds-pair-i c = omega (arith, room c)

pub overflow_add-pair : goal.overflow_add-pair
overflow_add-pair c = omega (arith, room c, c.well_formed)

pub offset_bounds-pair-cells-in-loop-i : goal.offset_bounds-pair-cells-in-loop-i
offset_bounds-pair-cells-in-loop-i c = omega (arith, room c, c.well_formed)

pub bounds-pair-cells : goal.bounds-pair-cells
bounds-pair-cells c = rw length-set (omega (arith, room c))

pub loop-i-preserved : goal.loop-i-preserved
loop-i-preserved c =
    let found = c.window_at-sum.ensures _ (left_over (goal.at.loop-i-preserved c).In-loop-i) in
    turn-again _ _ _ _ _ _ c.loop-i.invariant c.loop-i-test.true _ _ found.0 found.1

pub returns : goal.returns
returns c = turn-done _ _ _ _ _ _ c.loop-i.invariant c.loop-i-test.false
