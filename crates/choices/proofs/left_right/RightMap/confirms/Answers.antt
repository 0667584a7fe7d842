-- `choices::left_right::RightMap::confirms` meets its contract: past both tests the column is an index of the row. Assumes nothing.
use Rattle.std.proofs.Common.{◌+◌, ◌*◌, ◌/◌, ◌%◌, ◌^◌, ◌<◌, ◌≤◌, length, mod-lt, mul_comm, arith}
use lib.Ieee.{of_bits}
use Rattle.choices.specs.LeftRight.{confirms}
use Rattle.choices.proofs.Columns.{Index, column-number, column-index}
use Rattle.lists.proofs.Rows.{cell_in, mul-pos-left, row_below}
use Rattle.choices.proofs.left_right.RightMap.confirms.Goals.{After-truncating_f32_to_u64-i, Else-xr-self, Start, then-xr-via-then-xr, then-xr-via-else-xr+then-xr-self}
use Rattle.choices.proofs.left_right.RightMap.confirms.Goals as goal

wide : (c : Start) → 0 < c.args.self.w
wide c = mul-pos-left _ _ _ c.requires.p_bound

short : (c : Start) → c.args.p % c.args.self.w ≤ 2 ^ 24
short c = omega (arith, mod-lt c.args.p (wide c), c.args.self.narrow)

-- past both tests the column is an index
index : (c : Else-xr-self) → Index c.round_half_away-xr.result c.args.self.w
unfolding of_bits
index c =
    column-index _ _ (wide (goal.at.Else-xr-self c).Start) (omega (arith, c.args.self.narrow))
    (rw c.round_half_away-xr.ensures (column-number (c.args.p % c.args.self.w) c.args.d (short (goal.at.Else-xr-self c).Start) c.requires.t))
    c.if-xr.false c.if-xr-self.false

-- and the cell lies in the right map
cell : (c : After-truncating_f32_to_u64-i) →
    let a = c.args in
    a.p / a.self.w * a.self.w + c.truncating_f32_to_u64-i.result < length a.self.cells.now
cell c =
    let a = c.args in
    let row = row_below a.self.w a.self.h a.p c.requires.p_bound in
    let all : a.self.h * a.self.w ≤ length a.self.cells.now = omega (arith, a.self.whole, mul_comm a.self.h a.self.w) in
    cell_in _ _ _ _ _ row (rw c.truncating_f32_to_u64-i.ensures (index (goal.at.After-truncating_f32_to_u64-i c).Else-xr-self).inside) all

pub returns-then-xr : goal.returns-then-xr
unfolding confirms of_bits
returns-then-xr c = elim c.then-xr.branch [
  | then-xr-via-then-xr w ↦ rw (← c.round_half_away-xr.ensures, w.if-xr.true)
  | then-xr-via-else-xr+then-xr-self w ↦ rw (← c.round_half_away-xr.ensures, w.if-xr.false, w.if-xr-self.true)
]

pub truncating_f32_to_u64-i-requires : goal.truncating_f32_to_u64-i-requires
truncating_f32_to_u64-i-requires c = record { lower_bound = (index c).above; upper_bound = (index c).below }

pub overflow_add-p : goal.overflow_add-p
overflow_add-p c = omega (arith, cell c, c.well_formed)

pub offset_bounds-self-p : goal.offset_bounds-self-p
offset_bounds-self-p c = omega (arith, cell c, c.well_formed)

pub bounds-self-p : goal.bounds-self-p
bounds-self-p c = cell (goal.at.bounds-self-p c).After-truncating_f32_to_u64-i

pub returns : goal.returns
unfolding confirms of_bits
returns c =
    rw (c.is_near.ensures, c.from.ensures, c.truncating_f32_to_u64-i.ensures, ← c.round_half_away-xr.ensures, c.if-xr.false, c.if-xr-self.false)
