-- What the table leaves of a call that it does not refuse (docs/SPECIFICATION.md, "Numbers given back"). Definitions only.
use Rattle.std.specs.Prelude.{◌*◌, ◌/◌, ◌≤◌, ◌<◌, ◌≡◌, false, not, ◌&&◌, pos, nat_abs}
use Rattle.std.specs.Float.Ieee.{lt}
use Rattle.options.specs.Limits.{side_most, block_most, most_count, first_most, is_penalty}
use Rattle.calls.specs.declared.Call.{Call}
use Rattle.calls.specs.Refusals.{by_paths, out_cells_of, whole_cells_of, float_cells}

-- rows 1 to 9: two pictures of one size that holds the block, and a search within its limits
pub record Sizes (q : Call) : Type 0 where
  pub w-least : 1 ≤ q.left_w
  pub w-most : q.left_w ≤ side_most
  pub h-least : 1 ≤ q.left_h
  pub h-most : q.left_h ≤ side_most
  pub left-bytes : q.left_bytes ≡ q.left_w * q.left_h
  pub right-bytes : q.right_bytes ≡ q.left_w * q.left_h
  pub r-most : q.block / 2 ≤ block_most / 2
  pub across : 2 * (q.block / 2) < q.left_w
  pub down : 2 * (q.block / 2) < q.left_h
  pub whole : q.count ≡ pos (nat_abs q.count)
  pub some : 1 ≤ nat_abs q.count
  pub few : nat_abs q.count ≤ most_count
  pub close : nat_abs q.first ≤ first_most

-- all rows: penalties in their range and p2 not below p1, where they are read, and what is lent is long enough
pub record Accepted (q : Call) : Type 0 where
  pub sizes : Sizes q
  pub penalties : by_paths q.output q.mode && not (is_penalty q.p1 && is_penalty q.p2) ≡ false
  pub ordered : by_paths q.output q.mode && lt q.p2 q.p1 ≡ false
  pub out-cells : q.out_len ≡ out_cells_of q q.output
  pub whole_cells : whole_cells_of q ≤ q.whole_len
  pub float-cells : float_cells q q.output ≤ q.float_len
