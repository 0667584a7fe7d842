-- The index while it is written: the first y records are those of the rows, the others are as they were. Assumes nothing.
use mathlib.Core.Path.{◌≡◌, refl}
use Prim.Native.Nat.{ℕ, ◌+◌, ◌*◌, ◌≤◌, ◌<◌}
use native.Mathlib.Nat.{mul_comm}
use native.Mathlib.Omega.{arith}
use mathlib.Core.List.{List, ◌++◌}
use lib.ListN.{length, drop, set}
use lib.Ieee.{Float}
use Rattle.lists.specs.Lists.{list_of}
use Rattle.lists.specs.Rows.{row_of}
use Rattle.lists.proofs.Lists.{filled_next, filled-end}
use Rattle.lists.proofs.Rows.{row_in}
use Rattle.rows.specs.declared.RowRecord.{RowRecord}
use Rattle.rows.specs.Index.{row_record_of, fresh_index}
use Rattle.rows.proofs.Accepted.{Fits}

module _ (w : ℕ) (cells : List Float) (index : List RowRecord) where
  abbrev record-at : ℕ → RowRecord
  record-at y = row_record_of (row_of w cells y)

  -- y records are written
  abbrev pub upto : ℕ → List RowRecord
  upto y = list_of y record-at ++ drop y index

  pub none_yet : index ≡ upto 0
  unfolding list_of
  none_yet = refl

  pub one_more : (y : ℕ) (v : RowRecord) → y < length index → v ≡ record-at y → set (upto y) y v ≡ upto (y + 1)
  one_more y v l e = filled_next y record-at index v l e

  module _ (h : ℕ) (f : Fits w h (length cells) (length index)) where
    -- each row is there
    pub row-there : (y : ℕ) → y < length index → y * w + w ≤ length cells
    row-there y l = row_in y h w (length cells) (omega (arith, f.long)) (omega (arith, f.size.long, mul_comm w h))

    -- all of them are written
    pub all_written : (y : ℕ) → y ≡ length index → upto y ≡ fresh_index w h cells
    unfolding fresh_index
    all_written y e = filled-end y h record-at index (omega (arith, f.long)) f.long
