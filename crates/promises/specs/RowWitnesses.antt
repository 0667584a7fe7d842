-- A map, an index and an edit for each number that can be answered of a row index. Definitions only.
use Rattle.std.specs.Prelude.{Some, None, ℕ, ◌≡◌, true, false, List, [], ◌∷◌, Float}
use Rattle.std.specs.Float.{nan, inf}
use Rattle.maps.specs.declared.Cell.{Cell}
use Rattle.maps.specs.declared.Cell.TheVariants.{Mark, At}
use Rattle.rows.specs.declared.RowRecord.{RowRecord}
use Rattle.rows.specs.declared.Edit.{Edit}
use Rattle.rows.specs.Index.{range_in, fresh_index, fresh_refusal, edit_refusal}
use Rattle.rows.specs.Runs.{fresh, run}
use Rattle.promises.specs.Floats.{minus_one, two, five}

-- 3 wide and 2 high: 2, blank and 5; infinity, which is not valid, minus 1 and minus 1
abbrev pub six_cells : List Float
six_cells = two ∷ nan ∷ five ∷ inf false ∷ minus_one ∷ minus_one ∷ []

-- a row's record
abbrev pub row_is : ℕ → Float → Float → RowRecord
row_is n least greatest = record { count = n; least = least; greatest = greatest }

-- the edit of a pixel
abbrev pub at : ℕ → ℕ → Cell → Edit
at x y value = record { x = x; y = y; value = value }

pub record RowsReached : Type 0 where
  -- a fresh index of two records: beside seven cells, and beside a map of three rows
  pub of-23 : fresh_refusal 3 2 7 2 ≡ 23
  pub of-28 : fresh_refusal 2 3 6 2 ≡ 28
  -- an edit that is unfit in three ways, in two, in one
  pub edit-23 : edit_refusal 3 2 7 1 (at 3 2 Mark) ≡ 23
  pub edit-26 : edit_refusal 3 2 6 1 (at 3 1 Mark) ≡ 26
  pub edit-26-down : edit_refusal 3 2 6 2 (at 0 2 Mark) ≡ 26
  pub edit-28 : edit_refusal 3 2 6 3 (at 2 1 Mark) ≡ 28
  -- the index of the map
  pub accepted : fresh_refusal 3 2 6 2 ≡ 0
  pub indexed : fresh_index 3 2 six_cells ≡ row_is 2 two five ∷ row_is 2 minus_one minus_one ∷ []
  -- the least of the first row is blanked, and then its last valid cell; a blank cell gets a number, and a number is made infinite
  pub blanked : (run 3 2 (fresh 3 2 six_cells) (at 0 0 Mark ∷ [])).index ≡ row_is 1 five five ∷ row_is 2 minus_one minus_one ∷ []
  pub emptied : (run 3 2 (fresh 3 2 six_cells) (at 0 0 Mark ∷ at 2 0 Mark ∷ [])).index ≡ row_is 0 nan nan ∷ row_is 2 minus_one minus_one ∷ []
  pub filled : (run 3 2 (fresh 3 2 six_cells) (at 1 0 (At minus_one) ∷ at 1 1 (At (inf true)) ∷ [])).index ≡ row_is 3 minus_one five ∷ row_is 1 minus_one minus_one ∷ []
  -- the range that a record holds: none where no cell is valid
  pub range_none : range_in (row_is 0 nan nan) ≡ None
  pub range-is : range_in (row_is 2 two five) ≡ Some (record { least = two; greatest = five })
