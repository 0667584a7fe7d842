-- Every refusal of a row index is reached, by computing. Assumes nothing.
use mathlib.Core.Path.{refl}
use lib.Ieee.{lt}
use Rattle.refusals.specs.Answered.{first_of}
use Rattle.lists.specs.Lists.{list_of}
use Rattle.maps.specs.Map.{good_size, inside, widen}
use Rattle.rows.specs.Index.{fresh_index}
use Rattle.rows.specs.Runs.{run}
use Rattle.promises.specs.RowWitnesses.{RowsReached}

-- THEOREM: every number of a row index is answered for some map, index and edit, and four indexes are worked out
pub rows-reached : RowsReached
unfolding first_of lt list_of good_size inside widen fresh_index run
rows-reached = record {
  of-23 = refl;
  of-28 = refl;
  edit-23 = refl;
  edit-26 = refl;
  edit-26-down = refl;
  edit-28 = refl;
  accepted = refl;
  indexed = refl;
  blanked = refl;
  emptied = refl;
  filled = refl;
  range_none = refl;
  range-is = refl;
}
