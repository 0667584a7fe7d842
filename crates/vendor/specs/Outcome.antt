-- The outcome of a check (docs/SPECIFICATION.md, "Vendor's map"). Definitions only.
use Rattle.std.specs.Prelude.{ℕ, ◌≡◌, not, ◌&&◌, Result, List, [], ◌∷◌, ◌++◌, length, eqb, ltb, Float}
use Rattle.lists.specs.Lists.{cleared}
use Rattle.options.specs.declared.BlockMatchOptions.{BlockMatchOptions}
use Rattle.calls.specs.declared.Call.{Call}
use Rattle.refusals.specs.Answered.{Row, row, first_of}
use Rattle.refusals.specs.Outcome.{answer_for, after}
use Rattle.refusals.specs.Steps.{Or}
use Rattle.refusals.specs.Given.{given_back}
use Rattle.refusals.specs.declared.Refusal.{Refusal}
use Rattle.calls.specs.Refusals.{pair_rows, area, whole_cells_of}
use Rattle.costs.specs.Outcome.{raw_call}
use Rattle.vendor.specs.declared.Verdict.{Verdict}
use Rattle.vendor.specs.Verdict.{check_of, verdict_of}

-- what is asked for and lent: as for a raw volume, with no output
abbrev pub vendor_call : List ℕ → ℕ → ℕ → List ℕ → ℕ → ℕ → BlockMatchOptions → ℕ → Call
vendor_call left w h right w' h' o roomLength = raw_call left w h right w' h' o 0 roomLength

-- 23 a map of n cells, so wide and so high, isn't of the pictures' size; 12 the whole-number room is too short
unfoldable pub map_rows : Call → ℕ → ℕ → ℕ → List Row
map_rows q w h n =
    row 23 (not (eqb w q.left_w && eqb h q.left_h && eqb n (area q)))
    ∷ row 12 (ltb q.whole_len (whole_cells_of q))
    ∷ []

-- the rows of a check: 1 to 9 in their order, then these
abbrev pub check_rows : Call → ℕ → ℕ → ℕ → List Row
check_rows q w h n = pair_rows q ++ map_rows q w h n

-- THE REFUSAL of a check: the number of the first row that applies, 0 for none
unfoldable pub vendor_refusal : Call → ℕ → ℕ → ℕ → ℕ
vendor_refusal q w h n = first_of (check_rows q w h n)

-- THE ANSWER of a check of a map w wide and h high: the verdict, or the refusal's number
abbrev pub verdict_for : Call → BlockMatchOptions → List ℕ → List ℕ → ℕ → ℕ → List Float → Or Verdict
verdict_for q o left right w h map = answer_for (vendor_refusal q w h (length map)) (verdict_of (check_of q.left_w q.left_h o) left right map)

-- THE OUTCOME of a check of a map w wide and h high: the verdict, and the room, zero in the cells that were needed; or the refusal's number, and the room as it was
pub record CheckOutcome (answer : Result Verdict Refusal) (q : Call) (o : BlockMatchOptions) (left right : List ℕ) (w h : ℕ) (map : List Float) (room room' : List ℕ) : Type 0 where
  pub answers : given_back answer ≡ verdict_for q o left right w h map
  pub rooms : room' ≡ after (vendor_refusal q w h (length map)) (cleared 0 (whole_cells_of q) room) room
