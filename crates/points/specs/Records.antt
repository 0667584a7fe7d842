-- What the list of points holds, from the list of a map's cells, and what `points` answers and leaves
-- (docs/SPECIFICATION.md, "Points"). Definitions only.
use Rattle.std.specs.Prelude.{ℕ, suc, ◌/◌, ◌%◌, ◌≡◌, not, cond, Result, List, [], ◌∷◌, ◌++◌, length, drop, ltb, count_by, Float}
use Rattle.numbers.specs.Operators.{float}
use Rattle.refusals.specs.Answered.{Row, row, first_of}
use Rattle.refusals.specs.declared.Refusal.{Refusal}
use Rattle.refusals.specs.Steps.{Or}
use Rattle.refusals.specs.Given.{given_back}
use Rattle.refusals.specs.Outcome.{answer_for, after}
use Rattle.maps.specs.Map.{good_size}
use Rattle.points.specs.declared.Intrinsics.{Intrinsics}
use Rattle.points.specs.declared.PointRecord.{PointRecord}
use Rattle.points.specs.Point.{point_at, is_positive, good_camera, good_baseline}

-- how many cells give a point: the valid positive ones
abbrev pub points_in : List Float → ℕ
points_in cells = count_by is_positive cells

-- the record of the cell at i of a map w wide, the number d: the point of its pixel (i % w, i / w), the pixel, and the disparity
unfoldable pub point_record : ℕ → Intrinsics → ℕ → Float → PointRecord
point_record w k i d =
    let p = point_at k (float (i % w)) (float (i / w)) d in
    record { x = p.x; y = p.y; z = p.z; column = i % w; row = i / w; disparity = d }

-- the records of the cells that give a point, in their order; i is the first cell's place in the map
unfoldable pub records_from : ℕ → Intrinsics → ℕ → List Float → List PointRecord
records_from w k i [] = []
records_from w k i (c ∷ cs) = cond (is_positive c) (point_record w k i c ∷ records_from w k (suc i) cs) (records_from w k (suc i) cs)

-- of the points of a map, for a list of m records: 21 the camera, 22 the baseline, 23 the map's size, 24 the list is shorter than the points
abbrev pub point_rows : ℕ → ℕ → List Float → Intrinsics → ℕ → List Row
point_rows w h cells k m =
    row 21 (not (good_camera k))
    ∷ row 22 (not (good_baseline k))
    ∷ row 23 (not (good_size w h (length cells)))
    ∷ row 24 (ltb m (points_in cells))
    ∷ []

-- the answer for a list of m records: how many are written
unfoldable pub filled_for : ℕ → ℕ → List Float → Intrinsics → ℕ → Or ℕ
filled_for w h cells k m = answer_for (first_of (point_rows w h cells k m)) (points_in cells)

-- the list afterwards: the records, and beyond them what was there
unfoldable pub list_after : ℕ → ℕ → List Float → Intrinsics → List PointRecord → List PointRecord
list_after w h cells k list = after (first_of (point_rows w h cells k (length list))) (records_from w k 0 cells ++ drop (points_in cells) list) list

-- THE OUTCOME of the points of a map: the answer r, and the list afterwards
pub record PointsOutcome (r : Result ℕ Refusal) (w h : ℕ) (cells : List Float) (k : Intrinsics) (list list' : List PointRecord) : Type 0 where
  pub answer : given_back r ≡ filled_for w h cells k (length list)
  pub lists : list' ≡ list_after w h cells k list
