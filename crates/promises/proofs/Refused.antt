-- THE NUMBERS GIVEN BACK: each comes for its stated reason only, and for that always where no row before it applies. Assumes nothing.
use Prim.Native.Nat.{ℕ, ◌<◌}
use mathlib.Core.Path.{◌≡◌, refl}
use mathlib.Core.Logic.{◌↔◌}
use mathlib.Core.List.{[], ◌∷◌, map}
use lib.Ieee.{mul, div, sum, add, sub, neg, of_int, round, size, climb, span, units, odd, lt, le, eq, is_nan, of_bits, of_fields, to_unsigned, whole, to_signed}
use Rattle.lists.specs.Sums.{sum_to, count_below}
use Rattle.calls.specs.declared.Call.{Call}
use Rattle.refusals.specs.Answered.{first_of, FirstIs, NoneApplies}
use Rattle.refusals.proofs.Answering.{answered, answered-none}
use Rattle.calls.specs.Refusals.{picture_rows, search_rows, penalty_rows, out_rows, room_rows, table, refusal}
use Rattle.calls.proofs.Rows.{table-numbered}
use Rattle.pictures.specs.Picture.{pixel_of}
use Rattle.pictures.specs.Bilinear.{clamped, place_of, blended, value_at, sample_of}
use Rattle.maps.specs.Map.{good_size, inside, got_at, valid_at, valid_count, widen, valid_range, inner_valids, cover_of}
use Rattle.points.specs.Point.{is_positive, point_of, good_camera, good_baseline}
use Rattle.points.specs.Records.{filled_for}
use Rattle.sheets.specs.Number.{groups, number_bytes, take_groups, take_number}
use Rattle.sheets.specs.Code.{kind_of, code_of, sheet_cell}
use Rattle.sheets.specs.Sheet.{head_bytes, cells_bytes, kind_sheet, sheet_of, take_version, take_side, take_head, take_cell, take_cells, read_sheet}
use Rattle.promises.specs.Witnesses.{Reached}

-- ---- the table of docs/SPECIFICATION.md
module _ (q : Call) where
  -- THEOREM: its rows have these numbers, in this order: 13 stands straight after 10
  pub table-numbers : map (λ r. r.number) (table q) ≡ 1 ∷ 2 ∷ 3 ∷ 4 ∷ 5 ∷ 6 ∷ 7 ∷ 8 ∷ 9 ∷ 10 ∷ 13 ∷ 11 ∷ 12 ∷ []
  unfolding table picture_rows search_rows penalty_rows out_rows room_rows
  table-numbers = refl

  -- THEOREM: a call is refused with n exactly when row n applies and no row that stands before it does
  pub refused-with : (n : ℕ) → 0 < n → (refusal q ≡ n) ↔ FirstIs (table q) n
  unfolding refusal
  refused-with = answered (table q)

  -- THEOREM: a call is accepted exactly when no row applies
  pub accepted-when : (refusal q ≡ 0) ↔ NoneApplies (table q)
  unfolding refusal
  accepted-when = answered-none (table q) (table-numbered q)

-- THEOREM: every number is answered for some call
pub reached : Reached
unfolding refusal table first_of picture_rows search_rows penalty_rows out_rows room_rows pixel_of sample_of value_at place_of clamped blended got_at valid_at valid_count widen valid_range inner_valids count_below sum_to cover_of point_of good_size inside filled_for good_camera good_baseline is_positive mul div sum add sub neg of_int round size climb span units odd lt le eq is_nan of_bits of_fields to_unsigned sheet_of kind_sheet head_bytes cells_bytes number_bytes groups kind_of code_of sheet_cell whole to_signed read_sheet take_head take_version take_side take_cells take_cell take_number take_groups
reached = record {
  matches = refl;
  match-13 = refl;
  match-10 = refl;
  pixel-1 = refl;
  pixel-2 = refl;
  pixel-26 = refl;
  pixel-at = refl;
  bilinear-1 = refl;
  bilinear-2 = refl;
  bilinear-25 = refl;
  bilinear-at = refl;
  get-23 = refl;
  get-26 = refl;
  get-mark = refl;
  get_at = refl;
  valid-23 = refl;
  valid-26 = refl;
  valid-is = refl;
  valid-count-23 = refl;
  valid-count-is = refl;
  valid-range-23 = refl;
  valid-range-none = refl;
  valid-range-is = refl;
  cover-23 = refl;
  cover-4 = refl;
  cover-4-none = refl;
  cover-5 = refl;
  cover-8 = refl;
  cover-8-low = refl;
  cover-is = refl;
  cover-none = refl;
  cover_all = refl;
  point-none = refl;
  point-is = refl;
  points-21 = refl;
  points-22 = refl;
  points-23 = refl;
  points-24 = refl;
  points-is = refl;
  write-23 = refl;
  write-35 = refl;
  write-31 = refl;
  write-32 = refl;
  write-33 = refl;
  write-is = refl;
  written = refl;
  read-34 = refl;
  read-34-long = refl;
  read-34-over = refl;
  read-35 = refl;
  read-35-kind = refl;
  read-36 = refl;
  read-37 = refl;
  read-38 = refl;
  read-11 = refl;
  read_is = refl;
  cells-read = refl;
}
