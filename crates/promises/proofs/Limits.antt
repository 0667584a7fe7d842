-- Both sides of every limit, by computing. Assumes nothing.
use mathlib.Core.Path.{refl}
use lib.Ieee.{mul, div, round, size, climb, span, units, odd, lt, le, is_nan, of_int, of_bits, of_fields, whole, to_signed}
use Rattle.numbers.specs.Away.{rounded_away}
use Rattle.lists.specs.Lists.{list_of}
use Rattle.lists.specs.Sums.{sum_to}
use Rattle.refusals.specs.Answered.{first_of}
use Rattle.calls.specs.Refusals.{picture_rows, search_rows, penalty_rows, out_rows, room_rows, table, refusal}
use Rattle.maps.specs.Map.{good_size, inside}
use Rattle.points.specs.Point.{is_positive, good_camera, good_baseline}
use Rattle.points.specs.Records.{filled_for}
use Rattle.sheets.specs.Number.{groups, number_bytes, take_groups, take_number}
use Rattle.sheets.specs.Code.{kind_of, code_of, sheet_cell}
use Rattle.sheets.specs.Sheet.{head_bytes, cells_bytes, kind_sheet, sheet_of, take_version, take_side, take_head, take_cell, take_cells, read_sheet}
use Rattle.netpbm.specs.Header.{starts_with, take_word, take_white, after_blanks, take_blanks, digits_of, take_number as takeDigits, take_spaced, take_ended}
use Rattle.netpbm.specs.Raster.{sized}
use Rattle.netpbm.specs.Pgm.{take_pgm_head, read_pgm}
use Rattle.netpbm.specs.Pfm.{take_sign, take_fraction, take_scale, take_pfm_head, read_pfm}
use Rattle.volume.specs.Metres.{millimetres, good_coordinate, all_good, good_points, spots_of}
use Rattle.volume.specs.Rectangle.{above, good_cell, near_site, multiple, good_sides}
use Rattle.volume.specs.Heights.{is_between, is_inside, falls_in, height_of, height_at, is_empty, inside_count, outside_count, grid_of, empty_count, volume_of, figures_of}
use Rattle.volume.specs.Outcome.{grid_shape, heap_of}
use Rattle.promises.specs.LimitWitnesses.{LimitsHeld}

-- THEOREM: what is just allowed is accepted, and what is just not is refused with its number
pub limits-held : LimitsHeld
unfolding mul div round size climb span units odd lt le is_nan of_int of_bits of_fields whole to_signed rounded_away list_of sum_to first_of picture_rows search_rows penalty_rows out_rows room_rows table refusal good_size inside is_positive good_camera good_baseline filled_for groups number_bytes take_groups take_number kind_of code_of sheet_cell head_bytes cells_bytes kind_sheet sheet_of take_version take_side take_head take_cell take_cells read_sheet starts_with take_word take_white after_blanks take_blanks digits_of takeDigits take_spaced take_ended sized take_pgm_head read_pgm take_sign take_fraction take_scale take_pfm_head read_pfm millimetres good_coordinate all_good good_points spots_of above good_cell near_site multiple good_sides is_between is_inside falls_in height_of height_at is_empty inside_count outside_count grid_of empty_count volume_of figures_of grid_shape heap_of
limits-held = record {
  widths = refl;
  heights = refl;
  largest = refl;
  blocks = refl;
  as_wide = refl;
  as_high = refl;
  counts = refl;
  firsts = refl;
  penalties-1 = refl;
  penalties-2 = refl;
  penalty-orders = refl;
  zero-orders = refl;
  block-order = refl;
  volume-order = refl;
  outputs = refl;
  volumes = refl;
  whole-rooms = refl;
  block-rooms = refl;
  semi-rooms = refl;
  picture-widths = refl;
  picture-heights = refl;
  picture-bytes = refl;
  map-widths = refl;
  map-heights = refl;
  map-cells = refl;
  last-column = refl;
  last_row = refl;
  cover-blocks = refl;
  cover-widths = refl;
  cover-heights = refl;
  row-widths = refl;
  records = refl;
  edits = refl;
  baselines = refl;
  lists = refl;
  whole_cells = refl;
  whole-read = refl;
  whole-over = refl;
  sheet-sides = refl;
  sheet-wide = refl;
  sheet-high = refl;
  pgm-sides = refl;
  pfm-sides = refl;
  cell-sides = refl;
  lefts = refl;
  rights = refl;
  tops = refl;
  bottoms = refl;
  floors = refl;
  coordinates = refl;
  grids = refl;
  grid-cells = refl;
}
