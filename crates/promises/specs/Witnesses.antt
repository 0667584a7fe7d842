-- A call for each number that can be answered. Definitions only.
use Rattle.std.specs.Prelude.{ℕ, ◌≡◌, true, false, List, [], ◌∷◌, map, Some, None, ℤ, pos, negsuc, Float}
use Rattle.std.specs.Float.{nan, inf, fin}
use Rattle.options.specs.declared.Mode.{Mode}
use Rattle.options.specs.declared.Mode.TheVariants.{SemiGlobal}
use Rattle.calls.specs.declared.Call.{Call}
use Rattle.calls.specs.declared.Output.TheVariants.{Map}
use Rattle.calls.specs.Refusals.{refusal}
use Rattle.pictures.specs.Picture.{pixel_of}
use Rattle.pictures.specs.Bilinear.{sample_of}
use Rattle.maps.specs.declared.Cell.TheVariants as cell
use Rattle.maps.specs.Map.{got_at, valid_at, valid_count, valid_range, cover_of}
use Rattle.points.specs.declared.Intrinsics.{Intrinsics}
use Rattle.points.specs.Point.{point_of}
use Rattle.points.specs.Records.{filled_for}
use Rattle.sheets.specs.declared.code.Kind.TheVariants.{Whole}
use Rattle.refusals.specs.Steps.{Or, is, refused}
use Rattle.sheets.specs.Sheet.{sheet_of, read_sheet}
use Rattle.refusals.specs.Writes.{room_for, byte_count}
use Rattle.sheets.specs.Outcome.{cells_for, size_said}
use Rattle.sheets.specs.Given.{SheetIs, said_given}
use Rattle.promises.specs.Floats.{plus_zero, minus_zero, one, two}

-- a match of a left picture w wide and 3 high with so many bytes and a right one likewise, the first disparity, count, block side and
-- mode, a penalty, and the lengths of the output and of the whole-number room; penalty p2 is 1, and the float room has 105 cells
abbrev match_of : ℕ → ℕ → ℕ → ℕ → ℤ → ℤ → ℕ → Mode → Float → ℕ → ℕ → Call
match_of w bytes w' bytes' first count block mode p1 out whole = record {
  output = Map;
  left_w = w;
  left_h = 3;
  left_bytes = bytes;
  right_w = w';
  right_h = 3;
  right_bytes = bytes';
  first = first;
  count = count;
  block = block;
  mode = mode;
  p1 = p1;
  p2 = one;
  out_len = out;
  whole_len = whole;
  float_len = 105;
}

-- one that is accepted, and then one for each row of the table, which differs from the first in what its row names
abbrev pub calls : List Call
calls =
    match_of 5 15 5 15 (pos 0) (pos 2) 3 SemiGlobal one 15 120
    ∷ match_of 0 0 5 15 (pos 0) (pos 2) 3 SemiGlobal one 15 120
    ∷ match_of 5 14 5 15 (pos 0) (pos 2) 3 SemiGlobal one 15 120
    ∷ match_of 5 15 4 12 (pos 0) (pos 2) 3 SemiGlobal one 15 120
    ∷ match_of 5 15 5 15 (pos 0) (pos 2) 2 SemiGlobal one 15 120
    ∷ match_of 5 15 5 15 (pos 0) (pos 2) 33 SemiGlobal one 15 120
    ∷ match_of 5 15 5 15 (pos 0) (negsuc 0) 3 SemiGlobal one 15 120
    ∷ match_of 5 15 5 15 (pos 0) (pos 257) 3 SemiGlobal one 15 120
    ∷ match_of 5 15 5 15 (pos 0) (pos 2) 5 SemiGlobal one 15 120
    ∷ match_of 5 15 5 15 (negsuc 4096) (pos 2) 3 SemiGlobal one 15 120
    ∷ match_of 5 15 5 15 (pos 0) (pos 2) 3 SemiGlobal nan 15 120
    ∷ match_of 5 15 5 15 (pos 0) (pos 2) 3 SemiGlobal two 15 120
    ∷ match_of 5 15 5 15 (pos 0) (pos 2) 3 SemiGlobal one 14 120
    ∷ match_of 5 15 5 15 (pos 0) (pos 2) 3 SemiGlobal one 15 119
    ∷ []

-- a map of 3 by 3 cells: eight round one
abbrev ringed : Float → Float → List Float
ringed ring centre = ring ∷ ring ∷ ring ∷ ring ∷ centre ∷ ring ∷ ring ∷ ring ∷ ring ∷ []

-- a camera with this fx and baseline; fy 1, cx and cy 0
abbrev camera_of : Float → Float → Intrinsics
camera_of fx baseline = record { fx = fx; fy = one; cx = plus_zero; cy = plus_zero; baseline = baseline }

-- the sheet of one cell, 1, in kind 0
abbrev one_sheet : List ℕ
one_sheet = 1 ∷ 0 ∷ 1 ∷ 1 ∷ 3 ∷ []

-- what is given back of a sheet's bytes
abbrev sheet_says : List ℕ → Or SheetIs
sheet_says bytes = said_given (size_said (read_sheet bytes))

-- EVERY NUMBER is given back for some call
pub record Reached : Type 0 where
  -- a match: 0, and the table's numbers in its order
  pub matches : map refusal calls ≡ 0 ∷ 1 ∷ 2 ∷ 3 ∷ 4 ∷ 5 ∷ 6 ∷ 7 ∷ 8 ∷ 9 ∷ 10 ∷ 13 ∷ 11 ∷ 12 ∷ []
  -- 13 where 11 and 12 apply too, penalty p1 being 2; 10 where all three do, p1 being infinite
  pub match-13 : refusal (match_of 5 15 5 15 (pos 0) (pos 2) 3 SemiGlobal two 14 119) ≡ 13
  pub match-10 : refusal (match_of 5 15 5 15 (pos 0) (pos 2) 3 SemiGlobal (inf false) 14 119) ≡ 10
  -- the picture of one byte: a width 0, a byte too many, a coordinate that is a NaN, and a pixel outside
  pub pixel-1 : pixel_of (7 ∷ []) 0 1 0 0 ≡ refused 1
  pub pixel-2 : pixel_of (7 ∷ 7 ∷ []) 1 1 0 0 ≡ refused 2
  pub pixel-26 : pixel_of (7 ∷ []) 1 1 1 0 ≡ refused 26
  pub pixel-at : pixel_of (7 ∷ []) 1 1 0 0 ≡ is 7
  pub bilinear-1 : sample_of (7 ∷ []) 0 1 one one ≡ refused 1
  pub bilinear-2 : sample_of (7 ∷ 7 ∷ []) 1 1 one one ≡ refused 2
  pub bilinear-25 : sample_of (7 ∷ []) 1 1 nan one ≡ refused 25
  pub bilinear-at : sample_of (7 ∷ []) 1 1 one one ≡ is (fin false 7 (pos 0))
  -- the map of one cell: a cell too many, and a pixel outside
  pub get-23 : got_at 1 1 (one ∷ one ∷ []) 0 0 ≡ refused 23
  pub get-26 : got_at 1 1 (one ∷ []) 0 1 ≡ refused 26
  pub get-mark : got_at 1 1 (nan ∷ []) 0 0 ≡ is cell.Mark
  pub get_at : got_at 1 1 (one ∷ []) 0 0 ≡ is (cell.At one)
  pub valid-23 : valid_at 1 1 (one ∷ one ∷ []) 0 0 ≡ refused 23
  pub valid-26 : valid_at 1 1 (one ∷ []) 0 1 ≡ refused 26
  pub valid-is : valid_at 1 1 (one ∷ []) 0 0 ≡ is true
  pub valid-count-23 : valid_count 1 1 (one ∷ one ∷ []) ≡ refused 23
  pub valid-count-is : valid_count 2 1 (one ∷ nan ∷ []) ≡ is 1
  pub valid-range-23 : valid_range 1 1 (one ∷ one ∷ []) ≡ refused 23
  pub valid-range-none : valid_range 1 1 (nan ∷ []) ≡ is None
  pub valid-range-is : valid_range 1 1 (one ∷ []) ≡ is (Some (record { least = one; greatest = one }))
  -- the cover: a cell too many, where 4, 5 and 8 apply too; a side of 34, where 5 and 8 do, and one of 0; of 33, where 8 does; a block of 3
  -- by a map of one cell, and by one that is wide enough but too low
  pub cover-23 : cover_of 1 1 (one ∷ one ∷ []) 34 ≡ refused 23
  pub cover-4 : cover_of 1 1 (one ∷ []) 34 ≡ refused 4
  pub cover-4-none : cover_of 1 1 (one ∷ []) 0 ≡ refused 4
  pub cover-5 : cover_of 1 1 (one ∷ []) 33 ≡ refused 5
  pub cover-8 : cover_of 1 1 (one ∷ []) 3 ≡ refused 8
  pub cover-8-low : cover_of 3 1 (one ∷ one ∷ one ∷ []) 3 ≡ refused 8
  -- two of three cells, rounded down; a frame of valid cells round a hole, and a valid cell in a frame of holes
  pub cover-is : cover_of 3 1 (one ∷ one ∷ nan ∷ []) 1 ≡ is 666
  pub cover-none : cover_of 3 3 (ringed one nan) 3 ≡ is 0
  pub cover_all : cover_of 3 3 (ringed nan one) 3 ≡ is 1000
  -- the point of a disparity 0 and of 1 at (1, 1)
  pub point-none : point_of (camera_of one one) one one plus_zero ≡ None
  pub point-is : point_of (camera_of one one) one one one ≡ Some (record { x = one; y = one; z = one })
  -- the points of one cell: fx a NaN, a baseline of 0, a cell too many, and a list without room
  pub points-21 : filled_for 1 1 (one ∷ []) (camera_of nan one) 1 ≡ refused 21
  pub points-22 : filled_for 1 1 (one ∷ []) (camera_of one plus_zero) 1 ≡ refused 22
  pub points-23 : filled_for 1 1 (one ∷ one ∷ []) (camera_of one one) 1 ≡ refused 23
  pub points-24 : filled_for 1 1 (one ∷ []) (camera_of one one) 0 ≡ refused 24
  pub points-is : filled_for 1 1 (one ∷ []) (camera_of one one) 1 ≡ is 1
  -- the sheet of one cell, 1: a cell too many, a kind 2, a cell that is infinite, minus zero in kind 0, and an output of 4 bytes
  pub write-23 : byte_count (sheet_of 0 1 1 (one ∷ one ∷ [])) ≡ refused 23
  pub write-35 : byte_count (sheet_of 2 1 1 (one ∷ [])) ≡ refused 35
  pub write-31 : byte_count (sheet_of 1 1 1 (inf true ∷ [])) ≡ refused 31
  pub write-32 : byte_count (sheet_of 0 1 1 (minus_zero ∷ [])) ≡ refused 32
  pub write-33 : byte_count (room_for 33 4 (sheet_of 0 1 1 (one ∷ []))) ≡ refused 33
  pub write-is : byte_count (room_for 33 5 (sheet_of 0 1 1 (one ∷ []))) ≡ is 5
  pub written : sheet_of 0 1 1 (one ∷ []) ≡ is one_sheet
  -- bytes that say nothing: a number that is cut, one not shortest, one of six groups, a version 2, a kind 2, a width 0, a cell's number
  -- one too large, and a byte left over; and an output of two cells
  pub read-34 : sheet_says (0x81 ∷ []) ≡ refused 34
  pub read-34-long : sheet_says (0x81 ∷ 0x00 ∷ []) ≡ refused 34
  pub read-34-over : sheet_says (0x81 ∷ 0x80 ∷ 0x80 ∷ 0x80 ∷ 0x80 ∷ 0x01 ∷ []) ≡ refused 34
  pub read-35 : sheet_says (2 ∷ []) ≡ refused 35
  pub read-35-kind : sheet_says (1 ∷ 2 ∷ []) ≡ refused 35
  pub read-36 : sheet_says (1 ∷ 0 ∷ 0 ∷ []) ≡ refused 36
  pub read-37 : sheet_says (1 ∷ 0 ∷ 1 ∷ 1 ∷ 0x82 ∷ 0x80 ∷ 0x01 ∷ []) ≡ refused 37
  pub read-38 : sheet_says (1 ∷ 0 ∷ 1 ∷ 1 ∷ 3 ∷ 0 ∷ []) ≡ refused 38
  pub read-11 : said_given (size_said (cells_for 2 (read_sheet one_sheet))) ≡ refused 11
  pub read_is : said_given (size_said (cells_for 1 (read_sheet one_sheet))) ≡ is (record { kind = 0; width = 1; height = 1 })
  pub cells-read : read_sheet one_sheet ≡ is (record { kind = Whole; width = 1; height = 1; cells = one ∷ [] })
