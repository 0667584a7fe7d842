-- Both sides of every limit: what is just allowed, and what is just not. The lengths of what is lent are numbers, and where a definition would go through a long list
-- the smaller test is asked that it is made of. Definitions only.
use Rattle.std.specs.Prelude.{ℕ, ◌+◌, ◌*◌, ◌≡◌, true, false, List, [], ◌∷◌, ◌++◌, map, ℤ, pos, neg_ℤ, nat_abs, Float}
use Rattle.std.specs.Float.{fin, nan, inf, binary32, binary64}
use Rattle.std.specs.Float.Ieee.{of_bits}
use Rattle.refusals.specs.Steps.{Or, is, refused}
use Rattle.refusals.specs.Writes.{byte_count}
use Rattle.refusals.specs.Given.{number_back}
use Rattle.options.specs.declared.Mode.{Mode}
use Rattle.options.specs.declared.Mode.TheVariants.{Block, SemiGlobal}
use Rattle.calls.specs.declared.Call.{Call}
use Rattle.calls.specs.declared.Output.{Output}
use Rattle.calls.specs.declared.Output.TheVariants.{Volume, Map}
use Rattle.calls.specs.Refusals.{refusal}
use Rattle.refusals.specs.Answered.{first_of}
use Rattle.refusals.specs.Outcome.{answer_for}
use Rattle.pictures.specs.Picture.{level_rows}
use Rattle.maps.specs.declared.Cell.TheVariants.{Mark}
use Rattle.maps.specs.Map.{good_size, inside, cover_rows}
use Rattle.points.specs.declared.Intrinsics.{Intrinsics}
use Rattle.points.specs.Records.{filled_for}
use Rattle.rows.specs.Index.{fresh_refusal, edit_refusal}
use Rattle.sheets.specs.declared.code.Kind.TheVariants.{Whole}
use Rattle.sheets.specs.Sheet.{sheet_of, take_head, read_sheet}
use Rattle.sheets.specs.Given.{said_given}
use Rattle.sheets.specs.Outcome.{size_said}
use Rattle.volume.specs.Metres.{good_coordinate}
use Rattle.volume.specs.Outcome as volume
use Rattle.promises.specs.FileWitnesses.{pgm_says, pfm_says}
use Rattle.promises.specs.Floats.{plus_zero, minus_zero, one, two}

-- minus n
abbrev minus : ℕ → ℤ
minus n = neg_ℤ (pos n)

-- ---- a match

-- a call for pictures w wide and h high with all their bytes: output, mode, first disparity, count, block side, the two penalties, and so many cells lent
abbrev call_of : Output → Mode → ℕ → ℕ → ℤ → ℤ → ℕ → Float → Float → ℕ → ℕ → ℕ → Call
call_of output mode w h first count block p1 p2 out whole float = record {
  output = output;
  left_w = w;
  left_h = h;
  left_bytes = w * h;
  right_w = w;
  right_h = h;
  right_bytes = w * h;
  first = first;
  count = count;
  block = block;
  mode = mode;
  p1 = p1;
  p2 = p2;
  out_len = out;
  whole_len = whole;
  float_len = float;
}

-- a semi-global match whose output and rooms are exactly long enough
abbrev match_of : ℕ → ℕ → ℤ → ℤ → ℕ → Float → Float → Call
match_of w h first count block p1 p2 =
    call_of Map SemiGlobal w h first count block p1 p2 (w * h) (5 * ((w + 1) * (h + 1))) (3 * (nat_abs count * (w * h)) + w * h)

-- 1,024
abbrev largest_penalty : Float
largest_penalty = of_bits binary32 0x44800000

-- the f32 next below zero, minus zero, zero, 1,024, the f32 next above it, infinity and a NaN
abbrev penalties : List Float
penalties =
    of_bits binary32 0x80000001
    ∷ minus_zero
    ∷ plus_zero
    ∷ largest_penalty
    ∷ of_bits binary32 0x44800001
    ∷ inf false
    ∷ nan
    ∷ []

-- the f32 next below 1, 1, and the f32 next above it
abbrev beside_one : List Float
beside_one = of_bits binary32 0x3F7FFFFF ∷ one ∷ of_bits binary32 0x3F800001 ∷ []

-- of pictures 5 wide and 3 high with two disparities: w·h is 15, V is 30
abbrev lending : Output → Mode → ℕ → ℕ → ℕ → Call
lending output mode out whole float = call_of output mode 5 3 (pos 0) (pos 2) 3 one one out whole float

-- ---- a picture

-- what is given back of its first pixel, whose level is 7, for a byte count, a width and a height
abbrev first_pixel : ℕ → ℕ → ℕ → Or ℕ
first_pixel bytes w h = answer_for (first_of (level_rows bytes w h 0 0)) 7

-- ---- points

-- a camera with this baseline
abbrev camera_of : Float → Intrinsics
camera_of baseline = record { fx = one; fy = one; cx = one; cy = one; baseline = baseline }

-- ---- a heap

-- what is given back of a site: 0 where it is accepted
abbrev site_number : ℤ → ℤ → ℤ → ℤ → ℕ → ℤ → ℕ
site_number left right top bottom cell floor =
    number_back (volume.grid_shape (record { left = left; right = right; top = top; bottom = bottom; cell = cell; floor = floor }))

-- of a square that is one cell of that side
abbrev cell_number : ℕ → ℕ
cell_number side = site_number (pos 0) (pos side) (pos 0) (pos side) side (pos 0)

-- of the largest square, from -100,000 to 100,000 mm, one edge or the floor of which is given
abbrev left_number : ℤ → ℕ
left_number z = site_number z (pos 100000) (minus 100000) (pos 100000) 10000 (pos 0)

abbrev right_number : ℤ → ℕ
right_number z = site_number (minus 100000) z (minus 100000) (pos 100000) 10000 (pos 0)

abbrev top_number : ℤ → ℕ
top_number z = site_number (minus 100000) (pos 100000) z (pos 100000) 10000 (pos 0)

abbrev bottom_number : ℤ → ℕ
bottom_number z = site_number (minus 100000) (pos 100000) (minus 100000) z 10000 (pos 0)

abbrev floor_number : ℤ → ℕ
floor_number z = site_number (minus 100000) (pos 100000) (minus 100000) (pos 100000) 10000 z

-- what is given back for a grid of m cells beside a site of two
abbrev grid_number : ℕ → ℕ
grid_number m = number_back (volume.heap_of (record { left = pos 0; right = pos 1000; top = pos 0; bottom = pos 500; cell = 500; floor = pos 0 }) [] [] [] m)

-- ---- files

-- a PGM picture's header, and a PFM map's: the digits of a width and of a height
abbrev pgm_sized : List ℕ → List ℕ → List ℕ
pgm_sized w h = (80 ∷ 53 ∷ 10 ∷ []) ++ w ++ (10 ∷ []) ++ h ++ (10 ∷ 50 ∷ 53 ∷ 53 ∷ 10 ∷ [])

abbrev pfm_sized : List ℕ → List ℕ → List ℕ
pfm_sized w h = (80 ∷ 102 ∷ 10 ∷ []) ++ w ++ (32 ∷ []) ++ h ++ (10 ∷ 45 ∷ 49 ∷ 46 ∷ 48 ∷ 10 ∷ [])

-- 1, 2048 and 2049 in digits
abbrev digits1 : List ℕ
digits1 = 49 ∷ []

abbrev digits2048 : List ℕ
digits2048 = 50 ∷ 48 ∷ 52 ∷ 56 ∷ []

abbrev digits2049 : List ℕ
digits2049 = 50 ∷ 48 ∷ 52 ∷ 57 ∷ []

-- what is given back for the sheet of one cell in kind 0: its byte count
abbrev whole_sheet_cell : Float → Or ℕ
whole_sheet_cell x = byte_count (sheet_of 0 1 1 (x ∷ []))

-- EVERY LIMIT, on both sides
pub record LimitsHeld : Type 0 where
  -- a match: width and height from 1 to 2,048
  pub widths : map (λ w. refusal (match_of w 1 (pos 0) (pos 1) 1 one one)) (0 ∷ 1 ∷ 2048 ∷ 2049 ∷ []) ≡ 1 ∷ 0 ∷ 0 ∷ 1 ∷ []
  pub heights : map (λ h. refusal (match_of 1 h (pos 0) (pos 1) 1 one one)) (0 ∷ 1 ∷ 2048 ∷ 2049 ∷ []) ≡ 1 ∷ 0 ∷ 0 ∷ 1 ∷ []
  pub largest : refusal (match_of 2048 2048 (pos 0) (pos 256) 31 one one) ≡ 0
  -- the block's side: odd, from 1 to 31, and no wider or higher than the pictures
  pub blocks : map (λ b. refusal (match_of 40 40 (pos 0) (pos 1) b one one)) (0 ∷ 1 ∷ 31 ∷ 32 ∷ 33 ∷ []) ≡ 4 ∷ 0 ∷ 0 ∷ 4 ∷ 5 ∷ []
  pub as_wide : map (λ w. refusal (match_of w 40 (pos 0) (pos 1) 31 one one)) (30 ∷ 31 ∷ []) ≡ 8 ∷ 0 ∷ []
  pub as_high : map (λ h. refusal (match_of 40 h (pos 0) (pos 1) 31 one one)) (30 ∷ 31 ∷ []) ≡ 8 ∷ 0 ∷ []
  -- how many disparities: from 1 to 256
  pub counts : map (λ n. refusal (match_of 3 3 (pos 0) n 3 one one)) (minus 1 ∷ pos 0 ∷ pos 1 ∷ pos 256 ∷ pos 257 ∷ []) ≡ 6 ∷ 6 ∷ 0 ∷ 0 ∷ 7 ∷ []
  -- the first disparity: from -4,096 to 4,096
  pub firsts : map (λ z. refusal (match_of 3 3 z (pos 1) 3 one one)) (minus 4097 ∷ minus 4096 ∷ pos 4096 ∷ pos 4097 ∷ []) ≡ 9 ∷ 0 ∷ 0 ∷ 9 ∷ []
  -- either penalty: from 0 to 1,024, and minus zero
  pub penalties-1 : map (λ p. refusal (match_of 3 3 (pos 0) (pos 1) 3 p largest_penalty)) penalties ≡ 10 ∷ 0 ∷ 0 ∷ 0 ∷ 10 ∷ 10 ∷ 10 ∷ []
  pub penalties-2 : map (λ p. refusal (match_of 3 3 (pos 0) (pos 1) 3 plus_zero p)) penalties ≡ 10 ∷ 0 ∷ 0 ∷ 0 ∷ 10 ∷ 10 ∷ 10 ∷ []
  -- p2 at least p1, here 1; and zeros of either sign are equal
  pub penalty-orders : map (λ p. refusal (match_of 3 3 (pos 0) (pos 1) 3 one p)) beside_one ≡ 13 ∷ 0 ∷ 0 ∷ []
  pub zero-orders : map (λ p. refusal (match_of 3 3 (pos 0) (pos 1) 3 p minus_zero)) (minus_zero ∷ plus_zero ∷ []) ≡ 0 ∷ 0 ∷ []
  -- a block map and a raw volume are accepted with p2 below p1
  pub block-order : refusal (call_of Map Block 5 3 (pos 0) (pos 2) 3 two one 15 120 45) ≡ 0
  pub volume-order : refusal (call_of Volume SemiGlobal 5 3 (pos 0) (pos 2) 3 two one 30 120 0) ≡ 0
  -- the output: w·h cells of a map, V of a raw volume
  pub outputs : map (λ n. refusal (lending Map SemiGlobal n 120 105)) (14 ∷ 15 ∷ 16 ∷ []) ≡ 11 ∷ 0 ∷ 11 ∷ []
  pub volumes : map (λ n. refusal (lending Volume Block n 120 0)) (29 ∷ 30 ∷ 31 ∷ []) ≡ 11 ∷ 0 ∷ 11 ∷ []
  -- the whole-number room: 5(w+1)(h+1); the float room: V + w·h in block mode, 3V + w·h in semi-global mode
  pub whole-rooms : map (λ n. refusal (lending Map SemiGlobal 15 n 105)) (119 ∷ 120 ∷ 121 ∷ []) ≡ 12 ∷ 0 ∷ 0 ∷ []
  pub block-rooms : map (λ n. refusal (lending Map Block 15 120 n)) (44 ∷ 45 ∷ 46 ∷ []) ≡ 12 ∷ 0 ∷ 0 ∷ []
  pub semi-rooms : map (λ n. refusal (lending Map SemiGlobal 15 120 n)) (104 ∷ 105 ∷ 106 ∷ []) ≡ 12 ∷ 0 ∷ 0 ∷ []
  -- a picture that is read at a pixel and between pixels: the test of its byte count, width and height, and then the first pixel
  pub picture-widths : map (λ w. first_pixel (w * 2048) w 2048) (0 ∷ 1 ∷ 2048 ∷ 2049 ∷ []) ≡ refused 1 ∷ is 7 ∷ is 7 ∷ refused 1 ∷ []
  pub picture-heights : map (λ h. first_pixel (2048 * h) 2048 h) (0 ∷ 1 ∷ 2048 ∷ 2049 ∷ []) ≡ refused 1 ∷ is 7 ∷ is 7 ∷ refused 1 ∷ []
  pub picture-bytes : map (λ n. first_pixel n 2048 2048) (4194303 ∷ 4194304 ∷ 4194305 ∷ []) ≡ refused 2 ∷ is 7 ∷ refused 2 ∷ []
  -- a map, of which there are points, figures, rows, a sheet and a file: the test of its width, height and cells; and the last pixel of a side
  pub map-widths : map (λ w. good_size w 2048 (w * 2048)) (0 ∷ 1 ∷ 2048 ∷ 2049 ∷ []) ≡ false ∷ true ∷ true ∷ false ∷ []
  pub map-heights : map (λ h. good_size 2048 h (2048 * h)) (0 ∷ 1 ∷ 2048 ∷ 2049 ∷ []) ≡ false ∷ true ∷ true ∷ false ∷ []
  pub map-cells : map (λ n. good_size 2048 2048 n) (4194303 ∷ 4194304 ∷ 4194305 ∷ []) ≡ false ∷ true ∷ false ∷ []
  pub last-column : map (λ x. inside 2048 1 x 0) (2047 ∷ 2048 ∷ []) ≡ true ∷ false ∷ []
  pub last_row : map (λ y. inside 1 2048 0 y) (2047 ∷ 2048 ∷ []) ≡ true ∷ false ∷ []
  -- the cover of a map of 33 by 33 by a block of side 0, 1, 2, 31, 32 and 33; of maps of 30 to 32 columns, or rows, by one of 31
  pub cover-blocks : map (λ block. first_of (cover_rows 33 33 1089 block)) (0 ∷ 1 ∷ 2 ∷ 31 ∷ 32 ∷ 33 ∷ []) ≡ 4 ∷ 0 ∷ 4 ∷ 0 ∷ 4 ∷ 5 ∷ []
  pub cover-widths : map (λ w. first_of (cover_rows w 31 (w * 31) 31)) (30 ∷ 31 ∷ 32 ∷ []) ≡ 8 ∷ 0 ∷ 0 ∷ []
  pub cover-heights : map (λ h. first_of (cover_rows 31 h (31 * h) 31)) (30 ∷ 31 ∷ 32 ∷ []) ≡ 8 ∷ 0 ∷ 0 ∷ []
  -- a row index: one record a row
  pub row-widths : map (λ w. fresh_refusal w 2048 (w * 2048) 2048) (2048 ∷ 2049 ∷ []) ≡ 0 ∷ 23 ∷ []
  pub records : map (λ m. fresh_refusal 2048 2048 4194304 m) (2047 ∷ 2048 ∷ 2049 ∷ []) ≡ 28 ∷ 0 ∷ 28 ∷ []
  pub edits : map (λ x. edit_refusal 2048 2048 4194304 2048 (record { x = x; y = 2047; value = Mark })) (2047 ∷ 2048 ∷ []) ≡ 0 ∷ 26 ∷ []
  -- points: a baseline of 1e-12, and the next f64; a list of no record and of one for one point
  pub baselines : map (λ b. filled_for 1 1 (one ∷ []) (camera_of b) 1) (of_bits binary64 0x3d719799812dea11 ∷ of_bits binary64 0x3d719799812dea12 ∷ [])
      ≡ refused 22 ∷ is 1 ∷ []
  pub lists : map (λ m. filled_for 1 1 (one ∷ []) (camera_of one) m) (0 ∷ 1 ∷ []) ≡ refused 24 ∷ is 1 ∷ []
  -- a sheet's cells in kind 0: -8,193, -8,192, 8,192 and 8,193, written; and the number of 8,192 and the next, read
  pub whole_cells : map whole_sheet_cell (fin true 8193 (pos 0) ∷ fin true 1 (pos 13) ∷ fin false 1 (pos 13) ∷ fin false 8193 (pos 0) ∷ []) ≡ refused 32 ∷ is 7 ∷ is 7 ∷ refused 32 ∷ []
  pub whole-read : read_sheet (1 ∷ 0 ∷ 1 ∷ 1 ∷ 0x81 ∷ 0x80 ∷ 0x01 ∷ []) ≡ is (record { kind = Whole; width = 1; height = 1; cells = fin false 1 (pos 13) ∷ [] })
  pub whole-over : said_given (size_said (read_sheet (1 ∷ 0 ∷ 1 ∷ 1 ∷ 0x82 ∷ 0x80 ∷ 0x01 ∷ []))) ≡ refused 37
  -- a sheet's sides, read: of 2,048 by 2,048 its head alone, for the cells would be many
  pub sheet-sides : take_head (1 ∷ 0 ∷ 0x80 ∷ 16 ∷ 0x80 ∷ 16 ∷ []) ≡ is (record { kind = Whole; width = 2048; height = 2048; rest = [] })
  pub sheet-wide : said_given (size_said (read_sheet (1 ∷ 0 ∷ 0x81 ∷ 16 ∷ 1 ∷ []))) ≡ refused 36
  pub sheet-high : said_given (size_said (read_sheet (1 ∷ 0 ∷ 1 ∷ 0x81 ∷ 16 ∷ []))) ≡ refused 36
  -- a picture's and a map's sides in a file without data: 2,048 is accepted, for then the data is missing, and 2,049 is not
  pub pgm-sides : map pgm_says (pgm_sized digits2048 digits2048 ∷ pgm_sized digits2049 digits1 ∷ pgm_sized digits1 digits2049 ∷ []) ≡ refused 44 ∷ refused 43 ∷ refused 43 ∷ []
  pub pfm-sides : map pfm_says (pfm_sized digits2048 digits2048 ∷ pfm_sized digits2049 digits1 ∷ pfm_sized digits1 digits2049 ∷ []) ≡ refused 44 ∷ refused 43 ∷ refused 43 ∷ []
  -- a heap: the side of a cell, from 10 to 10,000 mm
  pub cell-sides : map cell_number (9 ∷ 10 ∷ 10000 ∷ 10001 ∷ []) ≡ 51 ∷ 0 ∷ 0 ∷ 51 ∷ []
  -- edges and floor, from -100,000 to 100,000 mm
  pub lefts : map left_number (minus 100001 ∷ minus 100000 ∷ []) ≡ 52 ∷ 0 ∷ []
  pub rights : map right_number (pos 100000 ∷ pos 100001 ∷ []) ≡ 0 ∷ 52 ∷ []
  pub tops : map top_number (minus 100001 ∷ minus 100000 ∷ []) ≡ 52 ∷ 0 ∷ []
  pub bottoms : map bottom_number (pos 100000 ∷ pos 100001 ∷ []) ≡ 0 ∷ 52 ∷ []
  pub floors : map floor_number (minus 100001 ∷ minus 100000 ∷ pos 100000 ∷ pos 100001 ∷ []) ≡ 52 ∷ 0 ∷ 0 ∷ 52 ∷ []
  -- a coordinate of 100 m, of 100.0004 m, which is 100,000 mm too, and of 100.0006 m; the test of one coordinate
  pub coordinates : map good_coordinate (of_bits binary64 0x4059000000000000 ∷ of_bits binary64 0x405900068db8bac7 ∷ of_bits binary64 0x40590009d495182b ∷ []) ≡ true ∷ true ∷ false ∷ []
  -- 256 by 256 cells are 65,536; one row more
  pub grids : map (λ bottom. site_number (pos 0) (pos 2560) (pos 0) (pos bottom) 10 (pos 0)) (2560 ∷ 2570 ∷ []) ≡ 0 ∷ 54 ∷ []
  -- the lent grid has as many cells as the site
  pub grid-cells : map grid_number (1 ∷ 2 ∷ 3 ∷ []) ≡ 55 ∷ 0 ∷ 55 ∷ []
