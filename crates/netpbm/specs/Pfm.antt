-- The PFM file of a map, and what bytes say as one (docs/SPECIFICATION.md, "PFM"). Definitions only.
use Rattle.std.specs.Prelude.{ℕ, zero, suc, ◌+◌, ◌*◌, ◌≡◌, true, false, cond, ◌||◌, List, [], ◌∷◌, ◌++◌, length, take, drop, ltb, Float}
use Rattle.std.specs.Float.{nan, inf, fin, binary32}
use Rattle.std.specs.Float.Ieee.{is_nan, to_bits, of_bits}
use Rattle.std.specs.Float.Ieee.Scale.{finite}
use Rattle.lists.specs.Rows.{bottom_up}
use Rattle.refusals.specs.Answered.{first_of}
use Rattle.refusals.specs.Outcome.{answer_for}
use Rattle.refusals.specs.Steps.{Or, is, and_then, given, Taken}
use Rattle.texts.specs.Digits.{decimal_text}
use Rattle.maps.specs.Map.{size_rows}
use Rattle.netpbm.specs.declared.order.Order.{Order}
use Rattle.netpbm.specs.declared.order.Order.TheVariants.{Little, Big}
use Rattle.netpbm.specs.Header.{starts_with, take_word, take_number, take_ended}
use Rattle.netpbm.specs.Order.{four_bytes_of, four_pattern}
use Rattle.netpbm.specs.Raster.{Raster, sized}

-- the first line, `Pf` and LF
abbrev pub pfm_magic : List ℕ
pfm_magic = 80 ∷ 102 ∷ 10 ∷ []

-- a space, LF, minus, plus and point
abbrev pub space : List ℕ
space = 32 ∷ []

abbrev pub line_end : List ℕ
line_end = 10 ∷ []

abbrev pub minus : List ℕ
minus = 45 ∷ []

abbrev pub plus : List ℕ
plus = 43 ∷ []

abbrev pub point : List ℕ
point = 46 ∷ []

-- ---- writing

-- a blank cell, which every NaN is, is written as plus infinity; every other cell is written as it is
abbrev pub outward : Float → Float
outward nan = inf false
outward (inf s) = inf s
outward (fin s m e) = fin s m e

-- a cell's four bytes
unfoldable pub cell_bytes : Order → Float → List ℕ
cell_bytes o x = four_bytes_of o (to_bits binary32 (outward x))

-- the bytes of some cells
unfoldable pub cells_bytes : Order → List Float → List ℕ
cells_bytes o [] = []
cells_bytes o (x ∷ xs) = cell_bytes o x ++ cells_bytes o xs

-- the scale's line as it is written, `-1.0` and LF
abbrev pub scale_line : List ℕ
scale_line = 45 ∷ 49 ∷ 46 ∷ 48 ∷ 10 ∷ []

-- three lines: `Pf`; width, one space, height; the scale
unfoldable pub pfm_head : ℕ → ℕ → List ℕ
pfm_head w h = pfm_magic ++ decimal_text w ++ space ++ decimal_text h ++ line_end ++ scale_line

-- the file of a map, refused as its size is; the bottom row comes first
unfoldable pub pfm_of : ℕ → ℕ → List Float → Or (List ℕ)
pfm_of w h cells = answer_for (first_of (size_rows w h (length cells))) (pfm_head w h ++ cells_bytes Little (bottom_up w h cells))

-- ---- reading

-- the order that a scale's sign says, and the bytes after it
pub record Scale : Type 0 where
  pub order : Order
  pub rest : List ℕ

-- an optional sign: a minus is little-endian, a plus or none big-endian
unfoldable pub take_sign : List ℕ → Scale
take_sign s =
    cond (starts_with minus s) (record { order = Little; rest = drop 1 s })
    (cond (starts_with plus s) (record { order = Big; rest = drop 1 s }) (record { order = Big; rest = s }))

-- perhaps a point with digits; without one the fraction is 0
unfoldable pub take_fraction : List ℕ → Or Taken
take_fraction s = cond (starts_with point s) (take_number (drop 1 s)) (is (record { number = 0; rest = s }))

-- the scale's line: an optional sign, digits and perhaps a point with digits, not all of them zero, and LF
unfoldable pub take_scale : List ℕ → Or Scale
take_scale s =
    and_then (take_number (take_sign s).rest) (λ whole.
    and_then (take_fraction whole.rest) (λ fraction.
    and_then (given (ltb 0 (whole.number + fraction.number)) 41 fraction) (λ fraction.
    and_then (take_word line_end fraction.rest) (λ rest.
    is (record { order = (take_sign s).order; rest = rest })))))

-- order, width and height, and the bytes after the header
pub record PfmHead : Type 0 where
  pub order : Order
  pub width : ℕ
  pub height : ℕ
  pub rest : List ℕ

-- the three lines
unfoldable pub take_pfm_head : List ℕ → Or PfmHead
take_pfm_head s =
    and_then (take_word pfm_magic s) (λ a.
    and_then (take_ended space a) (λ width.
    and_then (take_ended line_end width.rest) (λ height.
    and_then (take_scale height.rest) (λ scale.
    is (record { order = scale.order; width = width.number; height = height.number; rest = scale.rest })))))

-- a cell that is not finite is read as the mark, which is a NaN; every other cell is read as it is
abbrev pub inward : Float → Float
inward x = cond (finite x) x nan

-- the cell that four bytes are
unfoldable pub file_cell : Order → List ℕ → Float
file_cell o bytes = inward (of_bits binary32 (four_pattern o bytes))

-- the first n cells of some bytes
unfoldable pub file_cells : Order → ℕ → List ℕ → List Float
file_cells o zero s = []
file_cells o (suc n) s = file_cell o (take 4 s) ∷ file_cells o n (drop 4 s)

-- what some bytes say: 41, then 43 and 44; the bottom row comes first
unfoldable pub read_pfm : List ℕ → Or (Raster Float)
read_pfm s =
    and_then (take_pfm_head s) (λ head.
    and_then (sized 4 head.width head.height head.rest) (λ bytes.
    is (record { width = head.width; height = head.height; cells = bottom_up head.width head.height (file_cells head.order (head.width * head.height) bytes) })))

-- no cell is an infinity
abbrev pub NoInfinity : List Float → Type 0
NoInfinity [] = Unit {0}
NoInfinity (x ∷ xs) = (finite x || is_nan x ≡ true) × NoInfinity xs
