-- A file for each number that can be answered of PGM pictures and PFM maps. Definitions only.
use Rattle.std.specs.Prelude.{ℕ, ◌≡◌, List, [], ◌∷◌, ◌++◌}
use Rattle.refusals.specs.Steps.{Or, is, refused}
use Rattle.refusals.specs.Writes.{room_for, byte_count}
use Rattle.netpbm.specs.Outcome.{cells_for, size_of}
use Rattle.netpbm.specs.declared.raster.Size.{Size}
use Rattle.netpbm.specs.Pgm.{read_pgm}
use Rattle.netpbm.specs.Pfm.{pfm_of, read_pfm}
use Rattle.promises.specs.Floats.{one}

-- `P5`, a comment `#c`, a width of one digit, 1 and a maximum of three digits, with LF between them and after them
abbrev pub pgm_header : ℕ → ℕ → ℕ → ℕ → List ℕ
pgm_header w a b c = 80 ∷ 53 ∷ 10 ∷ 35 ∷ 99 ∷ 10 ∷ w ∷ 10 ∷ 49 ∷ 10 ∷ a ∷ b ∷ c ∷ 10 ∷ []

-- width 1, height 1, maximum 255
abbrev pub pgm_one : List ℕ
pgm_one = pgm_header 49 50 53 53

-- `Pf`, a width of one digit and 1, and `-1.0` with another last digit
abbrev pub pfm_header : ℕ → ℕ → ℕ → List ℕ
pfm_header w whole fraction = 80 ∷ 102 ∷ 10 ∷ w ∷ 32 ∷ 49 ∷ 10 ∷ 45 ∷ whole ∷ 46 ∷ fraction ∷ 10 ∷ []

-- the file of the map of one cell, 1
abbrev pub one_map : List ℕ
one_map = pfm_header 49 49 48 ++ (0 ∷ 0 ∷ 128 ∷ 63 ∷ [])

-- what is given back of a picture's bytes, and of a map's
abbrev pub pgm_says : List ℕ → Or Size
pgm_says bytes = size_of (read_pgm bytes)

abbrev pub pfm_says : List ℕ → Or Size
pfm_says bytes = size_of (read_pfm bytes)

pub record FilesReached : Type 0 where
  -- a picture of one level: another magic number, a comment that does not end, a comment after the maximum, a maximum of 254, a width of
  -- 0, a level cut, one left over, and an output of two cells
  pub pgm-41 : pgm_says (80 ∷ 54 ∷ 10 ∷ []) ≡ refused 41
  pub pgm-41-comment : pgm_says (80 ∷ 53 ∷ 35 ∷ 49 ∷ 32 ∷ 49 ∷ 32 ∷ []) ≡ refused 41
  pub pgm-41-late : pgm_says (80 ∷ 53 ∷ 32 ∷ 49 ∷ 32 ∷ 49 ∷ 32 ∷ 50 ∷ 53 ∷ 53 ∷ 35 ∷ 10 ∷ 7 ∷ []) ≡ refused 41
  pub pgm-42 : pgm_says (pgm_header 48 50 53 52 ++ (7 ∷ [])) ≡ refused 42
  pub pgm-43 : pgm_says (pgm_header 48 50 53 53) ≡ refused 43
  pub pgm-44 : pgm_says pgm_one ≡ refused 44
  pub pgm-44-over : pgm_says (pgm_one ++ (7 ∷ 7 ∷ [])) ≡ refused 44
  pub pgm-45 : size_of (cells_for 2 (read_pgm (pgm_one ++ (7 ∷ [])))) ≡ refused 45
  pub pgm-is : size_of (cells_for 1 (read_pgm (pgm_one ++ (7 ∷ [])))) ≡ is (record { width = 1; height = 1 })
  pub pgm-read : read_pgm (pgm_one ++ (7 ∷ [])) ≡ is (record { width = 1; height = 1; cells = 7 ∷ [] })
  -- the map of one cell: a cell too many, and an output of 15 bytes
  pub write-23 : byte_count (pfm_of 1 1 (one ∷ one ∷ [])) ≡ refused 23
  pub write-45 : byte_count (room_for 45 15 (pfm_of 1 1 (one ∷ []))) ≡ refused 45
  pub write-is : byte_count (room_for 45 16 (pfm_of 1 1 (one ∷ []))) ≡ is 16
  pub written : pfm_of 1 1 (one ∷ []) ≡ is one_map
  -- a map of one cell: another first line, a scale of zeros, a width of 0, a cell cut, a byte left over, and an output of two cells
  pub pfm-41 : pfm_says (80 ∷ 70 ∷ 10 ∷ []) ≡ refused 41
  pub pfm-41-scale : pfm_says (pfm_header 49 48 48 ++ (0 ∷ 0 ∷ 128 ∷ 63 ∷ [])) ≡ refused 41
  pub pfm-43 : pfm_says (pfm_header 48 49 48) ≡ refused 43
  pub pfm-44 : pfm_says (pfm_header 49 49 48 ++ (0 ∷ 0 ∷ 128 ∷ [])) ≡ refused 44
  pub pfm-44-over : pfm_says (one_map ++ (0 ∷ [])) ≡ refused 44
  pub pfm-45 : size_of (cells_for 2 (read_pfm one_map)) ≡ refused 45
  pub pfm-is : size_of (cells_for 1 (read_pfm one_map)) ≡ is (record { width = 1; height = 1 })
  pub pfm-read : read_pfm one_map ≡ is (record { width = 1; height = 1; cells = one ∷ [] })
