-- The sheet of a map of a kind, as a list of bytes, and what a list of bytes says (docs/SPECIFICATION.md, "Sheets"). Definitions only.
use Rattle.std.specs.Prelude.{ℕ, zero, suc, ◌*◌, cond, not, List, [], ◌∷◌, ◌++◌, length, ◌==◌, Float}
use Rattle.maps.specs.Map.{good_size, size_rows}
use Rattle.sheets.specs.declared.code.Kind.{Kind}
use Rattle.sheets.specs.Limits.{version, is_sheet_side}
use Rattle.refusals.specs.Answered.{Row, row}
use Rattle.refusals.specs.Steps.{Or, is, refused, and_then, given, Taken}
use Rattle.sheets.specs.Number.{number_bytes, take_number}
use Rattle.sheets.specs.Code.{kind_number, kind_of, known_kind, code_of, code_rows, sheet_cell}

-- ---- writing

-- version, kind, width and height
unfoldable pub head_bytes : Kind → ℕ → ℕ → List ℕ
head_bytes k w h = number_bytes version ++ number_bytes (kind_number k) ++ number_bytes w ++ number_bytes h

-- the cells, each by its number; the first that has none is refused
unfoldable pub cells_bytes : Kind → List Float → Or (List ℕ)
cells_bytes k [] = is []
cells_bytes k (x ∷ xs) = and_then (code_of k x) (λ n. and_then (cells_bytes k xs) (λ bytes. is (number_bytes n ++ bytes)))

-- the sheet of a map of a kind
unfoldable pub kind_sheet : Kind → ℕ → ℕ → List Float → Or (List ℕ)
kind_sheet k w h cells = and_then (cells_bytes k cells) (λ bytes. is (head_bytes k w h ++ bytes))

-- the same with the kind given by its number: 23, then 35, then the first bad cell by rows
unfoldable pub sheet_of : ℕ → ℕ → ℕ → List Float → Or (List ℕ)
sheet_of kind w h cells = cond (good_size w h (length cells)) (and_then (kind_of kind) (λ k. kind_sheet k w h cells)) (refused 23)

-- the rows of the cells, one after another
abbrev pub cell_rows : Kind → List Float → List Row
cell_rows k [] = []
cell_rows k (x ∷ xs) = code_rows k x ++ cell_rows k xs

-- the same of a kind that may be unknown, which has none
abbrev pub kind_rows : Or Kind → List Float → List Row
kind_rows (is k) cells = cell_rows k cells
kind_rows (refused n) cells = []

-- the rows of a sheet that is written: its size, 35 its kind, and then those of the cells
abbrev pub sheet_rows : ℕ → ℕ → ℕ → List Float → List Row
sheet_rows kind w h cells = size_rows w h (length cells) ++ row 35 (not (known_kind kind)) ∷ kind_rows (kind_of kind) cells

-- ---- reading

-- what a sheet says
pub record Sheet : Type 0 where
  pub kind : Kind
  pub width : ℕ
  pub height : ℕ
  pub cells : List Float

-- kind, width and height, and the bytes after them
pub record Head : Type 0 where
  pub kind : Kind
  pub width : ℕ
  pub height : ℕ
  pub rest : List ℕ

-- the version at the front: 35 where it is unknown
unfoldable pub take_version : List ℕ → Or Taken
take_version s = and_then (take_number s) (λ t. given (t.number == version) 35 t)

-- a width or a height at the front: 36 where it is outside its range
unfoldable pub take_side : List ℕ → Or Taken
take_side s = and_then (take_number s) (λ t. given (is_sheet_side t.number) 36 t)

-- the sheet's head
unfoldable pub take_head : List ℕ → Or Head
take_head s =
    and_then (take_version s) (λ version.
    and_then (take_number version.rest) (λ kind.
    and_then (kind_of kind.number) (λ k.
    and_then (take_side kind.rest) (λ width.
    and_then (take_side width.rest) (λ height.
    is (record { kind = k; width = width.number; height = height.number; rest = height.rest }))))))

-- a cell, and the bytes after it
pub record TakenCell : Type 0 where
  pub cell : Float
  pub rest : List ℕ

-- the cell at the front
unfoldable pub take_cell : Kind → List ℕ → Or TakenCell
take_cell k s = and_then (take_number s) (λ t. and_then (sheet_cell k t.number) (λ x. is (record { cell = x; rest = t.rest })))

-- n cells, and then no byte more: 38 where there is one
unfoldable pub take_cells : Kind → ℕ → List ℕ → Or (List Float)
take_cells k zero [] = is []
take_cells k zero (b ∷ s) = refused 38
take_cells k (suc n) s = and_then (take_cell k s) (λ t. and_then (take_cells k n t.rest) (λ cells. is (t.cell ∷ cells)))

-- what a head and the cells after it say
abbrev pub sheet_with : Head → List Float → Sheet
sheet_with head cells = record { kind = head.kind; width = head.width; height = head.height; cells = cells }

-- the cells after a head
abbrev pub cells_after_head : Head → Or (List Float)
cells_after_head head = take_cells head.kind (head.width * head.height) head.rest

-- what some bytes say
unfoldable pub read_sheet : List ℕ → Or Sheet
read_sheet s = and_then (take_head s) (λ head. and_then (cells_after_head head) (λ cells. is (sheet_with head cells)))
