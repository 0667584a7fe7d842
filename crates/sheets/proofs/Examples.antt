-- Two sheets, written and read by the definitions. Assumes nothing.
use Rattle.std.proofs.Common.{◌≡◌, ℕ, true, false, List, [], ◌∷◌, pos, refl}
use lib.Ieee.{Float, nan, fin, whole, to_signed, of_int, to_bits, of_bits, of_fields, round, size, climb, span, units, odd}
use Rattle.maps.specs.Map.{good_size}
use Rattle.sheets.specs.declared.code.Kind.TheVariants.{Whole, Exact}
use Rattle.refusals.specs.Steps.{is}
use Rattle.sheets.specs.Number.{groups, number_bytes, take_groups, take_number}
use Rattle.sheets.specs.Code.{kind_of, code_of, sheet_cell}
use Rattle.sheets.specs.Sheet.{head_bytes, cells_bytes, kind_sheet, sheet_of, take_version, take_side, take_head, take_cell, take_cells, read_sheet}

-- kind 0, two rows of two cells: the mark and 4, -1 and 0
abbrev whole_cells_of : List Float
whole_cells_of = nan ∷ fin false 1 (pos 2) ∷ fin true 1 (pos 0) ∷ fin false 0 (pos 0) ∷ []

abbrev whole_bytes : List ℕ
whole_bytes = 0x01 ∷ 0x00 ∷ 0x02 ∷ 0x02 ∷ 0x00 ∷ 0x09 ∷ 0x02 ∷ 0x01 ∷ []

pub whole-written : sheet_of 0 2 2 whole_cells_of ≡ is whole_bytes
unfolding sheet_of kind_sheet head_bytes cells_bytes number_bytes groups kind_of code_of good_size whole to_signed
whole-written = refl

pub whole-read : read_sheet whole_bytes ≡ is (record { kind = Whole; width = 2; height = 2; cells = whole_cells_of })
unfolding read_sheet take_head take_version take_side take_cells take_cell take_number take_groups kind_of sheet_cell of_int round size climb span units odd
whole-read = refl

-- kind 1, a row of three: 1, minus zero and the mark; 1's bits are 3F800000, minus zero's 80000000
abbrev exact_cells : List Float
exact_cells = fin false 1 (pos 0) ∷ fin true 0 (pos 0) ∷ nan ∷ []

abbrev exact_bytes : List ℕ
exact_bytes = 0x01 ∷ 0x01 ∷ 0x03 ∷ 0x01 ∷ 0x81 ∷ 0x80 ∷ 0x80 ∷ 0xfc ∷ 0x03 ∷ 0x81 ∷ 0x80 ∷ 0x80 ∷ 0x80 ∷ 0x08 ∷ 0x00 ∷ []

pub exact-written : sheet_of 1 3 1 exact_cells ≡ is exact_bytes
unfolding sheet_of kind_sheet head_bytes cells_bytes number_bytes groups kind_of code_of good_size to_bits size climb span
exact-written = refl

pub exact_read : read_sheet exact_bytes ≡ is (record { kind = Exact; width = 3; height = 1; cells = exact_cells })
unfolding read_sheet take_head take_version take_side take_cells take_cell take_number take_groups kind_of sheet_cell of_bits of_fields odd
exact_read = refl
