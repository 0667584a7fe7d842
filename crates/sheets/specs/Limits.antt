-- What version 1 of the sheet holds (docs/SPECIFICATION.md, "Sheets"). Definitions only.
use Rattle.std.specs.Prelude.{ℕ, Bool, ◌&&◌, ℤ, nat_le, unsigned_abs}

-- the version
abbrev pub version : ℕ
version = 1

-- the largest width and height
abbrev pub sheet_side_most : ℕ
sheet_side_most = 2048

-- a width or a height: from 1 to that
abbrev pub is_sheet_side : ℕ → Bool
is_sheet_side n = nat_le 1 n && nat_le n sheet_side_most

-- the largest whole disparity of kind 0
abbrev pub whole_most : ℕ
whole_most = 8192

-- a whole disparity of kind 0: from that below zero to that above
abbrev pub is_whole_cell : ℤ → Bool
is_whole_cell z = nat_le (unsigned_abs z) whole_most
