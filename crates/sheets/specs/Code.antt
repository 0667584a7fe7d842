-- The kinds of a sheet, and the number that stands for a cell in each (docs/SPECIFICATION.md, "Sheets"). Definitions only.
use Rattle.std.specs.Prelude.{ℕ, zero, suc, ◌+◌, ◌*◌, ◌/◌, ◌%◌, ◌^◌, Bool, true, false, cond, not, ◌&&◌, ◌||◌, List, [], ◌∷◌, ℤ, pos, negsuc, ◌==◌, from_bits, nat_lt, to_bits, Float}
use Rattle.std.specs.Float.{nan, inf, fin, binary32}
use Rattle.std.specs.Float.Ieee.{whole, to_signed, of_int}
use Rattle.std.specs.Float.Ieee.Scale.{finite}
use Rattle.sheets.specs.declared.code.Kind.{Kind}
use Rattle.sheets.specs.declared.code.Kind.TheVariants.{Whole, Exact}
use Rattle.sheets.specs.Limits.{is_whole_cell}
use Rattle.refusals.specs.Answered.{Row, row}
use Rattle.refusals.specs.Steps.{Or, is, refused, given}

-- the number of a kind: 0 holds whole disparities, 1 any numbers
abbrev pub kind_number : Kind → ℕ
kind_number Whole = 0
kind_number Exact = 1

-- the kind of a number: 35 where there is none
unfoldable pub kind_of : ℕ → Or Kind
kind_of zero = is Whole
kind_of (suc zero) = is Exact
kind_of (suc (suc n)) = refused 35

-- whether it has one
abbrev pub known_kind : ℕ → Bool
known_kind n = n == 0 || n == 1

-- whole numbers folded: 0, -1, 1, -2 become 0, 1, 2, 3
abbrev pub folded : ℤ → ℕ
folded (pos n) = 2 * n
folded (negsuc n) = 2 * n + 1

-- and back
abbrev pub unfolded : ℕ → ℤ
unfolded m = cond (m % 2 == 0) (pos (m / 2)) (negsuc (m / 2))

-- a finite cell that kind 0 holds: no fraction and not minus zero (`whole` says both), and in the version's range; `to_signed 31` is the cell as an i32
abbrev pub is_whole : Float → Bool
is_whole x = whole binary32 x && is_whole_cell (to_signed 31 x)

-- the number of a cell: 0 is the mark, which every NaN is; an infinity is refused with 31, what kind 0 does not hold with 32
unfoldable pub code_of : Kind → Float → Or ℕ
code_of k nan = is 0
code_of k (inf s) = refused 31
code_of Whole (fin s m e) = given (is_whole (fin s m e)) 32 (1 + folded (to_signed 31 (fin s m e)))
code_of Exact (fin s m e) = is (1 + to_bits binary32 (fin s m e))

-- an infinity
abbrev pub infinite : Float → Bool
infinite nan = false
infinite (inf s) = true
infinite (fin s m e) = false

-- a finite cell that a kind holds: kind 1 all of them
abbrev pub holds : Kind → Float → Bool
holds Whole x = is_whole x
holds Exact x = true

-- a cell's rows: 31 an infinity, 32 a finite cell that the kind does not hold
abbrev pub code_rows : Kind → Float → List Row
code_rows k x = row 31 (infinite x) ∷ row 32 (finite x && not (holds k x)) ∷ []

-- the bits of a finite f32
abbrev pub is_finite_pattern : ℕ → Bool
is_finite_pattern b = nat_lt b (2 ^ 32) && finite (from_bits binary32 b)

-- the cell of a number: 37 where no cell has it
unfoldable pub sheet_cell : Kind → ℕ → Or Float
sheet_cell k zero = is nan
sheet_cell Whole (suc m) = given (is_whole_cell (unfolded m)) 37 (of_int binary32 (unfolded m))
sheet_cell Exact (suc b) = given (is_finite_pattern b) 37 (from_bits binary32 b)
