-- What the calls answer, and what they leave in what is lent. A refusal changes nothing (docs/SPECIFICATION.md, "Sheets"). Definitions only.
use Rattle.std.specs.Prelude.{◌≡◌, ℕ, ◌*◌, List, length, ◌==◌, Result, Float}
use Rattle.refusals.specs.declared.Refusal.{Refusal}
use Rattle.sheets.specs.declared.reading.SheetSize.{SheetSize}
use Rattle.refusals.specs.Steps.{Or, is, refused, and_then, given}
use Rattle.refusals.specs.Given.{given_back, value_after}
use Rattle.sheets.specs.Sheet.{Sheet}

-- ---- reading

-- 11 where the output of m cells is not as long as the map
abbrev pub cells_for : ℕ → Or Sheet → Or Sheet
cells_for m sheet = and_then sheet (λ d. given (m == d.width * d.height) 11 d)

-- the answer: kind, width and height
abbrev pub size_said : Or Sheet → Or SheetSize
size_said (is d) = is (record { kind = d.kind; width = d.width; height = d.height })
size_said (refused n) = refused n

-- the output afterwards: the cells
abbrev pub cells_after : Or Sheet → List Float → List Float
cells_after sheet out = value_after (and_then sheet (λ d. is d.cells)) out

-- what a call of `read_sheet` does, for what the bytes say or their refusal
pub record ReadOutcome (answer : Result SheetSize Refusal) (sheet : Or Sheet) (out out' : List Float) : Type 0 where
  pub answers : given_back answer ≡ size_said (cells_for (length out) sheet)
  pub outs : out' ≡ cells_after (cells_for (length out) sheet) out
