-- What hosts are given of a sheet (docs/SPECIFICATION.md, "Numbers given back"). Definitions only.
use Rattle.std.specs.Prelude.{ℕ}
use Rattle.refusals.specs.Steps.{Or, is, and_then}
use Rattle.sheets.specs.declared.reading.SheetSize.{SheetSize}
use Rattle.sheets.specs.Code.{kind_number}

-- what a sheet is: its kind's number, width and height
pub record SheetIs : Type 0 where
  pub kind : ℕ
  pub width : ℕ
  pub height : ℕ

-- of a sheet that is read: what it is, or the number of the refusal
abbrev pub said_given : Or SheetSize → Or SheetIs
said_given answer = and_then answer (λ size. is (record { kind = kind_number size.kind; width = size.width; height = size.height }))
