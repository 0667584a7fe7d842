-- What the functions inside answer, as the steps of the definitions. Definitions only.
use Rattle.std.specs.Prelude.{ℕ, List, Result, Ok, Err, Float}
use Rattle.std.specs.Borrow.{Bor}
use Rattle.refusals.specs.declared.Refusal.{Refusal}
use Rattle.refusals.specs.Numbers.{number_of}
use Rattle.refusals.specs.Steps.{Or, is, refused, and_then, Taken}
use Rattle.sheets.specs.declared.reading.SheetSize.{SheetSize}
use Rattle.sheets.specs.Sheet.{Head, TakenCell, take_head, cells_after_head}

-- what stood at the front of some bytes, and the bytes after it: a number
abbrev pub number_read : Result (ℕ × Bor (List ℕ)) Refusal → Or Taken
number_read (Ok p) = is (record { number = p.0; rest = p.1.now })
number_read (Err e) = refused (number_of e)

-- a cell
abbrev pub cell_read : Result (Float × Bor (List ℕ)) Refusal → Or TakenCell
cell_read (Ok p) = is (record { cell = p.0; rest = p.1.now })
cell_read (Err e) = refused (number_of e)

-- a head
abbrev pub head_read : Result (SheetSize × Bor (List ℕ)) Refusal → Or Head
head_read (Ok p) = is (record { kind = p.0.kind; width = p.0.width; height = p.0.height; rest = p.1.now })
head_read (Err e) = refused (number_of e)

-- a head whose cells are none of them refused
abbrev pub checked_head : List ℕ → Or Head
checked_head s = and_then (take_head s) (λ head. and_then (cells_after_head head) (λ cells. is head))

-- whether all of some cells were fine
abbrev pub looked_at : Or (List Float) → Or Unit
looked_at (is cells) = is tt
looked_at (refused n) = refused n
