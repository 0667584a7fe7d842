-- `paths::direction::Walk::previous` meets its contract: one step back on the line and on the column, and the slot there. Assumes nothing.
use mathlib.Core.Path.{sym, ap, ◌∙◌}
use native.Mathlib.Omega.{arith}
use Rattle.std.specs.Prelude.{Some}
use Rattle.paths.specs.Walk.{slot_in}
use Rattle.paths.proofs.Places.{off-column, off-row, on-both, on-column, on-picture}
use Rattle.paths.proofs.direction.Walk.previous.Goals as goal

pub returns-in_err-column : goal.returns-in_err-column
returns-in_err-column c =
    let a = c.args in
    c.from_residual.ensures ∙ sym (ap (slot_in a.self.w) (off-column a.self c.requires.0 a.x a.y c.requires.1 (c.in_err-column.ensures)))

pub returns-in_err-row : goal.returns-in_err-row
returns-in_err-row c =
    let a = c.args in
    c.from_residual-in_err-row.ensures ∙ sym (ap (slot_in a.self.w) (off-row a.self c.requires.0 a.x a.y c.requires.1 c.in_ok-column.column (c.in_ok-column.ensures) (c.in_err-row.ensures)))

pub slot_of-requires : goal.slot_of-requires
slot_of-requires c =
    let a = c.args in
    let x = c.in_ok-column.column in
    let y = c.in_ok-row.row in (
      on-column a.self c.requires.0 a.x a.y c.requires.1 x y (c.in_ok-column.ensures) (c.in_ok-row.ensures),
      omega (arith, on-picture a.self c.requires.0 a.x a.y c.requires.1 x y (c.in_ok-column.ensures) (c.in_ok-row.ensures), c.requires.3),
    )

pub returns : goal.returns
returns c =
    let a = c.args in
    ap Some c.slot_of.ensures
    ∙ sym (ap (slot_in a.self.w) (on-both a.self c.requires.0 a.x a.y c.requires.1 c.in_ok-column.column c.in_ok-row.row (c.in_ok-column.ensures) (c.in_ok-row.ensures)))
