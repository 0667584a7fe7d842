-- `windows::fill_squares` meets its contract: a picture's products with itself are its squares. Assumes nothing.
use mathlib.Core.Path.{ap, ◌∙◌}
use Rattle.windows.specs.Table.{table_of}
use Rattle.windows.proofs.Shifts.{cross-self}
use Rattle.windows.proofs.fill_squares.Goals as goal

pub returns : goal.returns
returns c =
    let args = c.args in
    c.fill_cross.ensures ∙ ap (table_of args.w args.h) (cross-self args.w args.pic.now)
