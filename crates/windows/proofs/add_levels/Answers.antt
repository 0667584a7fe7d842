-- `windows::add_levels` meets its contract: all the row's cells but the last, and then that. Assumes nothing.
use Rattle.std.proofs.Common.{rules, arith, length}
use lib.Seq.{length-take-le}
use Rattle.lists.proofs.Sums.{sum_to-bound}
use Rattle.windows.specs.Table.{level_in}
use Rattle.windows.proofs.Rows.{row_last}
use Rattle.windows.proofs.add_levels.Goals as goal

pub overflow_add-below : goal.overflow_add-below
overflow_add-below c =
    let w = length c.args.levels.now in
    let told = c.add_values-run.ensures (level_in c.args.levels.now) (λ i v l e. search rules) in
    let total = rw (length-take-le w c.args.above.now (omega arith)) at told.0 in
    omega (arith, total, c.requires.0.room w, sum_to-bound 255 w (level_in c.args.levels.now) (λ i _. omega (arith, c.type_inv.levels i)))

pub returns : goal.returns
returns c =
    let w = length c.args.levels.now in
    let told = c.add_values-run.ensures (level_in c.args.levels.now) (λ i v l e. search rules) in
    row_last w _ c.args.above.now c.args.below.now _ _ c.requires.0.size c.requires.1 told.1
    (rw (length-take-le w c.args.above.now (omega arith)) at told.0)
