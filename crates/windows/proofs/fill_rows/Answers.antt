-- `windows::fill_rows` meets its contract: the table's rows, one after the other. Assumes nothing.
use Rattle.windows.proofs.Tables.{first-row, table-start, table-ready, rows-even, table-again, table_done}
use Rattle.windows.proofs.fill_rows.Goals as goal

pub loop-y-init : goal.loop-y-init
loop-y-init g c = table-start _ _ _ _ _ c.requires.1.0.2 (rw (first-row _ _ _ c.requires.1.0.2) at (c.fill.ensures.after (λ y e. e)))

pub fill_row-requires-clause-takes : goal.fill_row-requires-clause-takes
fill_row-requires-clause-takes g c =
    let sizes = c.requires.1.0 in let i = c.loop-y.invariant in
    c.requires.1.1.1.takes _ _ _ c.loop-y-test.true
    (table-ready _ _ _ c.requires.1.1.0 _ sizes.0 sizes.1 _ _ i c.loop-y-test.true)
    (rows-even _ _ _ c.requires.1.1.0 _ sizes.0 sizes.1 _ _ i c.loop-y-test.true)

pub loop-y-preserved : goal.loop-y-preserved
loop-y-preserved g c =
    let sizes = c.requires.1.0 in
    let made = c.fill_row.ensures in
    table-again _ _ _ c.requires.1.1.0 _ sizes.0 sizes.1 _ _ c.loop-y.invariant c.loop-y-test.true
    _ made.0 made.2 (c.requires.1.1.1.fills _ _ _ _ c.loop-y-test.true made.1)

pub returns : goal.returns
returns g c = table_done _ _ _ _ _ _ c.loop-y.invariant c.loop-y-test.false
