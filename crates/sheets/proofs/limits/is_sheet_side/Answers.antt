-- `sheets::limits::is_sheet_side` meets its contract. Assumes nothing.
use Rattle.std.proofs.Common.{le-leb}
use borrow.Author.Tests.{lt-leb}
use Rattle.sheets.proofs.limits.is_sheet_side.Goals as goal

pub returns-then-n-lt1 : goal.returns-then-n-lt1
returns-then-n-lt1 c = rw (lt-leb 1 c.args.n c.if-n-lt1.true)

pub returns : goal.returns
returns c = rw (le-leb 1 c.args.n c.if-n-lt1.false)
