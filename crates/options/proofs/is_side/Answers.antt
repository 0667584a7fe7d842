-- `options::is_side` meets its contract. Assumes nothing.
use borrow.Author.Tests.{le-leb, lt-leb}
use Rattle.options.proofs.is_side.Goals as goal

pub returns-then-n-lt1 : goal.returns-then-n-lt1
returns-then-n-lt1 c = rw (lt-leb 1 c.args.n c.if-n-lt1.true)

pub returns : goal.returns
returns c = rw (le-leb 1 c.args.n c.if-n-lt1.false)
