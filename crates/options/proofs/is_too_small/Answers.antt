-- `options::is_too_small` meets its contract: across, and then down. Assumes nothing.
use borrow.Author.Tests.{lt-ltb, le-ltb}
use Rattle.options.proofs.is_too_small.Goals as goal

pub returns-then-w-block : goal.returns-then-w-block
returns-then-w-block c = rw (lt-ltb _ _ c.if-w-block.true)

pub returns-else-w-block : goal.returns-else-w-block
returns-else-w-block c = rw (le-ltb _ _ c.if-w-block.false)
