-- `calls::is_penalty` meets its contract. Assumes nothing.
use lib.Ieee.{of_bits}
use Rattle.calls.proofs.is_penalty.Goals as goal

pub returns-then-p : goal.returns-then-p
unfolding of_bits
returns-then-p c = rw c.if-p.true
