-- `paths::direction::Walk::is_forward` meets its contract. Assumes nothing.
use Rattle.paths.proofs.Places.{forward-level, forward-row, unit-none}
use Rattle.paths.proofs.direction.Walk.is_forward.Goals as goal

pub returns-then-self-eq0 : goal.returns-then-self-eq0
returns-then-self-eq0 c =
    let k = c.args.self in
    forward-level k.dx k.dy c.requires.column (unit-none k.dy c.requires.row c.if-self-eq0.true)

pub returns-else-self-eq0 : goal.returns-else-self-eq0
returns-else-self-eq0 c =
    let k = c.args.self in
    forward-row k.dx k.dy c.requires.row c.if-self-eq0.false
