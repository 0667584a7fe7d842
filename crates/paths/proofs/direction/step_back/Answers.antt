-- `paths::direction::step_back` meets its contract. Assumes nothing.
use mathlib.Core.Path.{sym}
use Rattle.paths.proofs.Places.{back_none, back-checked, back-down, back-down-start, unit-none, unit-up, unit-down}
use Rattle.paths.proofs.direction.step_back.Goals as goal

pub returns-then-step-eq0 : goal.returns-then-step-eq0
returns-then-step-eq0 c = sym (back_none c.args.n c.args.x c.args.step (unit-none c.args.step c.requires.0 c.if-step-eq0.true) c.requires.1)

pub returns-then-step-eq1 : goal.returns-then-step-eq1
returns-then-step-eq1 c = back-checked c.args.n c.args.x c.args.step c.checked_sub.result (unit-up c.args.step c.requires.0 c.if-step-eq1.true) c.requires.1 c.checked_sub.ensures

pub returns-then-x-n : goal.returns-then-x-n
returns-then-x-n c = sym (back-down c.args.n c.args.x c.args.step (unit-down c.args.step c.requires.0 c.if-step-eq0.false c.if-step-eq1.false) c.if-x-n.true)

pub returns-else-x-n : goal.returns-else-x-n
returns-else-x-n c = sym (back-down-start c.args.n c.args.x c.args.step (unit-down c.args.step c.requires.0 c.if-step-eq0.false c.if-step-eq1.false) c.if-x-n.false)
