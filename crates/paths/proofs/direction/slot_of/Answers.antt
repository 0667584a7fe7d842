-- `paths::direction::slot_of` meets its contract. Assumes nothing.
use mathlib.Core.Path.{sym}
use Rattle.paths.proofs.Slots.{slot_at}
use Rattle.paths.proofs.direction.slot_of.Goals as goal

pub returns : goal.returns
returns c = sym (slot_at c.args.w c.args.x c.args.y c.requires.0)
