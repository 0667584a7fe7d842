-- `matching::block::search_of` meets its contract. Assumes nothing.
use mathlib.Core.Path.{◌≡◌, ◌∙◌}
use native.Mathlib.Omega.{arith}
use mir.Syntax.{w32}
use mir.Val.{to_z, of_z}
use mir.ValLaws.{to_z-of_z}
use borrow.Author.Rules.{rules}
use Rattle.matching.proofs.block.search_of.Goals.{Start}
use Rattle.matching.proofs.block.search_of.Goals as goal

-- the count, as the machine reads it back from its bits
back : (z : Start) → to_z w32 (of_z w32 z.args.opts.num_disparities) ≡ z.args.opts.num_disparities
back z = to_z-of_z w32 z.args.opts.num_disparities (search (rules, z.well_formed))

pub overflow_cast-result : goal.overflow_cast-result
overflow_cast-result c = rw (back (goal.at.overflow_cast-result c).Start ∙ c.requires.whole) (tt, omega (arith, c.requires.few))
