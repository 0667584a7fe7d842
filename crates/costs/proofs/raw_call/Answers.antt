-- `costs::raw_call` meets its contract. Assumes nothing.
use mathlib.Core.Path.{◌≡◌}
use lib.Ieee.{of_bits}
use mir.Syntax.{w32}
use mir.Val.{to_z, of_z}
use mir.ValLaws.{to_z-of_z}
use borrow.Author.Rules.{rules}
use Rattle.costs.proofs.raw_call.Goals.{Start}
use Rattle.costs.proofs.raw_call.Goals as goal

-- the two signed numbers, as the machine reads them back from their bits
back-first : (z : Start) → to_z w32 (of_z w32 z.args.opts.min_disparity) ≡ z.args.opts.min_disparity
back-first z = to_z-of_z w32 z.args.opts.min_disparity (search (rules, z.well_formed))

back_count : (z : Start) → to_z w32 (of_z w32 z.args.opts.num_disparities) ≡ z.args.opts.num_disparities
back_count z = to_z-of_z w32 z.args.opts.num_disparities (search (rules, z.well_formed))

pub returns : goal.returns
unfolding of_bits
returns c = rw (back-first (goal.at.returns c).Start, back_count (goal.at.returns c).Start)
