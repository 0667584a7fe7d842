-- `windows::add_run` meets its contract: after i turns the part's first i cells are filled. Assumes nothing.
use Rattle.std.proofs.Common.{refl, ◌∙◌, arith}
use Rattle.lists.specs.Lists.{list_of}
use Rattle.lists.proofs.Lists.{filled_next, filled-end}
use Rattle.windows.specs.Parts.{sums_below}
use Rattle.windows.proofs.add_run.Goals as goal

pub loop-i-init : goal.loop-i-init
unfolding list_of
loop-i-init c = refl

pub loop-i-preserved : goal.loop-i-preserved
loop-i-preserved c = rw c.loop-i.invariant (filled_next c.loop-i.i _ _ _ (omega arith) refl)

pub returns : goal.returns
unfolding sums_below
returns c = c.loop-i.invariant ∙ filled-end _ _ _ _ (omega arith) c.requires.0.same
