-- `windows::add_run` meets its contract: after i turns the part's first i cells are filled. Assumes nothing.
use Rattle.std.proofs.Common.{◌≡◌, ◌+◌, ◌++◌, get_or, drop}
use Rattle.lists.specs.Lists.{list_of}
use Rattle.windows.proofs.add_run.Given as goal

abbrev pub invariant-loop-i : goal.invariant-loop-i
invariant-loop-i l = l.below ≡ list_of l.i (λ k. get_or l.above k 0 + l.run) ++ drop l.i l.initial.below
