-- `paths::pixel::add_path` meets its contract: after k turns the first k sums are made, and the others are as they were. Assumes nothing.
use Rattle.std.proofs.Common.{◌≡◌, ◌≤◌, ℕ, get_or}
use Rattle.std.specs.Float.{nan}
use Rattle.paths.specs.Path.{add_vec}
use Rattle.paths.proofs.Blocks.{Begun}
use Rattle.paths.proofs.pixel.add_path.Given as goal

abbrev pub invariant-loop-k : goal.invariant-loop-k
invariant-loop-k l = Begun (add_vec l.initial.sums l.path) l.sums l.k × ((i : ℕ) → l.k ≤ i → get_or l.sums i nan ≡ get_or l.initial.sums i nan)
