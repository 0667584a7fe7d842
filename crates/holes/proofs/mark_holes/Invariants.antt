-- `holes::mark_holes` meets its contract: before index k each pixel is what the first k raw costs make it. Assumes nothing.
use Rattle.std.proofs.Common.{◌≡◌}
use Rattle.lists.specs.Lists.{list_of}
use Rattle.maps.specs.Cells.{in_buffer}
use Rattle.holes.specs.Holes.{open_at}
use Rattle.holes.proofs.mark_holes.Given as goal

abbrev pub invariant-loop-k : goal.invariant-loop-k
invariant-loop-k l = l.out ≡ list_of l.area (λ p. in_buffer (open_at l.raw l.area l.k p))
