-- `holes::open_plane` meets its contract: before pixel p the first p cells are done. Assumes nothing.
use Rattle.std.proofs.Common.{◌≡◌, ℕ, List, ◌++◌, get_or, drop}
use lib.Ieee.{Float, nan}
use Rattle.lists.specs.Lists.{list_of}
use Rattle.options.specs.Costs.{raw_of}
use Rattle.maps.specs.Cells.{in_buffer, cell_of}
use Rattle.holes.specs.Holes.{opened_by}
use Rattle.holes.proofs.open_plane.Given as goal

-- what `out` holds at each pixel
abbrev pub at-pixel : List Float → List Float → ℕ → Float
at-pixel before plane p = in_buffer (opened_by (raw_of (get_or plane p nan)) (cell_of (get_or before p nan)))

abbrev pub invariant-loop-p : goal.invariant-loop-p
invariant-loop-p l = l.out ≡ list_of l.p (at-pixel l.initial.out l.plane) ++ drop l.p l.initial.out
