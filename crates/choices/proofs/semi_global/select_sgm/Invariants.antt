-- `choices::semi_global::select_sgm` meets its contract: before pixel p the first p cells are the map's. Assumes nothing.
use Rattle.std.proofs.Common.{◌≡◌, ℕ, List, ◌++◌, drop}
use lib.Ieee.{Float}
use Rattle.choices.specs.declared.subpixel.Search.{Search}
use Rattle.choices.specs.SemiGlobal.{semi_cell}
use Rattle.maps.specs.Cells.{in_buffer}
use Rattle.lists.specs.Lists.{list_of}
use Rattle.choices.proofs.semi_global.select_sgm.Given as goal

-- what `out` holds at each pixel
abbrev pub at-pixel : List Float → ℕ → ℕ → ℕ → Search → ℕ → Float
at-pixel sums w h r search p = in_buffer (semi_cell w h r search sums p)

abbrev pub invariant-loop-p : goal.invariant-loop-p
invariant-loop-p l = l.out ≡ list_of l.p (at-pixel l.sums l.w l.h l.r l.search) ++ drop l.p l.initial.out
