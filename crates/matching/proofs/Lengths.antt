-- How long a raw volume is. Assumes nothing.
use Prim.Native.Nat.{ℕ}
use mathlib.Core.Path.{◌≡◌}
use mathlib.Core.List.{List}
use lib.ListN.{length}
use Rattle.lists.proofs.Lists.{list_of-length}
use Rattle.options.specs.declared.BlockMatchOptions.{BlockMatchOptions}
use Rattle.options.specs.declared.Side.{Side}
use Rattle.costs.specs.Volume.{raw_volume}
use Rattle.matching.specs.Maps.{volume_of}
use Rattle.matching.specs.Inner.{cells_in}

pub volume-length : (w h : ℕ) (o : BlockMatchOptions) (side : Side) (left right : List ℕ) → length (volume_of w h o side left right) ≡ cells_in w h o
unfolding raw_volume
volume-length w h o side left right = list_of-length (cells_in w h o) _
