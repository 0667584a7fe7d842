-- The points of a map, measured: each cell that gives a point is counted once, in the rectangle or outside. Assumes nothing.
use Prim.Native.Nat.{ℕ, ◌+◌}
use mathlib.Core.Path.{◌≡◌, ◌∙◌}
use mathlib.Core.List.{List, map}
use lib.ListN.{length-map}
use lib.Ieee.{Float}
use Rattle.points.specs.declared.Intrinsics.{Intrinsics}
use Rattle.points.specs.declared.PointRecord.{PointRecord}
use Rattle.points.specs.Records.{points_in, records_from}
use Rattle.points.proofs.Laws.{records-length}
use Rattle.volume.specs.declared.site.Site.{Site}
use Rattle.volume.specs.declared.heap.Figures.{Figures}
use Rattle.refusals.specs.Steps.{is}
use Rattle.volume.specs.Outcome.{heap_of}
use Rattle.volume.proofs.Measured.{measured, counts}

module _ (w : ℕ) (k : Intrinsics) (cells : List Float) where
  -- one coordinate of each point of the map
  abbrev each : (PointRecord → Float) → List Float
  each coordinate = map coordinate (records_from w k 0 cells)

  -- THEOREM: where the heap of a map's points is measured, the two counts add to the cells that give a point
  pub all-counted : (s : Site) (m : ℕ) (f : Figures) → heap_of s (each (λ p. p.x)) (each (λ p. p.y)) (each (λ p. p.z)) m ≡ is f
      → f.inside + f.outside ≡ points_in cells
  all-counted s m f e = counts (measured s _ _ _ m f e) ∙ length-map (records_from w k 0 cells) _ ∙ records-length w k 0 cells
