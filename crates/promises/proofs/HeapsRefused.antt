-- Every refusal of a heap is reached, by computing. Assumes nothing.
use mathlib.Core.Path.{refl}
use lib.Ieee.{mul, round, size, climb, span, units, odd, to_signed}
use Rattle.refusals.specs.Answered.{first_of}
use Rattle.lists.specs.Lists.{list_of}
use Rattle.lists.specs.Sums.{sum_to}
use Rattle.numbers.specs.Away.{rounded_away}
use Rattle.volume.specs.Metres.{millimetres, good_coordinate, all_good, good_points, spot_of, spots_of}
use Rattle.volume.specs.Rectangle.{above, good_cell, near_site, multiple, good_sides}
use Rattle.volume.specs.Heights.{is_between, is_inside, falls_in, height_of, height_at, is_empty, inside_count, outside_count, grid_of, empty_count, volume_of, figures_of}
use Rattle.volume.specs.Outcome.{grid_shape, heap_of, grid_after}
use Rattle.promises.specs.HeapWitnesses.{HeapsReached}

-- THEOREM: every number of a heap is answered for some site, points and grid
pub heaps-reached : HeapsReached
unfolding first_of mul round size climb span units odd to_signed list_of sum_to rounded_away millimetres good_coordinate all_good good_points spot_of spots_of above good_cell near_site multiple good_sides is_between is_inside falls_in height_of height_at is_empty inside_count outside_count grid_of empty_count volume_of figures_of grid_shape heap_of grid_after
heaps-reached = record {
  of-51 = refl;
  of-51-wide = refl;
  of-52 = refl;
  of-52-far = refl;
  of-52-cut = refl;
  of-52-edge = refl;
  of-52-floor = refl;
  of-53 = refl;
  of-53-part = refl;
  of-54 = refl;
  of-55 = refl;
  measured = refl;
  grid = refl;
  even = refl;
  shaped = refl;
}
