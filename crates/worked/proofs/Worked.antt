-- THE WORKED EXAMPLES of docs/SPECIFICATION.md hold of the definitions. Assumes nothing.
use mathlib.Core.Path.{refl}
use lib.Ieee.{to_bits, mul, div, of_int, round, size, climb, span, units, odd, lt, eq, le, sub, sum, add, neg, of_bits, of_fields, to_unsigned, is_nan}
use Rattle.numbers.specs.Root.{root_of, nearest_root, whole_root}
use Rattle.numbers.specs.Narrow.{narrowed}
use Rattle.numbers.specs.Away.{rounded_away}
use Rattle.numbers.specs.Plain.{magnitude_of}
use Rattle.lists.specs.Lists.{list_of, all_below, walk}
use Rattle.lists.specs.Sums.{sum_to, sum_rect}
use Rattle.windows.specs.Window.{window_sum}
use Rattle.costs.specs.Raw.{raw_cost, shifted_cost, target_cost, pair_cost, one_level, window_var, window_cov, correlation}
use Rattle.costs.specs.Volume.{raw_volume}
use Rattle.choices.specs.Subpixel.{placed, refined, denom, delta}
use Rattle.choices.specs.Block.{costs_of, block_map, block_cell, block_choice, best_of, gated, competitor}
use Rattle.choices.specs.LeftRight.{left_right, tested_cell, confirms}
use Rattle.points.specs.Point.{is_positive, point_of}
use Rattle.matching.specs.Maps.{map_of}
use Rattle.worked.specs.Examples.{Examples}

pub worked : Examples
unfolding map_of raw_volume list_of raw_cost shifted_cost target_cost pair_cost one_level all_below window_var window_cov window_sum sum_rect sum_to correlation root_of nearest_root whole_root narrowed block_map walk costs_of block_cell block_choice best_of gated competitor placed refined denom delta left_right tested_cell confirms rounded_away magnitude_of point_of is_positive to_bits mul div of_int round size climb span units odd lt eq le sub sum add neg of_bits of_fields to_unsigned is_nan
worked = record {
  p1 = refl;
  p2 = refl;
  p3 = refl;
  p4 = refl;
  p5 = refl;
  p6 = refl;
  p7 = refl;
  p8 = refl;
  p8-xr = refl;
  p8-inside = refl;
  p8-column = refl;
  p9 = refl;
  p10 = refl;
  p11 = refl;
  p12 = refl;
  p12-none = refl;
  print = refl;
  print-left-right = refl;
}
