-- Every refusal and every verdict of a check is reached, by computing. Assumes nothing.
use mathlib.Core.Path.{refl}
use lib.Ieee.{to_bits, mul, div, of_int, round, size, climb, span, units, odd, lt, eq, le, sub, sum, add, neg, of_bits, of_fields, is_nan}
use Rattle.numbers.specs.Root.{root_of, nearest_root, whole_root}
use Rattle.numbers.specs.Narrow.{narrowed}
use Rattle.lists.specs.Lists.{all_below, some_below, first_not}
use Rattle.lists.specs.Sums.{sum_to, sum_rect}
use Rattle.windows.specs.Window.{window_sum}
use Rattle.costs.specs.Raw.{raw_cost, shifted_cost, target_cost, pair_cost, one_level, window_var, window_cov, correlation}
use Rattle.refusals.specs.Answered.{first_of}
use Rattle.calls.specs.Refusals.{picture_rows, search_rows}
use Rattle.vendor.specs.Verdict.{passes, verdict_of}
use Rattle.vendor.specs.Outcome.{map_rows, vendor_refusal}
use Rattle.promises.specs.VendorWitnesses.{VendorsReached}

-- THEOREM: every number of a check is answered for some pair, map and room, and each reason for a yes and for a no is met
pub vendors-reached : VendorsReached
unfolding to_bits mul div of_int round size climb span units odd lt eq le sub sum add neg of_bits of_fields is_nan root_of nearest_root whole_root narrowed all_below sum_to sum_rect window_sum raw_cost shifted_cost target_cost pair_cost one_level window_var window_cov correlation first_of picture_rows search_rows some_below first_not passes verdict_of map_rows vendor_refusal
vendors-reached = record {
  of-1 = refl;
  of-2 = refl;
  of-3 = refl;
  of-4 = refl;
  of-5 = refl;
  of-6 = refl;
  of-7 = refl;
  of-8 = refl;
  of-9 = refl;
  of-23 = refl;
  of-23-high = refl;
  of-23-long = refl;
  of-12 = refl;
  accepted = refl;
  right-one = refl;
  blank-one = refl;
  infinite = refl;
  beaten = refl;
  no-cost = refl;
  below = refl;
  enough = refl;
  minus-zero = refl;
  beyond = refl;
  between = refl;
  at-the-edge = refl;
  no-least = refl;
  tie-small = refl;
  tie-large = refl;
  not-tied = refl;
}
