-- Demand 3 is no empty promise: a worked pair for each of its sentences. The specification's example pictures, the left made 2·v - 1 and the right 4·v + 3. Assumes nothing.
use Prim.Native.Nat.{ℕ}
use mathlib.Core.Path.{◌≡◌, refl}
use mathlib.Core.Bool.{true, false}
use mathlib.Core.Logic.{inl}
use mathlib.Core.List.{List, [], ◌∷◌, ◌++◌}
use lib.Dec.{lit≤, lit<}
use lib.IntN.{pos, negsuc}
use lib.ListN.{replicate}
use lib.Ieee.{Float, nan, fin, mul, div, of_int, round, size, climb, span, units, odd, lt, eq, le, sub, sum, add, neg, of_bits, of_fields, to_unsigned, is_nan}
use Rattle.numbers.specs.Root.{root_of, nearest_root, whole_root}
use Rattle.numbers.specs.Narrow.{narrowed}
use Rattle.numbers.specs.Away.{rounded_away}
use Rattle.numbers.specs.Plain.{magnitude_of}
use Rattle.lists.specs.Lists.{list_of, all_below, walk}
use Rattle.lists.specs.Rows.{row_of}
use Rattle.options.specs.declared.BlockMatchOptions.{BlockMatchOptions}
use Rattle.options.specs.declared.Mode.{Mode}
use Rattle.options.specs.declared.Mode.TheVariants.{Block, SemiGlobal}
use Rattle.options.specs.Options.{default_options}
use Rattle.refusals.specs.Answered.{first_of}
use Rattle.calls.specs.Refusals.{picture_rows, search_rows, penalty_rows, out_rows, room_rows, table, refusal}
use Rattle.lists.specs.Sums.{sum_to, sum_rect}
use Rattle.windows.specs.Window.{window_sum}
use Rattle.costs.specs.Raw.{raw_cost, shifted_cost, target_cost, pair_cost, one_level, window_var, window_cov, correlation}
use Rattle.costs.specs.Volume.{raw_volume}
use Rattle.choices.specs.Subpixel.{placed, refined, denom, delta}
use Rattle.choices.specs.Block.{costs_of, block_map, block_cell, block_choice, best_of, gated, competitor}
use Rattle.choices.specs.LeftRight.{left_right, tested_cell, confirms}
use Rattle.matching.specs.Maps.{map_of}
use Rattle.matching.specs.Accepted.{AcceptedPair}
use Rattle.promises.specs.Changes.{OneLevel, Changed}
use Rattle.promises.proofs.Tested.{bytes, levels, change, one-level}
use Rattle.promises.proofs.Demand.{demand-three, misses-above, inside-rows, no_rows}

-- three rows alike
abbrev rows : ℕ → ℕ → ℕ → ℕ → ℕ → List ℕ
rows a b c d e = a ∷ b ∷ c ∷ d ∷ e ∷ a ∷ b ∷ c ∷ d ∷ e ∷ a ∷ b ∷ c ∷ d ∷ e ∷ []

-- the specification's pictures, and the changed ones
abbrev left : List ℕ
left = rows 9 1 4 7 2

abbrev right : List ℕ
right = rows 1 4 7 2 5

abbrev left' : List ℕ
left' = rows 17 1 7 13 3

abbrev right' : List ℕ
right' = rows 7 19 31 11 23

-- two disparities from 0, block 3, left-right and sub-pixel on; the others are the defaults
abbrev options : Mode → BlockMatchOptions
options mode = record {
  min_disparity = pos 0;
  num_disparities = pos 2;
  block_size = 3;
  min_correlation = default_options.min_correlation;
  uniqueness_ratio = default_options.uniqueness_ratio;
  lr_consistency = true;
  lr_max_diff = default_options.lr_max_diff;
  subpixel = true;
  mode = mode;
  sgm_p1 = default_options.sgm_p1;
  sgm_p2 = default_options.sgm_p2;
}

-- six rows: of the second left picture rows 3 to 5 hold one level, of the second right they are anything
abbrev tall : List ℕ
tall = left ++ left

abbrev tall-right : List ℕ
tall-right = right ++ right

abbrev tall' : List ℕ
tall' = left' ++ rows 40 40 40 40 40

abbrev tall-right' : List ℕ
tall-right' = right' ++ rows 200 0 9 9 77

abbrev none : Float
none = nan

abbrev one : Float
one = fin false 1 (pos 0)

pub record Examples : Type 0 where
  -- the hypotheses: 5 by 6 pictures with rows 3 to 5 left out, and 5 by 3 pictures with no rows left out, in block and in semi-global mode
  pub with_rows : Changed 5 6 (options Block) 3 5 tall tall-right tall' tall-right'
  pub one_left : OneLevel 5 6 3 5 tall'
  pub with_none : (mode : Mode) → Changed 5 3 (options mode) 1 0 left right left' right'
  -- row 1, whose window rows 0 to 2 miss rows 3 to 5, is equal; it has two valid cells
  pub row_kept : row_of 5 (map_of 5 6 (options Block) tall tall-right) 1 ≡ row_of 5 (map_of 5 6 (options Block) tall' tall-right') 1
  pub row-kept-is : row_of 5 (map_of 5 6 (options Block) tall tall-right) 1 ≡ none ∷ none ∷ one ∷ one ∷ none ∷ []
  -- row 4, whose window rows 3 to 5 lie inside, is all blank in the second map; in the first it is not
  pub row-blank : row_of 5 (map_of 5 6 (options Block) tall' tall-right') 4 ≡ replicate 5 nan
  pub row-blank-was : row_of 5 (map_of 5 6 (options Block) tall tall-right) 4 ≡ none ∷ none ∷ one ∷ one ∷ none ∷ []
  -- the whole maps are equal, in block mode and in semi-global mode
  pub whole : (mode : Mode) → map_of 5 3 (options mode) left right ≡ map_of 5 3 (options mode) left' right'

accepts : (mode : Mode) → AcceptedPair 5 3 (options mode) left right
unfolding bytes refusal table first_of picture_rows search_rows penalty_rows out_rows room_rows le lt eq of_bits of_fields
accepts SemiGlobal = record { out = 15; whole = 120; float = 105; accepted = refl; left-levels = levels left refl; right-levels = levels right refl }
accepts Block = record { out = 15; whole = 120; float = 45; accepted = refl; left-levels = levels left refl; right-levels = levels right refl }

accepts' : (mode : Mode) → AcceptedPair 5 3 (options mode) left' right'
unfolding bytes refusal table first_of picture_rows search_rows penalty_rows out_rows room_rows le lt eq of_bits of_fields
accepts' SemiGlobal = record { out = 15; whole = 120; float = 105; accepted = refl; left-levels = levels left' refl; right-levels = levels right' refl }
accepts' Block = record { out = 15; whole = 120; float = 45; accepted = refl; left-levels = levels left' refl; right-levels = levels right' refl }

with_none : (mode : Mode) → Changed 5 3 (options mode) 1 0 left right left' right'
unfolding all_below
with_none mode = record {
  first = accepts mode;
  second = accepts' mode;
  left-change = change 5 3 1 0 1 (negsuc 0) left left' (lit≤ tt) refl;
  right-change = change 5 3 1 0 2 (pos 3) right right' (lit≤ tt) refl;
}

with_rows : Changed 5 6 (options Block) 3 5 tall tall-right tall' tall-right'
unfolding all_below bytes refusal table first_of picture_rows search_rows penalty_rows out_rows room_rows
with_rows = record {
  first = record { out = 30; whole = 210; float = 90; accepted = refl; left-levels = levels tall refl; right-levels = levels tall-right refl };
  second = record { out = 30; whole = 210; float = 90; accepted = refl; left-levels = levels tall' refl; right-levels = levels tall-right' refl };
  left-change = change 5 6 3 5 1 (negsuc 0) tall tall' (lit≤ tt) refl;
  right-change = change 5 6 3 5 2 (pos 3) tall-right tall-right' (lit≤ tt) refl;
}

one_left : OneLevel 5 6 3 5 tall'
unfolding all_below
one_left = one-level 5 6 3 5 40 tall' refl

pub examples : Examples
unfolding map_of raw_volume list_of raw_cost shifted_cost target_cost pair_cost one_level all_below window_var window_cov window_sum sum_rect sum_to correlation root_of nearest_root whole_root narrowed block_map walk costs_of block_cell block_choice best_of gated competitor placed refined denom delta left_right tested_cell confirms rounded_away magnitude_of mul div of_int round size climb span units odd lt eq le sub sum add neg of_bits of_fields to_unsigned is_nan
examples = record {
  with_rows = with_rows;
  one_left = one_left;
  with_none = with_none;
  row_kept = (demand-three with_rows).rows refl 1 (misses-above 6 3 5 1 1 (lit< tt));
  row-kept-is = refl;
  row-blank = (demand-three with_rows).blank refl (inl one_left) 4 (lit< tt) (inside-rows 6 3 5 1 4 (lit≤ tt) (lit≤ tt));
  row-blank-was = refl;
  whole = λ mode. (demand-three (with_none mode)).whole (no_rows 3 1 0 (lit< tt));
}
