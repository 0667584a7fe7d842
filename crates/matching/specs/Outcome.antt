-- The outcome of a match (docs/SPECIFICATION.md, "Numbers given back", "Rooms"). Definitions only.
use Rattle.std.specs.Prelude.{ℕ, ◌≡◌, false, List, pos, length, Float}
use Rattle.std.specs.Float.{fin}
use Rattle.lists.specs.Lists.{cleared}
use Rattle.options.specs.declared.BlockMatchOptions.{BlockMatchOptions}
use Rattle.refusals.specs.Outcome.{after}
use Rattle.calls.specs.declared.Call.{Call}
use Rattle.calls.specs.declared.Output.TheVariants.{Map}
use Rattle.calls.specs.Refusals.{refusal, whole_cells_of, float_cells}
use Rattle.matching.specs.Maps.{map_of}

-- what is asked for and lent
abbrev pub match_call : List ℕ → ℕ → ℕ → List ℕ → ℕ → ℕ → BlockMatchOptions → ℕ → ℕ → ℕ → Call
match_call left w h right w' h' o outLength whole_length floatLength = record {
  output = Map;
  left_w = w;
  left_h = h;
  left_bytes = length left;
  right_w = w';
  right_h = h';
  right_bytes = length right;
  first = o.min_disparity;
  count = o.num_disparities;
  block = o.block_size;
  mode = o.mode;
  p1 = o.sgm_p1;
  p2 = o.sgm_p2;
  out_len = outLength;
  whole_len = whole_length;
  float_len = floatLength;
}

-- THE OUTCOME of a match: the answer n; the output, which is the map; and the two rooms, zero in the cells that were needed; after a refusal all as it was
pub record MatchOutcome (n : ℕ) (q : Call) (o : BlockMatchOptions) (left right : List ℕ) (out out' : List Float) (whole whole' : List ℕ) (float float' : List Float) : Type 0 where
  pub answer : n ≡ refusal q
  pub output : out' ≡ after n (map_of q.left_w q.left_h o left right) out
  pub wholes : whole' ≡ after n (cleared 0 (whole_cells_of q) whole) whole
  pub floats : float' ≡ after n (cleared (fin false 0 (pos 0)) (float_cells q Map) float) float
