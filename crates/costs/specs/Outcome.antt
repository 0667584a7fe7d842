-- The outcome of a raw volume (docs/SPECIFICATION.md, "Numbers given back", "Rooms"). Definitions only.
use Rattle.std.specs.Prelude.{ℕ, ◌/◌, ◌≡◌, false, List, pos, nat_abs, length, Float}
use Rattle.std.specs.Float.{fin}
use Rattle.options.specs.declared.BlockMatchOptions.{BlockMatchOptions}
use Rattle.options.specs.declared.Mode.TheVariants.{Block}
use Rattle.options.specs.declared.Side.{Side}
use Rattle.calls.specs.declared.Call.{Call}
use Rattle.calls.specs.declared.Output.TheVariants.{Volume}
use Rattle.calls.specs.Refusals.{refusal, whole_cells_of}
use Rattle.refusals.specs.Outcome.{after}
use Rattle.lists.specs.Lists.{cleared}
use Rattle.costs.specs.Volume.{raw_volume}

-- what is asked for and lent: no mode is used, and the block's stands there; so no penalty is read, and there is no float room
abbrev pub raw_call : List ℕ → ℕ → ℕ → List ℕ → ℕ → ℕ → BlockMatchOptions → ℕ → ℕ → Call
raw_call left w h right w' h' options outLength roomLength = record {
  output = Volume;
  left_w = w;
  left_h = h;
  left_bytes = length left;
  right_w = w';
  right_h = h';
  right_bytes = length right;
  first = options.min_disparity;
  count = options.num_disparities;
  block = options.block_size;
  mode = Block;
  p1 = fin false 0 (pos 0);
  p2 = fin false 0 (pos 0);
  out_len = outLength;
  whole_len = roomLength;
  float_len = 0;
}

-- the raw volume of a call
abbrev pub volume_for : Call → Side → List ℕ → List ℕ → List Float
volume_for q side left right = raw_volume side q.left_w q.left_h (q.block / 2) q.first (nat_abs q.count) left right

-- THE OUTCOME of a raw volume: the answer n; the output holds the volume, and the cells of the room that were needed hold zero; after a refusal both are as they were
pub record RawOutcome (n : ℕ) (q : Call) (side : Side) (left right : List ℕ) (out out' : List Float) (room room' : List ℕ) : Type 0 where
  pub answer : n ≡ refusal q
  pub output : out' ≡ after n (volume_for q side left right) out
  pub rooms : room' ≡ after n (cleared 0 (whole_cells_of q) room) room
