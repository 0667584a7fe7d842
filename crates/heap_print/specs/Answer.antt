-- What the program prints for an input (docs/SPECIFICATION.md, "The print program"). Definitions only.
use Rattle.std.specs.Prelude.{ℕ, ◌+◌, ◌*◌, ◌≡◌, cond, List, length, take, drop, eqb, pos, Float, Result, Ok, Err}
use Rattle.options.specs.Options.{mode_of, default_options}
use Rattle.options.specs.declared.BlockMatchOptions.{BlockMatchOptions}
use Rattle.calls.specs.declared.Call.{Call}
use Rattle.refusals.specs.declared.Refusal.{Refusal}
use Rattle.refusals.specs.Numbers.{number_of}
use Rattle.calls.specs.Refusals.{refusal}
use Rattle.lists.specs.Stores.{Printed}
use Rattle.maps.specs.Map.{valids}
use Rattle.matching.specs.Maps.{map_of}
use Rattle.matching.specs.Outcome.{match_call}
use Rattle.heap_text.specs.declared.head.Request.{Request}
use Rattle.heap_text.specs.declared.plan.TurnedDown.{TurnedDown}
use Rattle.heap_text.specs.declared.plan.TurnedDown.TheVariants.{TooBig, BadInput}
use Rattle.heap_text.specs.Plan.{plan_of}
use Rattle.heap_text.specs.Text.{map_text, refused_text, too_big_text, bad_input_text}

-- the rooms of the largest map, 24 by 16 with 8 disparities: 5(w+1)(h+1), and 3V + w·h with V = count·w·h
abbrev pub whole_room_cells : ℕ
whole_room_cells = 2125

abbrev pub float_room_cells : ℕ
float_room_cells = 9600

-- the line's options; the others are the defaults
abbrev pub options_of : Request → BlockMatchOptions
options_of q = record {
  min_disparity = q.first;
  num_disparities = pos q.count;
  block_size = q.block;
  min_correlation = default_options.min_correlation;
  uniqueness_ratio = default_options.uniqueness_ratio;
  lr_consistency = q.left_right;
  lr_max_diff = default_options.lr_max_diff;
  subpixel = q.subpixel;
  mode = mode_of q.semi_global;
  sgm_p1 = default_options.sgm_p1;
  sgm_p2 = default_options.sgm_p2;
}

-- the left picture, and the right one after it
abbrev pub left_of : List ℕ → Request → List ℕ
left_of s q = take (q.width * q.height) (drop q.start s)

abbrev pub right_of : List ℕ → Request → List ℕ
right_of s q = take (q.width * q.height) (drop (q.start + q.width * q.height) s)

-- the match of the two pictures: the output has a cell for each pixel
abbrev pub call_for : List ℕ → Request → Call
call_for s q =
    match_call (left_of s q) q.width q.height (right_of s q) q.width q.height (options_of q) (q.width * q.height) whole_room_cells float_room_cells

-- what a match leaves: the map, or the reason of its refusal
abbrev pub Matched : List ℕ → Request → Result (Unit {0}) Refusal → List Float → Type 0
Matched s q (Ok _) cells = (refusal (call_for s q) ≡ 0) × (cells ≡ map_of q.width q.height (options_of q) (left_of s q) (right_of s q))
Matched s q (Err e) cells = refusal (call_for s q) ≡ number_of e

-- the number given back where there is one, else the map
unfoldable pub matched_text : List ℕ → Request → List ℕ
matched_text s q =
    let number = refusal (call_for s q) in
    let cells = map_of q.width q.height (options_of q) (left_of s q) (right_of s q) in
    cond (eqb number 0) (map_text q.width q.height (valids cells) cells) (refused_text number)

-- each plan has its text
abbrev pub answer_with : List ℕ → Result Request TurnedDown → List ℕ
answer_with s (Ok q) = matched_text s q
answer_with s (Err TooBig) = too_big_text
answer_with s (Err BadInput) = bad_input_text

-- the whole answer
unfoldable pub answer_of : List ℕ → List ℕ
answer_of s = answer_with s (plan_of s)

-- the first n bytes of an array are a reading of the input s: the whole input, or as much of it as the array holds
abbrev pub Reading : List ℕ → ℕ → List ℕ → Type 0
Reading array n s = take n array ≡ take (length array) s

-- what is printed after a reading is the answer to every input that reads so
abbrev pub ReadingAnswered : List ℕ → ℕ → List ℕ → List ℕ → ℕ → Type 0
ReadingAnswered array n old new count = (s : List ℕ) → Reading array n s → Printed old (answer_of s) new count
