-- What the matcher answered is what the text says.
use Prim.Native.Nat.{ℕ, ◌*◌}
use mathlib.Core.Path.{◌≡◌, refl}
use mathlib.Core.List.{List}
use lib.Ieee.{Float}
use Rattle.std.specs.Prelude.{Result, Ok, Err}
use Rattle.refusals.specs.declared.Refusal.{Refusal}
use Rattle.refusals.specs.Given.{number_in}
use Rattle.options.specs.declared.BlockMatchOptions.{BlockMatchOptions}
use Rattle.calls.specs.Refusals.{refusal}
use Rattle.matching.specs.Maps.{map_of}
use Rattle.matching.specs.Outcome.{match_call, MatchOutcome}
use Rattle.heap_text.specs.declared.head.Request.{Request}
use Rattle.heap_print.specs.Answer.{whole_room_cells, float_room_cells, options_of, left_of, right_of, call_for, Matched}

-- a match of the input's two pictures gave the number n, and left the cells
pub record Answered (s : List ℕ) (q : Request) (n : ℕ) (cells : List Float) : Type 0 where
  pub number : refusal (call_for s q) ≡ n
  pub found : n ≡ 0 → cells ≡ map_of q.width q.height (options_of q) (left_of s q) (right_of s q)

pub answered : (s : List ℕ) (q : Request) {opts : BlockMatchOptions} {left right : List ℕ} → opts ≡ options_of q → left ≡ left_of s q → right ≡ right_of s q
    → {n : ℕ} {out out' : List Float} {whole whole' : List ℕ} {float float' : List Float} {a b c : ℕ} → a ≡ q.width * q.height → b ≡ whole_room_cells → c ≡ float_room_cells
    → MatchOutcome n (match_call left q.width q.height right q.width q.height opts a b c) opts left right out out' whole whole' float float' → Answered s q n out'
answered s q is-opts is-left is_right out-cells whole_cells float-cells done = record {
  number = rw (done.answer, is-opts, is-left, is_right, out-cells, whole_cells, float-cells);
  found = λ none. rw (none, is-opts, is-left, is_right) at done.output;
}

-- so it is what the answer says
pub matched : (s : List ℕ) (q : Request) (cells : List Float) (r : Result (Unit {0}) Refusal) → Answered s q (number_in r) cells → Matched s q r cells
matched s q cells (Ok u) a = (a.number, a.found refl)
matched s q cells (Err e) a = a.number
