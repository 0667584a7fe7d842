-- The cover of a match's map: its own block side refuses none, and a semi-global map without the left-right test shows 1,000. Assumes nothing.
use Prim.Native.Nat.{ℕ, ◌*◌}
use mathlib.Core.Path.{◌≡◌, refl, sym, ap, ◌∙◌}
use mathlib.Core.Bool.{Bool, true, false, cond}
use mathlib.Core.List.{List}
use borrow.Author.Tests.{not-false, eq-eqb}
use lib.ListN.{length}
use lib.Ieee.{Float}
use Rattle.lists.proofs.Tests.{and_both}
use Rattle.options.specs.declared.BlockMatchOptions.{BlockMatchOptions}
use Rattle.options.specs.declared.Mode.TheVariants.{SemiGlobal}
use Rattle.options.specs.declared.Side.TheVariants.{Left, Right}
use Rattle.refusals.specs.Answered.{first_of}
use Rattle.refusals.proofs.Answering.{none_of}
use Rattle.refusals.proofs.Cases.{after_none}
use Rattle.calls.specs.Refusals.{in_range, picture_rows, search_rows, table, refusal}
use Rattle.calls.proofs.Rows.{table-numbered}
use Rattle.std.specs.Prelude.{Result, Ok}
use Rattle.refusals.specs.declared.Refusal.{Refusal}
use Rattle.refusals.specs.Steps.{is}
use Rattle.refusals.specs.Given.{given_back}
use Rattle.refusals.proofs.Numbers.{known_by}
use Rattle.maps.specs.Map.{good_size, cover_rows, cover_of}
use Rattle.maps.proofs.Covered.{cover-full}
use Rattle.choices.specs.LeftRight.{left_right}
use Rattle.matching.specs.Accepted.{Levels, AcceptedPair}
use Rattle.matching.specs.Maps.{volume_of, map_of}
use Rattle.matching.specs.Outcome.{match_call, MatchOutcome}
use Rattle.matching.proofs.SideMaps.{side_of, side-length}
use Rattle.matching.proofs.SemiMaps.{semi-finite}
use Rattle.promises.proofs.Agreeing.{tested-length}

module _ (w h : ℕ) (o : BlockMatchOptions) (left right : List ℕ) where
  -- the two maps that it is made from
  abbrev from_left : List Float
  from_left = side_of w h o Left left right

  abbrev from_right : List Float
  from_right = side_of w h o Right left right

  -- a map without the left-right test is the left one
  untested-map : o.lr_consistency ≡ false → map_of w h o left right ≡ from_left
  unfolding map_of
  untested-map e = ap (λ t. cond t (left_right w o.lr_max_diff from_left from_right) from_left) e

  -- tested or not it has a cell for each pixel
  map-length : length (map_of w h o left right) ≡ w * h
  unfolding map_of
  map-length = go o.lr_consistency
    where
      long : length from_left ≡ w * h
      long = side-length w h o refl (volume_of w h o Left left right)

      go : (t : Bool) → length (cond t (left_right w o.lr_max_diff from_left from_right) from_left) ≡ w * h
      go true = tested-length w o.lr_max_diff from_left from_right ∙ long
      go false = long

module _ {w h : ℕ} {o : BlockMatchOptions} {left right : List ℕ} (m : AcceptedPair w h o left right) where
  -- THEOREM: the map of an accepted pair has a cover by the match's own block
  pub own-cover : first_of (cover_rows w h (length (map_of w h o left right)) o.block_size) ≡ 0
  unfolding first_of refusal table picture_rows search_rows good_size
  own-cover =
      let q = match_call left w h right w h o m.out m.whole m.float in
      let tests = none_of (table q) (table-numbered q) m.accepted in
      let sides = and_both (in_range w h) (in_range w h) (not-false _ tests.0) in
      let block = tests.1.1.1 in
      rw (sides.0, eq-eqb (length (map_of w h o left right)) (w * h) (map-length w h o left right), block.0, block.1.0, block.1.1.1.1.0)

  -- THEOREM: a semi-global map without the left-right test shows 1,000
  pub semi-cover : o.mode ≡ SemiGlobal → o.lr_consistency ≡ false → cover_of w h (map_of w h o left right) o.block_size ≡ is 1000
  semi-cover semi untested =
      (cover-full w h (map_of w h o left right) o.block_size own-cover).1
      (λ p l inside. rw (untested-map w h o left right untested) (semi-finite m semi Left p l inside))

-- THEOREM: so of the calls: where such a match of pictures is answered 0, `cover` of its output by the same block answers 1,000
pub semi-cover-call : {n w h : ℕ} {o : BlockMatchOptions} {left right : List ℕ} {out out' : List Float} {whole whole' : List ℕ} {float float' : List Float} {answer : Result ℕ Refusal}
    → MatchOutcome n (match_call left w h right w h o (length out) (length whole) (length float)) o left right out out' whole whole' float float' → n ≡ 0
    → Levels left → Levels right → o.mode ≡ SemiGlobal → o.lr_consistency ≡ false
    → given_back answer ≡ cover_of w h out' o.block_size → answer ≡ Ok 1000
semi-cover-call {n} {w} {h} {o} {left} {right} {out} {answer = answer} made none left-levels right-levels semi untested cover =
    let m : AcceptedPair w h o left right = record { out = _; whole = _; float = _; accepted = sym made.answer ∙ none; left-levels = left-levels; right-levels = right-levels } in
    known_by answer (Ok 1000) (cover ∙ ap (λ cells. cover_of w h cells o.block_size) (made.output ∙ after_none n _ out none) ∙ semi-cover m semi untested)
