-- The outcome of a check. Assumes nothing.
use Prim.Native.Nat.{ℕ, ◌*◌, ◌/◌, ◌%◌, ◌≤◌}
use mathlib.Core.Path.{◌≡◌, sym, ap, ◌∙◌}
use mathlib.Core.Bool.{◌&&◌}
use mathlib.Core.List.{List}
use native.Mathlib.Omega.{arith}
use Rattle.std.specs.Prelude.{Result, Ok, Err}
use borrow.Author.Tests.{eq-eqb, ne_eqb, le-ltb, eqb-true, ltb-false, not-false}
use lib.Dec.{eqb, lit<}
use lib.Ieee.{Float}
use lib.ListN.{length}
use Rattle.lists.specs.Lists.{cleared}
use Rattle.lists.proofs.Tests.{and_both}
use Rattle.options.specs.declared.BlockMatchOptions.{BlockMatchOptions}
use Rattle.calls.specs.declared.Call.{Call}
use Rattle.refusals.specs.Answered.{first_of}
use Rattle.calls.specs.Refusals.{pair_rows, area, whole_cells_of}
use Rattle.calls.specs.Accepted.{Sizes}
use Rattle.refusals.specs.Answered.{Numbered, ByPlace}
use Rattle.refusals.specs.declared.Refusal.{Refusal}
use Rattle.refusals.specs.Numbers.{number_of}
use Rattle.refusals.specs.Steps.{is}
use Rattle.refusals.specs.Given.{number_back, number_in}
use Rattle.refusals.proofs.Numbers.{some}
use Rattle.refusals.proofs.Cases.{answer-made, answer-refused, after_none, after-refused}
use Rattle.refusals.proofs.Answering.{answers-by-place}
use Rattle.refusals.proofs.Groups.{by_first, by-rest, none-of-both, both-numbered, passed}
use Rattle.refusals.proofs.Outcomes.{same_outcome, same_answer, answer-number}
use Rattle.calls.proofs.Rows.{pair-numbered, sizes}
use Rattle.costs.proofs.Outcomes.{frame}
use Rattle.vendor.specs.declared.Check.{Check}
use Rattle.vendor.specs.declared.Verdict.{Verdict}
use Rattle.vendor.specs.declared.Verdict.TheVariants.{Yes, No}
use Rattle.vendor.specs.Verdict.{check_of, passes, first_bad, verdict_of}
use Rattle.vendor.specs.Outcome.{vendor_call, map_rows, check_rows, vendor_refusal, CheckOutcome}
use Rattle.vendor.specs.Inner.{Lent}
use Rattle.lists.proofs.Firsts.{all_first}

-- ---- the refusal of a map of n cells, w wide and h high
module _ (q : Call) (w h n : ℕ) where
  -- rows 1 to 9 come first
  pub by_pair : (e : Refusal) → number_of e ≡ first_of (pair_rows q) → number_of e ≡ vendor_refusal q w h n
  unfolding vendor_refusal
  by_pair e same = by_first (pair_rows q) (map_rows q w h n) (pair-numbered q) (number_of e) same (λ z. omega (arith, some e))

  -- where none of them applies the map and the room decide
  pub by_map : 0 ≡ first_of (pair_rows q) → first_of (map_rows q w h n) ≡ vendor_refusal q w h n
  unfolding vendor_refusal
  by_map none = sym (by-rest (pair_rows q) (map_rows q w h n) (pair-numbered q) (sym none))

  -- and 0 where these do not apply either
  pub nothing : first_of (pair_rows q) ≡ 0 → w ≡ q.left_w → h ≡ q.left_h → n ≡ area q → whole_cells_of q ≤ q.whole_len → 0 ≡ vendor_refusal q w h n
  unfolding first_of map_rows
  nothing p wide high full long =
      rw (eq-eqb w q.left_w wide, eq-eqb h q.left_h high, eq-eqb n (area q) full, le-ltb q.whole_len (whole_cells_of q) long) at by_map (sym p)

-- what the rows leave of a check that they do not refuse
pub record Taken (q : Call) (w h n : ℕ) : Type 0 where
  pub sizes : Sizes q
  pub map-w : w ≡ q.left_w
  pub map-h : h ≡ q.left_h
  pub map-cells : n ≡ area q
  pub whole_cells : whole_cells_of q ≤ q.whole_len

-- no row applies
pub taken : (q : Call) (w h n : ℕ) → vendor_refusal q w h n ≡ 0 → Taken q w h n
unfolding vendor_refusal map_rows first_of
taken q w h n e =
    let groups = none-of-both (pair_rows q) (map_rows q w h n) (pair-numbered q) e in
    let map = passed 23 (lit< tt) _ _ groups.1 in
    let room = passed 12 (lit< tt) _ _ map.1 in
    let full = and_both (eqb w q.left_w && eqb h q.left_h) (eqb n (area q)) (not-false _ map.0) in
    let sides = and_both (eqb w q.left_w) (eqb h q.left_h) full.0 in
    record {
      sizes = sizes q groups.0;
      map-w = eqb-true _ _ sides.0;
      map-h = eqb-true _ _ sides.1;
      map-cells = eqb-true _ _ full.1;
      whole_cells = ltb-false _ _ room.0;
    }

-- so that it has what the sweep asks
pub lent : (left : List ℕ) (w h : ℕ) (right : List ℕ) (w' h' : ℕ) (o : BlockMatchOptions) (roomLength mapW mapH mapLength : ℕ)
    → Taken (vendor_call left w h right w' h' o roomLength) mapW mapH mapLength → Lent (check_of w h o) left right mapLength roomLength
lent left w h right w' h' o roomLength mapW mapH mapLength t = record {
  sized = record { frame = frame (vendor_call left w h right w' h' o roomLength) t.sizes; searched = record { few = t.sizes.few; close = t.sizes.close } };
  left-bytes = t.sizes.left-bytes;
  right-bytes = t.sizes.right-bytes;
  map-cells = t.map-cells;
  room-cells = t.whole_cells;
}

-- ---- the outcome
-- the verdict from the first pixel that does not pass
module _ (q : Check) (left right : List ℕ) (map : List Float) (bad : ℕ) (first : bad ≡ first_bad q left right map) where
  pub judged-yes : bad ≡ q.frame.w * q.frame.h → Yes ≡ verdict_of q left right map
  unfolding verdict_of
  judged-yes all = rw (all_first (q.frame.w * q.frame.h) (passes q left right map), ← first, eq-eqb bad (q.frame.w * q.frame.h) all)

  pub judged-no : (bad ≡ q.frame.w * q.frame.h → ⊥) → No (bad % q.frame.w) (bad / q.frame.w) ≡ verdict_of q left right map
  unfolding verdict_of
  judged-no other = rw (all_first (q.frame.w * q.frame.h) (passes q left right map), ← first, ne_eqb bad (q.frame.w * q.frame.h) other)

module _ (q : Call) (o : BlockMatchOptions) (left right : List ℕ) (w h : ℕ) (map : List Float) (room : List ℕ) where
  -- a refused check leaves the room as it was
  pub refusing : (e : Refusal) → number_of e ≡ vendor_refusal q w h (length map) → CheckOutcome (Err e) q o left right w h map room room
  refusing e same = record { answers = answer-refused e _ same; rooms = sym (after-refused e _ room same) }

  -- one that is not has answered with the verdict and cleared the room
  pub made : (verdict : Verdict) (room' : List ℕ) → 0 ≡ vendor_refusal q w h (length map) → verdict ≡ verdict_of (check_of q.left_w q.left_h o) left right map
      → room' ≡ cleared 0 (whole_cells_of q) room → CheckOutcome (Ok verdict) q o left right w h map room room'
  made verdict room' none a m = record { answers = ap is a ∙ answer-made _ none; rooms = m ∙ sym (after_none _ _ room (sym none)) }

  -- THEOREM: the statement leaves one outcome
  pub one-outcome : (a₁ a₂ : Result Verdict Refusal) (room₁ room₂ : List ℕ) → CheckOutcome a₁ q o left right w h map room room₁ → CheckOutcome a₂ q o left right w h map room room₂
      → (a₁ ≡ a₂) × (room₁ ≡ room₂)
  one-outcome a₁ a₂ room₁ room₂ x y = (same_answer x.answers y.answers, same_outcome x.rooms y.rooms)

-- ---- the order of the refusals
pub rows-numbered : (q : Call) (w h n : ℕ) → Numbered (check_rows q w h n)
unfolding map_rows
rows-numbered q w h n = both-numbered (pair_rows q) (map_rows q w h n) (pair-numbered q) (lit< tt, (lit< tt, tt))

-- THEOREM: the answer is by the rows' place: n exactly when its row applies and no row before it does, a verdict exactly when none applies
pub check-by-place : (q : Call) (o : BlockMatchOptions) (left right : List ℕ) (w h : ℕ) (map : List Float) (room room' : List ℕ) (answer : Result Verdict Refusal)
    → CheckOutcome answer q o left right w h map room room' → ByPlace (check_rows q w h (length map)) (number_in answer)
unfolding vendor_refusal
check-by-place q o left right w h map room room' answer x =
    answers-by-place (rows-numbered q w h (length map)) (ap number_back x.answers ∙ answer-number _ (vendor_refusal q w h (length map)))
