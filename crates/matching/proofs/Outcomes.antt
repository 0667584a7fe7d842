-- The outcome of a match. Assumes nothing.
use Prim.Native.Nat.{ℕ, ◌+◌, ◌*◌, ◌-◌, ◌≤◌}
use mathlib.Core.Path.{◌≡◌, refl, sym}
use mathlib.Core.Bool.{Bool, true, false, cond}
use mathlib.Core.List.{List, ◌++◌}
use native.Mathlib.Nat.{sub-zero}
use borrow.Author.Tests.{not-false}
use lib.IntN.{pos}
use lib.Ieee.{Float, fin}
use lib.ListN.{drop, replicate, get_or}
use Rattle.lists.specs.Lists.{cleared}
use Rattle.lists.proofs.Tests.{and_both}
use Rattle.options.specs.Options.{uses_paths}
use Rattle.options.specs.declared.BlockMatchOptions.{BlockMatchOptions}
use Rattle.calls.specs.declared.Call.{Call}
use Rattle.calls.specs.declared.Output.TheVariants.{Map}
use Rattle.refusals.specs.declared.Refusal.{Refusal}
use Rattle.refusals.specs.Numbers.{number_of}
use Rattle.refusals.specs.Answered.{ByPlace}
use Rattle.refusals.proofs.Cases.{after-refused}
use Rattle.refusals.proofs.Answering.{answers-by-place}
use Rattle.refusals.proofs.Outcomes.{same_outcome, same_after}
use Rattle.calls.specs.Refusals.{table, refusal, whole_cells_of, float_cells}
use Rattle.calls.proofs.Rows.{table-numbered}
use Rattle.calls.specs.Accepted.{Accepted}
use Rattle.costs.proofs.Outcomes.{sized}
use Rattle.matching.specs.Maps.{map_of}
use Rattle.matching.specs.Outcome.{match_call, MatchOutcome}
use Rattle.matching.specs.Inner.{MatchFits, cells_in, side_cells}

-- an accepted call has what the map's makers ask
module _ (left : List ℕ) (w h : ℕ) (right : List ℕ) (w' h' : ℕ) (o : BlockMatchOptions) (outLength whole_length floatLength : ℕ) where
  abbrev q : Call
  q = match_call left w h right w' h' o outLength whole_length floatLength

  pub fitted : Accepted q → ((i : ℕ) → get_or left i 0 ≤ 255) → ((i : ℕ) → get_or right i 0 ≤ 255) → MatchFits left right w h o outLength whole_length
  fitted a first second = record {
    volume = record { sizes = sized q a.sizes left right (cells_in w h o) whole_length refl refl refl a.whole_cells; whole = a.sizes.whole };
    first = record { bytes = a.sizes.left-bytes; small = first };
    second = record { bytes = a.sizes.right-bytes; small = second };
    some = a.sizes.some;
    out-cells = a.out-cells;
    penalties = λ semi. and_both _ _ (not-false _ (rw semi at a.penalties));
  }

  pub needed : float_cells q Map ≡ side_cells w h o + w * h
  needed = go (uses_paths o.mode)
    where
      go : (t : Bool) → cond t (3 * cells_in w h o + w * h) (cells_in w h o + w * h) ≡ cond t (3 * cells_in w h o) (cells_in w h o) + w * h
      go true = refl
      go false = refl

module _ (q : Call) (o : BlockMatchOptions) (left right : List ℕ) (out : List Float) (whole : List ℕ) (float : List Float) where
  -- a refused call leaves everything as it was
  pub refused : (e : Refusal) → number_of e ≡ refusal q → MatchOutcome (number_of e) q o left right out out whole whole float float
  refused e same = record {
    answer = same;
    output = sym (after-refused e (map_of q.left_w q.left_h o left right) out refl);
    wholes = sym (after-refused e (cleared 0 (whole_cells_of q) whole) whole refl);
    floats = sym (after-refused e (cleared (fin false 0 (pos 0)) (float_cells q Map) float) float refl);
  }

  -- one that is not has made the map and cleared both rooms
  pub made : (out' : List Float) (whole' : List ℕ) (part : List Float) (n : ℕ) → 0 ≡ refusal q → out' ≡ map_of q.left_w q.left_h o left right → whole' ≡ cleared 0 (whole_cells_of q) whole
      → n ≡ float_cells q Map → part ≡ replicate n (fin false 0 (pos 0)) → MatchOutcome 0 q o left right out out' whole whole' float (part ++ drop (n - 0) float)
  made out' whole' part n e m r s z = record { answer = e; output = m; wholes = r; floats = rw (sub-zero n, z, s) }

  -- THEOREM: the statement leaves one outcome
  pub one-outcome : (n m : ℕ) (out₁ out₂ : List Float) (whole₁ whole₂ : List ℕ) (float₁ float₂ : List Float)
      → MatchOutcome n q o left right out out₁ whole whole₁ float float₁ → MatchOutcome m q o left right out out₂ whole whole₂ float float₂
      → (n ≡ m) × (out₁ ≡ out₂) × (whole₁ ≡ whole₂) × (float₁ ≡ float₂)
  one-outcome n m out₁ out₂ whole₁ whole₂ float₁ float₂ x y =
      let same = same_outcome x.answer y.answer in
      (same, same_after _ out same x.output y.output, same_after _ whole same x.wholes y.wholes, same_after _ float same x.floats y.floats)

  -- THEOREM: the answer is by the rows' place: n exactly when its row applies and no row before it does, 0 exactly when none applies
  pub match-by-place : (n : ℕ) (out' : List Float) (whole' : List ℕ) (float' : List Float) → MatchOutcome n q o left right out out' whole whole' float float' → ByPlace (table q) n
  unfolding refusal
  match-by-place n out' whole' float' x = answers-by-place (table-numbered q) x.answer
