-- The law of refusals, of `points`: its numbers are answered by the place of their rows. Assumes nothing.
use Rattle.std.proofs.Common.{◌≡◌, ℕ, zero, suc, List, length, refl, ap, ◌∙◌, lit<}
use Rattle.std.specs.Prelude.{Result}
use lib.Ieee.{Float}
use Rattle.refusals.specs.declared.Refusal.{Refusal}
use Rattle.refusals.specs.Answered.{ByPlace}
use Rattle.refusals.specs.Given.{number_back, number_in}
use Rattle.refusals.specs.Steps.{refused}
use Rattle.refusals.specs.Outcome.{answer_for, after}
use Rattle.refusals.proofs.Answering.{answers-by-place}
use Rattle.refusals.proofs.Outcomes.{answer-number}
use Rattle.points.specs.declared.Intrinsics.{Intrinsics}
use Rattle.points.specs.declared.PointRecord.{PointRecord}
use Rattle.points.specs.Records.{point_rows, filled_for, list_after, PointsOutcome}

-- a refusal leaves the list as it was
left : {A B : Type 0} (n m : ℕ) (made : A) (new was : B) → refused m ≡ answer_for n made → was ≡ after n new was
left zero m made new was e = cc
left (suc n) m made new was e = refl

pub list-left : (w h : ℕ) (cells : List Float) (k : Intrinsics) (list : List PointRecord) (m : ℕ) → refused m ≡ filled_for w h cells k (length list) → list ≡ list_after w h cells k list
unfolding filled_for list_after
list-left w h cells k list m e = left _ _ _ _ _ e

-- THEOREM: the points of a map are refused by the place of their row, 21 to 24
pub points-by-place : {r : Result ℕ Refusal} {w h : ℕ} {cells : List Float} {k : Intrinsics} {list list' : List PointRecord} → PointsOutcome r w h cells k list list'
    → ByPlace (point_rows w h cells k (length list)) (number_in r)
unfolding filled_for
points-by-place o = answers-by-place (lit< tt, (lit< tt, (lit< tt, (lit< tt, tt)))) (ap number_back o.answer ∙ answer-number _ _)
