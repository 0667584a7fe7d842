-- What the call's answer says: the meaning of a verdict, where no row applies. Assumes nothing.
use Prim.Native.Nat.{ℕ, zero, suc, ◌<◌}
use mathlib.Core.Path.{◌≡◌, refl, sym, ap, ◌∙◌}
use mathlib.Core.Logic.{◌↔◌}
use mathlib.Core.List.{List}
use native.Mathlib.Omega.{arith}
use lib.ListN.{length}
use lib.Ieee.{Float}
use Rattle.options.specs.declared.BlockMatchOptions.{BlockMatchOptions}
use Rattle.refusals.specs.Answered.{NoneApplies}
use Rattle.std.specs.Prelude.{Result, Ok}
use Rattle.refusals.specs.declared.Refusal.{Refusal}
use Rattle.refusals.specs.Steps.{is}
use Rattle.refusals.specs.Given.{given_back, number_back}
use Rattle.refusals.proofs.Numbers.{known_by}
use Rattle.refusals.specs.Outcome.{answer_for}
use Rattle.refusals.proofs.Answering.{answered-none}
use Rattle.calls.specs.declared.Call.{Call}
use Rattle.calls.specs.Refusals.{area}
use Rattle.vendor.specs.declared.Check.{Check}
use Rattle.vendor.specs.declared.Verdict.{Verdict}
use Rattle.vendor.specs.declared.Verdict.TheVariants.{Yes, No}
use Rattle.vendor.specs.Verdict.{check_of, verdict_of}
use Rattle.vendor.specs.Outcome.{check_rows, vendor_refusal, CheckOutcome}
use Rattle.vendor.specs.Meaning.{Good}
use Rattle.vendor.proofs.Outcomes.{taken, rows-numbered}
use Rattle.vendor.proofs.Meaning.{FirstBad, yes-means, means-yes, no-means, means-no}

-- an answer that is a verdict was not refused, and is the definition's
verdict-is : (n : ℕ) (v a : Verdict) → is a ≡ answer_for n v → (n ≡ 0) × (a ≡ v)
verdict-is zero v a e = (refl, cc)
verdict-is (suc n) v a e = absurd (omega (arith, ap number_back e))

module _ (answer : Result Verdict Refusal) (q : Call) (o : BlockMatchOptions) (left right : List ℕ) (w h : ℕ) (map : List Float) (room room' : List ℕ) (x : CheckOutcome answer q o left right w h map room room') where
  -- what is checked
  abbrev checked : Check
  checked = check_of q.left_w q.left_h o

  -- where the answer is a verdict no row applies, and it is the definition's
  accepted : (v : Verdict) → answer ≡ Ok v → (vendor_refusal q w h (length map) ≡ 0) × (v ≡ verdict_of checked left right map)
  accepted v e = verdict-is (vendor_refusal q w h (length map)) (verdict_of checked left right map) v (sym (ap given_back e) ∙ x.answers)

  none : vendor_refusal q w h (length map) ≡ 0 → NoneApplies (check_rows q w h (length map))
  unfolding vendor_refusal
  none = (answered-none (check_rows q w h (length map)) (rows-numbered q w h (length map))).0

  by-verdict : NoneApplies (check_rows q w h (length map)) → answer ≡ Ok (verdict_of checked left right map)
  unfolding vendor_refusal
  by-verdict n =
      known_by answer (Ok (verdict_of checked left right map))
      (x.answers ∙ ap (λ m. answer_for m (verdict_of checked left right map)) ((answered-none (check_rows q w h (length map)) (rows-numbered q w h (length map))).1 n))

  -- THEOREM: of the call: yes exactly when no row applies and every valid cell is a choice
  pub yes-call : (answer ≡ Ok Yes) ↔ (NoneApplies (check_rows q w h (length map)) × ((p : ℕ) → p < area q → Good checked left right map p))
  yes-call = (
    (λ e. let a = accepted Yes e in (none a.0, yes-means checked left right map (sym a.1))),
    (λ g. by-verdict g.0 ∙ ap (λ v. Ok v) (means-yes checked left right map g.1)),
  )

  -- THEOREM: of the call: a no names the first bad cell by rows, exactly when no row applies
  pub no_call : (column row : ℕ) → (answer ≡ Ok (No column row)) ↔ (NoneApplies (check_rows q w h (length map)) × FirstBad checked left right map column row)
  no_call column row = (
    (λ e.
        let a = accepted (No column row) e in
        (none a.0, no-means checked left right map (taken q w h (length map) a.0).sizes.w-least column row (sym a.1))),
    (λ g. by-verdict g.0 ∙ ap (λ v. Ok v) (means-no checked left right map column row g.1)),
  )
