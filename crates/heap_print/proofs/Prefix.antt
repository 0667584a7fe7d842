-- The program reads no more than 801 bytes, and that changes no answer. Assumes nothing.
use Prim.Native.Nat.{◌≤◌}
use mathlib.Core.Path.{◌≡◌, refl, sym, ap, subst, ◌∙◌}
use mathlib.Core.List.{List}
use native.Mathlib.Omega.{arith}
use lib.ListN.{length, take}
use lib.Seq.{take_all, length-take-le}
use Rattle.lists.specs.Stores.{Printed}
use Rattle.lists.proofs.Stores.{printed-within}
use Rattle.std.proofs.Common.{Result, Ok, Err}
use Rattle.heap_text.specs.declared.head.Request.{Request}
use Rattle.heap_text.specs.declared.plan.TurnedDown.{TurnedDown}
use Rattle.heap_text.specs.declared.plan.TurnedDown.TheVariants.{TooBig, BadInput}
use Rattle.heap_text.specs.Plan.{plan_of}
use Rattle.heap_text.proofs.Plans.{plan-bounds, plan-prefix, matched-short}
use Rattle.std.proofs.Common.{ℕ, ◌*◌, Bool, true, false, cond, eqb, Float, length-append}
use Rattle.texts.proofs.Digits.{decimal-most}
use Rattle.calls.specs.Refusals.{refusal}
use Rattle.maps.specs.Map.{valids}
use Rattle.matching.specs.Maps.{map_of}
use Rattle.heap_text.specs.Text.{map_line, rows_text, map_text, refused_text}
use Rattle.heap_text.proofs.Rows.{line-most, rows-most}
use Rattle.heap_print.specs.Answer.{options_of, left_of, right_of, call_for, matched_text, answer_with, answer_of, Reading, ReadingAnswered}

-- the map's text, or the refusal's, is short
match-most : (s : List ℕ) (q : Request) → q.width * q.height ≤ 384 → length (matched_text s q) ≤ 3475
unfolding matched_text map_text refused_text
match-most s q few = go (eqb (refusal (call_for s q)) 0)
  where
    cells : List Float
    cells = map_of q.width q.height (options_of q) (left_of s q) (right_of s q)

    go : (t : Bool) → length (cond t (map_text q.width q.height (valids cells) cells) (refused_text (refusal (call_for s q)))) ≤ 3475
    go true =
        omega (
          arith,
          length-append (map_line q.width q.height (valids cells)) (rows_text q.width q.height cells),
          line-most q.width q.height (valids cells),
          rows-most q.width q.height cells,
        )
    go false = simp length-append (omega (arith, decimal-most (refusal (call_for s q))))

pub answer-prefix : (s : List ℕ) → answer_of (take 801 s) ≡ answer_of s
unfolding answer_of
answer-prefix s = ap (answer_with (take 801 s)) (plan-prefix s) ∙ go (plan_of s) refl
  where
    go : (p : Result Request TurnedDown) → plan_of s ≡ p → answer_with (take 801 s) p ≡ answer_with s p
    go (Ok q) e =
        let short = matched-short s q e in
        ap (λ (t : List ℕ). answer_with t (Ok q)) (take_all 801 s (omega arith))
    go (Err TooBig) e = refl
    go (Err BadInput) e = refl

-- so the answer to a reading of 801 bytes is the answer to every input that reads so
pub reading-answered : (array : List ℕ) (n : ℕ) {old new : List ℕ} {count : ℕ} → length array ≡ 801
    → Printed old (answer_of (take n array)) new count → ReadingAnswered array n old new count
reading-answered array n {old} {new} {count} long printed s reading =
    subst (λ (text : List ℕ). Printed old text new count) (ap answer_of reading ∙ ap (λ (m : ℕ). answer_of (take m s)) long ∙ answer-prefix s) printed

-- an input that is no longer than what was read reads so, and its answer lies within the text
module _ (array : List ℕ) (n : ℕ) (within : n ≤ length array) where
  reads-itself : Reading array n (take n array)
  reads-itself = sym (take_all (length array) (take n array) (rw (length-take-le n array within) within))

  pub reading-within : {old new : List ℕ} {count : ℕ} → ReadingAnswered array n old new count → count ≤ length new
  reading-within answered = printed-within (answered (take n array) reads-itself)

-- an answer is no longer than the largest map's
pub answer-most : (s : List ℕ) → length (answer_of s) ≤ 3475
unfolding answer_of
answer-most s = go (plan_of s) refl
  where
    go : (p : Result Request TurnedDown) → plan_of s ≡ p → length (answer_with s p) ≤ 3475
    go (Ok q) e = match-most s q (plan-bounds s q e).few
    go (Err TooBig) e = omega arith
    go (Err BadInput) e = omega arith
