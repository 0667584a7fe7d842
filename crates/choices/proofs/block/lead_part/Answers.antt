-- `choices::block::lead_part` meets its contract: after i numbers the two rows are led by those alone. Assumes nothing.
use Rattle.std.proofs.Common.{◌≡◌, ◌+◌, ◌≤◌, ℕ, length, get_or, set, ap, ap₂, ◌∙◌, arith}
use lib.Ieee.{Float, nan, inf}
use mathlib.Core.Bool.{true}
use Rattle.choices.specs.Leading.{larger, larger_at, led_most, led_at}
use Rattle.choices.proofs.Stepping.{step-none, step-all, step-read, step-set}
use Rattle.choices.proofs.Parts.{larger-kept, at-kept}
use Rattle.choices.proofs.block.lead_part.Goals.{Start}
use Rattle.choices.proofs.block.lead_part.Goals as goal

-- what the loop does to a column's two numbers
abbrev most-by : Start → ℕ → Float → Float
most-by c x v = larger (get_or c.args.most.now x nan) v

abbrev at-by : Start → ℕ → Float → Float
at-by c x v = larger_at c.args.k (get_or c.args.most.now x nan) (get_or c.args.at.now x nan) v

most-same : (c : Start) (x : ℕ) → most-by c x (inf true) ≡ get_or c.args.most.now x nan
most-same c x = larger-kept _

at-same : (c : Start) (x : ℕ) → at-by c x (inf true) ≡ get_or c.args.at.now x nan
at-same c x = at-kept c.args.k _ _

fits : (c : Start) → c.args.lo + length c.args.part.now ≤ length c.args.at.now
fits c = omega (arith, c.requires.part_bound, c.requires.at_len)

pub loop-i-init : goal.loop-i-init
unfolding led_most led_at
loop-i-init c =
    let s = (goal.at.loop-i-init c).Start in
    record {
      most_is = step-none (most-by s) _ (most-same s) c.args.lo c.args.part.now c.requires.part_bound;
      at_is = step-none (at-by s) _ (at-same s) c.args.lo c.args.part.now (fits s);
    }

pub loop-i-preserved : goal.loop-i-preserved
unfolding led_most led_at
loop-i-preserved c =
    let s = (goal.at.loop-i-preserved c).Start in
    let a = c.args in
    let i = c.loop-i.i in
    let more = c.loop-i-test.true in
    let inv = c.loop-i.invariant in
    let most-read : get_or c.loop-i.most (a.lo + i) nan ≡ get_or a.most.now (a.lo + i) nan =
    ap (λ l. get_or l (a.lo + i) nan) inv.most_is ∙ step-read (most-by s) _ (most-same s) a.lo a.part.now c.requires.part_bound i more in
    let at-read : get_or c.loop-i.at (a.lo + i) nan ≡ get_or a.at.now (a.lo + i) nan =
    ap (λ l. get_or l (a.lo + i) nan) inv.at_is ∙ step-read (at-by s) _ (at-same s) a.lo a.part.now (fits s) i more in
    record {
      most_is =
          ap (λ l. set l (a.lo + i) c.pick.result) inv.most_is
          ∙ step-set (most-by s) _ (most-same s) a.lo a.part.now c.requires.part_bound i more _ (c.pick.ensures ∙ ap (λ m. larger m (get_or a.part.now i nan)) most-read);
      at_is =
          ap (λ l. set l (a.lo + i) c.pick-in-loop-i.result) inv.at_is
          ∙ step-set (at-by s) _ (at-same s) a.lo a.part.now (fits s) i more _ (c.pick-in-loop-i.ensures ∙ ap₂ (λ m t. larger_at a.k m t (get_or a.part.now i nan)) most-read at-read);
    }

pub returns : goal.returns
unfolding led_most led_at
returns c =
    let s = (goal.at.returns c).Start in
    record {
      most_value = c.loop-i.invariant.most_is ∙ step-all (most-by s) _ (most-same s) c.args.lo c.args.part.now c.requires.part_bound _ c.loop-i-test.false;
      at_value = c.loop-i.invariant.at_is ∙ step-all (at-by s) _ (at-same s) c.args.lo c.args.part.now (fits s) _ c.loop-i-test.false;
    }
