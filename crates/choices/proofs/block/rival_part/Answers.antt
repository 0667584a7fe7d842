-- `choices::block::rival_part` meets its contract: after i numbers the row is rivalled by those alone. Assumes nothing.
use Rattle.std.proofs.Common.{◌≡◌, ◌+◌, ℕ, get_or, set, ap, ◌∙◌}
use lib.Ieee.{Float, nan, inf}
use mathlib.Core.Bool.{true}
use Rattle.choices.specs.Leading.{rivalled, rivalled_by}
use Rattle.choices.proofs.Stepping.{step-none, step-all, step-read, step-set}
use Rattle.choices.proofs.Parts.{rival-kept}
use Rattle.choices.proofs.block.rival_part.Goals.{Start}
use Rattle.choices.proofs.block.rival_part.Goals as goal

-- what the loop does to a column's competitor
abbrev by : Start → ℕ → Float → Float
by c x v = rivalled c.args.k (get_or c.args.at.now x nan) (get_or c.args.most.now x nan) v

same : (c : Start) (x : ℕ) → by c x (inf true) ≡ get_or c.args.most.now x nan
same c x = rival-kept c.args.k _ _

pub loop-i-init : goal.loop-i-init
unfolding rivalled_by
loop-i-init c = let s = (goal.at.loop-i-init c).Start in step-none (by s) _ (same s) c.args.lo c.args.part.now c.requires.part_bound

pub loop-i-preserved : goal.loop-i-preserved
unfolding rivalled_by
loop-i-preserved c =
    let s = (goal.at.loop-i-preserved c).Start in
    let a = c.args in
    let i = c.loop-i.i in
    let more = c.loop-i-test.true in
    let read : get_or c.loop-i.most (a.lo + i) nan ≡ get_or a.most.now (a.lo + i) nan =
    ap (λ l. get_or l (a.lo + i) nan) c.loop-i.invariant ∙ step-read (by s) _ (same s) a.lo a.part.now c.requires.part_bound i more in
    let low = c.saturating_sub-low.ensures in
    ap (λ l. set l (a.lo + i) c.pick.result) c.loop-i.invariant
    ∙ step-set (by s) _ (same s) a.lo a.part.now c.requires.part_bound i more _
    (c.pick.ensures ∙ rw (c.is_rival.ensures, low) (ap (λ m. rivalled a.k (get_or a.at.now (a.lo + i) nan) m (get_or a.part.now i nan)) read))

pub returns : goal.returns
unfolding rivalled_by
returns c = let s = (goal.at.returns c).Start in c.loop-i.invariant ∙ step-all (by s) _ (same s) c.args.lo c.args.part.now c.requires.part_bound _ c.loop-i-test.false
