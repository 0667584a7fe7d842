-- `paths::pixel::add_path` meets its contract: after k turns the first k sums are made, and the others are as they were. Assumes nothing.
use mathlib.Core.Path.{refl, ap, sym, ◌∙◌}
use native.Mathlib.Nat.{le_refl}
use native.Mathlib.Omega.{arith}
use lib.ListN.{get_or}
use lib.Seq.{get_or-set_other}
use lib.Ieee.{Float, nan, binary32, add}
use Rattle.paths.proofs.Blocks.{begun_none, begun_cell, begun_all}
use Rattle.paths.proofs.Steps.{length-sum, get_d-sum}
use Rattle.paths.proofs.pixel.add_path.Goals as goal

pub loop-k-init : goal.loop-k-init
loop-k-init c = (begun_none (sym (length-sum c.args.sums.now c.args.path.now)), λ i h. refl)

pub loop-k-preserved : goal.loop-k-preserved
loop-k-preserved c =
    let a = c.args in
    let l = c.loop-k in
    let long = length-sum a.sums.now a.path.now in (
      begun_cell l.invariant.0 l.k (le_refl l.k) (omega arith) _
          (ap (λ (x : Float). add binary32 x (get_or a.path.now l.k nan)) (l.invariant.1 l.k (le_refl l.k)) ∙ sym (get_d-sum a.sums.now a.path.now l.k (omega arith))),
      λ i h. get_or-set_other l.sums l.k i _ nan (λ e. omega arith) ∙ l.invariant.1 i (omega arith),
    )

pub returns : goal.returns
returns c = begun_all c.loop-k.invariant.0 (omega (arith, length-sum c.args.sums.now c.args.path.now))
