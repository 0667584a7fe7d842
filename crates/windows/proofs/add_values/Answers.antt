-- `windows::add_values` meets its contract: after i turns the part's first i cells are filled, and `run` is the sum of the first i values. Assumes nothing.
use Rattle.std.proofs.Common.{refl, arith, ◌≤◌}
use Rattle.lists.specs.Lists.{list_of}
use Rattle.lists.specs.Sums.{sum_to}
use Rattle.windows.proofs.Parts.{values_next, values_end}
use Rattle.windows.proofs.add_values.Goals as goal

pub loop-i-init : goal.loop-i-init
unfolding list_of sum_to
loop-i-init g c = (omega arith, λ f gives. (refl, refl))

pub loop-i-preserved : goal.loop-i-preserved
loop-i-preserved g c =
    let v = c.value-run.result in
    let least : v ≤ 65025 = c.requires.small.small c.loop-i.i v (omega arith) c.value-run.ensures in (
      omega arith,
      λ f gives.
          values_next f c.loop-i.i _ _ _ _ (c.loop-i.invariant.1 f gives) (gives c.loop-i.i v (omega arith) c.value-run.ensures) (omega arith),
    )

pub returns : goal.returns
returns g c f gives = values_end f c.loop-i.i _ _ _ _ (c.loop-i.invariant.1 f gives) (omega arith) c.requires.rows.0.same
