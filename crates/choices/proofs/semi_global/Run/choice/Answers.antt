-- `choices::semi_global::Run::choice` meets its contract. Assumes nothing.
use Rattle.std.proofs.Common.{◌≤◌, length, lit<, arith}
use Rattle.options.specs.Limits.{most_count}
use Rattle.choices.proofs.Smallest.{least-in}
use Rattle.choices.proofs.semi_global.Run.choice.Goals as goal

pub placed-requires : goal.placed-requires
placed-requires c =
    let few : length c.args.self.sums.now ≤ most_count = omega (arith, c.args.self.whole, c.args.self.few) in
    rw c.least-least.ensures (least-in most_count _ (lit< tt) few)
