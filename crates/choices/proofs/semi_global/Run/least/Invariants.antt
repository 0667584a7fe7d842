-- `choices::semi_global::Run::least` meets its contract: the rest of the walk goes on from the least so far. Assumes nothing.
use Rattle.std.proofs.Common.{◌≡◌, drop}
use Rattle.choices.specs.SemiGlobal.{lesser, least_of}
use Rattle.lists.specs.Lists.{walk}
use Rattle.choices.proofs.semi_global.Run.least.Given as goal

abbrev pub invariant-loop-k : goal.invariant-loop-k
invariant-loop-k l = walk lesser l.k l.least (drop l.k l.sum-items) ≡ least_of l.self.sums.now
