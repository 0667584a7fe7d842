-- `Frame::fill_picture` meets its contract: the loop's first i cells of either table are sums and roots, and the rest are levels and squares. Assumes nothing.
use Rattle.costs.proofs.Turns.{TurnInv}
use Rattle.costs.proofs.Frame.fill_picture.Given as goal

abbrev pub invariant-loop-i : goal.invariant-loop-i
invariant-loop-i l = TurnInv l.self.w l.self.h l.self.r l.pic l.pair l.i
