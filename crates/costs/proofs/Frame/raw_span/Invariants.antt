-- `Frame::raw_span` meets its contract: after i turns the first i cells are filled. Assumes nothing.
use Prim.Native.Nat.{ℕ, ◌+◌}
use mathlib.Core.Path.{◌≡◌}
use mathlib.Core.List.{List, ◌++◌}
use lib.IntN.{ℤ}
use lib.ListN.{length, drop}
use Rattle.lists.specs.Lists.{list_of}
use Rattle.options.specs.Costs.{stored}
use Rattle.costs.specs.Raw.{pair_cost}
use Rattle.costs.specs.Rooms.{RoomOf}
use Rattle.costs.proofs.Frame.raw_span.Given as goal

abbrev pub invariant-loop-i : goal.invariant-loop-i
invariant-loop-i l =
    (length l.part ≡ length l.initial.part)
    × ((s : ℤ) (a b : List ℕ) → RoomOf l.room l.self.w l.self.h l.self.r s a b → l.part ≡ list_of l.i (λ k. stored (pair_cost l.self.w l.self.r a b s (l.x + k) (l.other + k) l.y)) ++ drop l.i l.initial.part)
