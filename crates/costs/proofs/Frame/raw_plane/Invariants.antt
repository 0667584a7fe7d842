-- `Frame::raw_plane` meets its contract: after y turns the plane's first y rows are filled. Assumes nothing.
use Prim.Native.Nat.{ℕ, ◌*◌, ◌≤◌}
use mathlib.Core.Path.{◌≡◌}
use mathlib.Core.List.{List, ◌++◌}
use lib.ListN.{length, drop}
use Rattle.lists.specs.Lists.{list_of}
use Rattle.costs.specs.Rooms.{RoomOf}
use Rattle.costs.specs.Volume.{plane_cell}
use Rattle.costs.proofs.Frame.raw_plane.Given as goal

abbrev pub invariant-loop-y : goal.invariant-loop-y
invariant-loop-y l =
    (l.y ≤ l.self.h) × (length l.plane ≡ l.self.w * l.self.h) × ((a b : List ℕ) → RoomOf l.room l.self.w l.self.h l.self.r l.shift a b → l.plane ≡ list_of (l.y * l.self.w) (plane_cell l.self.w l.self.h l.self.r a b l.shift) ++ drop (l.y * l.self.w) l.initial.plane)
