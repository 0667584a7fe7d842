-- A room that is cleared again. Assumes nothing.
use Prim.Native.Nat.{ℕ}
use mathlib.Core.Path.{◌≡◌, ap}
use mathlib.Core.List.{List, ◌++◌}
use lib.ListN.{drop, replicate, length-replicate}
use lib.Seq.{drop_at}
use Rattle.lists.specs.Lists.{cleared}

-- a room that was cleared twice is as if cleared once
pub cleared-twice : {A : Type 0} (z : A) (n : ℕ) (room : List A) → cleared z n (cleared z n room) ≡ cleared z n room
cleared-twice z n room = ap (λ l. replicate n z ++ l) (drop_at (replicate n z) (drop n room) n (length-replicate n z))
