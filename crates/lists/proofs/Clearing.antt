-- A list that is cleared from the front: when all of it is. Assumes nothing.
use mathlib.Core.Path.{◌≡◌}
use mathlib.Core.List.{List, append-nil}
use lib.ListN.{length, replicate}
use lib.Seq.{drop-length}
use Rattle.lists.specs.Lists.{cleared}

-- as many cells as there are
pub cleared-all : {A : Type 0} (z : A) (cells : List A) → cleared z (length cells) cells ≡ replicate (length cells) z
cleared-all z cells = rw (drop-length cells, append-nil)
