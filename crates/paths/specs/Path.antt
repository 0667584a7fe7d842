-- The path costs L of one pixel, in binary32. `prev` holds L at the previous pixel, `cost` the matching costs c of this one
-- (docs/SPECIFICATION.md, "Path costs"). Definitions only.
use Rattle.std.specs.Prelude.{ℕ, zero, suc, ◌+◌, false, cond, List, [], ◌∷◌, length, get_or, ltb, Float}
use Rattle.std.specs.Float.{nan, inf, binary32}
use Rattle.std.specs.Float.Ieee.{add, sub}
use Rattle.lists.specs.Lists.{list_of}
use Rattle.numbers.specs.Plain.{smaller_of}

-- the least of m and a list, from the left
abbrev pub least_from : Float → List Float → Float
least_from m [] = m
least_from m (x ∷ xs) = least_from (smaller_of m x) xs

-- M, the least L of a pixel
unfoldable pub least_of : List Float → Float
least_of xs = least_from (inf false) xs

-- L(k-1) + p1; plus infinity, which no way is above, where k - 1 is off the range
unfoldable pub from_below : Float → List Float → ℕ → Float
from_below p1 prev zero = inf false
from_below p1 prev (suc k) = add binary32 (get_or prev k nan) p1

-- L(k+1) + p1; plus infinity where k + 1 is off the range
unfoldable pub from_above : Float → List Float → ℕ → Float
from_above p1 prev k = cond (ltb (k + 1) (length prev)) (add binary32 (get_or prev (k + 1) nan) p1) (inf false)

-- best: the least of L(k), L(k-1) + p1, L(k+1) + p1 and M + p2
abbrev pub best_of : Float → Float → Float → Float → Float
best_of same below above jump = smaller_of (smaller_of (smaller_of same below) above) jump

-- L = (c + best) - M
abbrev pub path_cell : Float → Float → Float → Float
path_cell c best m = sub binary32 (add binary32 c best) m

-- L(k) at a pixel that has a previous one
unfoldable pub step_cell : Float → Float → List Float → List Float → ℕ → Float
step_cell p1 p2 prev cost k =
    path_cell (get_or cost k nan) (best_of (get_or prev k nan) (from_below p1 prev k) (from_above p1 prev k) (add binary32 (least_of prev) p2)) (least_of prev)

-- L at a pixel that has a previous one
unfoldable pub step_vec : Float → Float → List Float → List Float → List Float
step_vec p1 p2 prev cost = list_of (length cost) (step_cell p1 p2 prev cost)

-- the sums of two lists, cell by cell
unfoldable pub add_vec : List Float → List Float → List Float
add_vec a b = list_of (length a) (λ k. add binary32 (get_or a k nan) (get_or b k nan))
