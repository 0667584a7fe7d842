-- The path costs of a picture. Pixel p is column p % w of row p / w; volumes are pixel-major, so that its `count` cells are the run from p * count
-- (docs/SPECIFICATION.md, "Path costs"). Definitions only.
use Rattle.std.specs.Prelude.{ℕ, zero, suc, ◌+◌, ◌*◌, ◌/◌, ◌%◌, ◌≡◌, Bool, true, false, cond, List, [], ◌∷◌, ◌++◌, ◌⊎◌, ℤ, pos, negsuc, ◌-ℤ◌, Option, None, Some, length, get_or, replicate, ltb, Float}
use Rattle.std.specs.Float.{fin}
use Rattle.paths.specs.declared.direction.Walk.{Walk}
use Rattle.paths.specs.Bounds.{UpTo, All}
use Rattle.paths.specs.Path.{step_vec, add_vec}
use Rattle.paths.specs.Room.{run}

-- a whole number as a place on a line of n
abbrev pub place_in : ℕ → ℤ → Option ℕ
place_in n (pos x) = cond (ltb x n) (Some x) None
place_in n (negsuc x) = None

-- the place one step before x on a line of n
unfoldable pub step_back : ℕ → ℤ → ℕ → Option ℕ
step_back n d x = place_in n (pos x -ℤ d)

-- the pixel of a column and a row
abbrev pub pixel_of : ℕ → Option ℕ → Option ℕ → Option ℕ
pixel_of w (Some x) (Some y) = Some (y * w + x)
pixel_of w (Some x) None = None
pixel_of w None y = None

-- the previous pixel: one step of the direction back, and nowhere at a path start
unfoldable pub previous_of : Walk → ℕ → Option ℕ
previous_of k p = pixel_of k.w (step_back k.w k.dx (p % k.w)) (step_back k.h k.dy (p / k.w))

-- L at a pixel with matching costs `cost`, where L at pixel q is `path q`: the costs at a path start, else a step from the previous pixel
abbrev pub path_from : Walk → (ℕ → List Float) → List Float → Option ℕ → List Float
path_from k path cost None = cost
path_from k path cost (Some q) = step_vec k.p1 k.p2 (path q) cost

-- the cells of pixel p
abbrev pub path_cells : ℕ → List Float → ℕ → List Float
path_cells count v p = run count (p * count) v

-- L at pixel p, over the last n steps of its path
unfoldable pub path_within : Walk → List Float → ℕ → ℕ → List Float
path_within k c zero p = path_cells k.count c p
path_within k c (suc n) p = path_from k (path_within k c n) (path_cells k.count c p) (previous_of k p)

-- the row of slots for row y: two are used by turns, since a step reads its own row or the one visited before
abbrev pub slot_row : ℕ → ℕ
slot_row y = y % 2

-- the slot where L at pixel p is kept
unfoldable pub slot_of : ℕ → ℕ → ℕ
slot_of w p = slot_row (p / w) * w + p % w

-- the slot of a pixel that may be off the picture
abbrev pub slot_in : ℕ → Option ℕ → Option ℕ
slot_in w (Some p) = Some (slot_of w p)
slot_in w None = None

-- L at pixel p, where L at the previous pixel stands in its slot of l
abbrev pub slot_path : Walk → List Float → List Float → ℕ → List Float
slot_path k l c p = path_from k (λ q. path_cells k.count l (slot_of k.w q)) (path_cells k.count c p) (previous_of k p)

-- what stands in the slot of the pixel before p is known to be in the range of path costs
abbrev pub SlotReady : Walk → List Float → ℕ → Type 0
SlotReady k l p = (q : ℕ) → previous_of k p ≡ Some q → All (UpTo 1027) (path_cells k.count l (slot_of k.w q))

-- how many pixels there are
abbrev pub pixels_in : Walk → ℕ
pixels_in k = k.w * k.h

-- how many cells a volume has
abbrev pub cells_in : Walk → ℕ
cells_in k = k.w * k.h * k.count

-- the volumes of costs, of path costs and of sums have n cells each
abbrev pub HaveCells : ℕ → List Float → List Float → List Float → Type 0
HaveCells n costs paths sums = (length costs ≡ n) × (length paths ≡ n) × (length sums ≡ n)

-- L at pixel p: no path has more steps than the picture has pixels (so `path-start` and `path-step` of proofs/Walks hold)
unfoldable pub path_at : Walk → List Float → ℕ → List Float
path_at k c p = path_within k c (pixels_in k) p

-- f 0, f 1, .., f (n - 1), one after the other
abbrev pub joined : ℕ → (ℕ → List Float) → List Float
joined zero f = []
joined (suc n) f = f zero ++ joined n (λ p. f (suc p))

-- L at every pixel
unfoldable pub path_volume : Walk → List Float → List Float
path_volume k c = joined (pixels_in k) (path_at k c)

-- a step of one column or row, or none
abbrev pub UnitStep : ℤ → Type 0
UnitStep d = (d ≡ pos 0) ⊎ ((d ≡ pos 1) ⊎ (d ≡ negsuc 0))

-- a direction steps by at most one column and one row, and by one of them at least
pub record Direction (dx dy : ℤ) : Type 0 where
  pub column : UnitStep dx
  pub row : UnitStep dy
  pub moves : dx ≡ pos 0 → dy ≡ pos 0 → ⊥

-- whether the previous pixel has a smaller number, so that pixels are visited upwards
abbrev pub is_forward : ℤ → ℤ → Bool
is_forward dx (pos (suc y)) = true
is_forward (pos (suc x)) (pos zero) = true
is_forward (pos zero) (pos zero) = false
is_forward (negsuc x) (pos zero) = false
is_forward dx (negsuc y) = false

-- the eight directions in the Rust's order, columns and rows a step
abbrev pub directions : List (List ℤ)
directions =
    (pos 1 ∷ pos 0 ∷ [])
    ∷ (negsuc 0 ∷ pos 0 ∷ [])
    ∷ (pos 0 ∷ pos 1 ∷ [])
    ∷ (pos 0 ∷ negsuc 0 ∷ [])
    ∷ (pos 1 ∷ pos 1 ∷ [])
    ∷ (pos 1 ∷ negsuc 0 ∷ [])
    ∷ (negsuc 0 ∷ pos 1 ∷ [])
    ∷ (negsuc 0 ∷ negsuc 0 ∷ [])
    ∷ []

-- the walk along a direction
abbrev pub walk_along : ℕ → ℕ → ℕ → Float → Float → List ℤ → Walk
walk_along w h count p1 p2 d = record { w = w; h = h; count = count; dx = get_or d 0 (pos 0); dy = get_or d 1 (pos 0); p1 = p1; p2 = p2 }

-- the L of the directions ds, added one after the other to the sums s
unfoldable pub add_paths : (List ℤ → Walk) → List Float → List Float → List (List ℤ) → List Float
add_paths along c s [] = s
add_paths along c s (d ∷ ds) = add_paths along c (add_vec s (path_volume (along d) c)) ds

-- n zeros
abbrev pub zeros : ℕ → List Float
zeros n = replicate n (fin false 0 (pos 0))

-- the eight L added in that order, from zero
unfoldable pub path_sums : ℕ → ℕ → ℕ → Float → Float → List Float → List Float
path_sums w h count p1 p2 c = add_paths (walk_along w h count p1 p2) c (zeros (w * h * count)) directions
