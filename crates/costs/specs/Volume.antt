-- The raw volume: the raw costs of all indices and pixels, as a list of cells (docs/SPECIFICATION.md, "Raw cost"). Definitions only.
use Rattle.std.specs.Prelude.{ℕ, ◌*◌, ◌/◌, ◌%◌, List, ℤ, Float}
use Rattle.options.specs.declared.Side.{Side}
use Rattle.options.specs.Costs.{stored}
use Rattle.lists.specs.Lists.{list_of}
use Rattle.costs.specs.Raw.{shifted_cost, shift_of, raw_cost}

-- row y of one plane: the reference a against the target b, s columns further right
unfoldable pub row_cells : ℕ → ℕ → ℕ → List ℕ → List ℕ → ℤ → ℕ → List Float
row_cells w h r a b s y = list_of w (λ x. stored (shifted_cost w h r a b s x y))

-- pixel p = y·w + x of one plane
abbrev pub plane_cell : ℕ → ℕ → ℕ → List ℕ → List ℕ → ℤ → ℕ → Float
plane_cell w h r a b s p = stored (shifted_cost w h r a b s (p % w) (p / w))

-- one plane, row by row
unfoldable pub plane_cells : ℕ → ℕ → ℕ → List ℕ → List ℕ → ℤ → List Float
plane_cells w h r a b s = list_of (w * h) (plane_cell w h r a b s)

-- index k of pixel p = y·w + x
abbrev pub volume_cell : Side → ℕ → ℕ → ℕ → ℤ → List ℕ → List ℕ → ℕ → ℕ → Float
volume_cell side w h r first left right k p = stored (raw_cost side w h r first left right (p % w) (p / w) k)

-- THE RAW VOLUME: cell k·w·h + y·w + x has index k of pixel (x, y)
unfoldable pub raw_volume : Side → ℕ → ℕ → ℕ → ℤ → ℕ → List ℕ → List ℕ → List Float
raw_volume side w h r first count left right =
    list_of (count * (w * h)) (λ c. volume_cell side w h r first left right (c / (w * h)) (c % (w * h)))

-- cell c of the planes of the reference a against the target b
abbrev pub planes_cell : Side → ℕ → ℕ → ℕ → ℤ → List ℕ → List ℕ → ℕ → Float
planes_cell side w h r first a b c = plane_cell w h r a b (shift_of side first (c / (w * h))) (c % (w * h))

-- the planes of all indices, one after the other
unfoldable pub planes_of : Side → ℕ → ℕ → ℕ → ℤ → ℕ → List ℕ → List ℕ → List Float
planes_of side w h r first count a b = list_of (count * (w * h)) (planes_cell side w h r first a b)
