-- The map made from one side, cell by cell. Assumes nothing.
use Prim.Native.Nat.{ℕ, ◌*◌, ◌<◌}
use mathlib.Core.Path.{◌≡◌, ap, ◌∙◌}
use mathlib.Core.List.{List, map}
use lib.ListN.{length, get_or}
use lib.Ieee.{Float, nan}
use Rattle.lists.specs.Lists.{list_of}
use Rattle.lists.proofs.Lists.{list_of-at, list_of-length, map-list_of}
use Rattle.options.specs.declared.Mode.{Mode}
use Rattle.options.specs.declared.Mode.TheVariants.{Block, SemiGlobal}
use Rattle.options.specs.declared.Side.{Side}
use Rattle.options.specs.declared.BlockMatchOptions.{BlockMatchOptions}
use Rattle.maps.specs.Cells.{in_buffer}
use Rattle.choices.specs.Block.{block_cell, block_map}
use Rattle.choices.specs.SemiGlobal.{semi_cell, semi_map}
use Rattle.matching.specs.Maps.{half, search_of, gates_of, volume_of, sums_from, chosen_in, side_map}

-- the map made from one side of a pair
abbrev pub side_of : ℕ → ℕ → BlockMatchOptions → Side → List ℕ → List ℕ → List Float
side_of w h o side left right = side_map w h o (volume_of w h o side left right)

-- the cell of pixel p by a raw volume, in block mode
abbrev pub cell_from : ℕ → ℕ → BlockMatchOptions → List Float → ℕ → Float
cell_from w h o v p = in_buffer (block_cell w h (half o) (search_of o) (gates_of o) v p)

-- and in each mode
abbrev pub cell_by : Mode → ℕ → ℕ → BlockMatchOptions → List Float → ℕ → Float
cell_by Block w h o v p = cell_from w h o v p
cell_by SemiGlobal w h o v p = in_buffer (semi_cell w h (half o) (search_of o) (sums_from w h o v) p)

chosen_is : (mode : Mode) (w h : ℕ) (o : BlockMatchOptions) (v : List Float)
    → map in_buffer (chosen_in mode w h o v) ≡ list_of (w * h) (cell_by mode w h o v)
unfolding block_map semi_map
chosen_is Block w h o v = map-list_of in_buffer (w * h) (block_cell w h (half o) (search_of o) (gates_of o) v)
chosen_is SemiGlobal w h o v = map-list_of in_buffer (w * h) (semi_cell w h (half o) (search_of o) (sums_from w h o v))

module _ (w h : ℕ) (o : BlockMatchOptions) {mode : Mode} (b : o.mode ≡ mode) (v : List Float) where
  side-is : side_map w h o v ≡ list_of (w * h) (cell_by mode w h o v)
  side-is = ap (λ mode. map in_buffer (chosen_in mode w h o v)) b ∙ chosen_is mode w h o v

  -- it has a cell for each pixel
  pub side-length : length (side_map w h o v) ≡ w * h
  side-length = ap length side-is ∙ list_of-length (w * h) _

  -- and that of pixel p is the one chosen there
  pub side-at : (p : ℕ) → p < w * h → get_or (side_map w h o v) p nan ≡ cell_by mode w h o v p
  side-at p l = ap (λ m. get_or m p nan) side-is ∙ list_of-at (w * h) _ p nan l
