-- The map of a match, from its raw volumes (docs/SPECIFICATION.md, "Steps"). Definitions only.
use Rattle.std.specs.Prelude.{ℕ, ◌*◌, ◌/◌, cond, List, map, nat_abs, Float}
use Rattle.options.specs.declared.BlockMatchOptions.{BlockMatchOptions}
use Rattle.options.specs.declared.Mode.{Mode}
use Rattle.options.specs.declared.Mode.TheVariants.{Block, SemiGlobal}
use Rattle.options.specs.declared.Side.{Side}
use Rattle.options.specs.declared.Side.TheVariants.{Left, Right}
use Rattle.costs.specs.Volume.{raw_volume}
use Rattle.maps.specs.declared.Cell.{Cell}
use Rattle.maps.specs.Cells.{in_buffer}
use Rattle.choices.specs.declared.subpixel.Search.{Search}
use Rattle.choices.specs.declared.block.Gates.{Gates}
use Rattle.choices.specs.Block.{block_map}
use Rattle.choices.specs.SemiGlobal.{semi_map}
use Rattle.choices.specs.LeftRight.{left_right}
use Rattle.paths.specs.Cost.{matching_costs}
use Rattle.paths.specs.Walk.{path_sums}

-- r, half of the block's side, rounded down
abbrev pub half : BlockMatchOptions → ℕ
half o = o.block_size / 2

-- how many disparities are searched
abbrev pub count_of : BlockMatchOptions → ℕ
count_of o = nat_abs o.num_disparities

-- what is searched
abbrev pub search_of : BlockMatchOptions → Search
search_of o = record { first = o.min_disparity; count = count_of o; subpixel = o.subpixel }

-- what rejects a block choice
abbrev pub gates_of : BlockMatchOptions → Gates
gates_of o = record { min_correlation = o.min_correlation; uniqueness_ratio = o.uniqueness_ratio }

-- the raw volume of w by h pictures from one side
abbrev pub volume_of : ℕ → ℕ → BlockMatchOptions → Side → List ℕ → List ℕ → List Float
volume_of w h o side left right = raw_volume side w h (half o) o.min_disparity (count_of o) left right

-- the sums of the eight path costs, of the matching costs of a raw volume
abbrev pub sums_from : ℕ → ℕ → BlockMatchOptions → List Float → List Float
sums_from w h o volume = path_sums w h (count_of o) o.sgm_p1 o.sgm_p2 (matching_costs (w * h) (count_of o) volume)

-- the cells chosen from one side's raw volume in a mode: by the raw costs themselves, or by path sums
abbrev pub chosen_in : Mode → ℕ → ℕ → BlockMatchOptions → List Float → List Cell
chosen_in Block w h o volume = block_map w h (half o) (search_of o) (gates_of o) volume
chosen_in SemiGlobal w h o volume = semi_map w h (half o) (search_of o) (sums_from w h o volume)

-- the map made from one side, as it lies in a float buffer
abbrev pub side_map : ℕ → ℕ → BlockMatchOptions → List Float → List Float
side_map w h o volume = map in_buffer (chosen_in o.mode w h o volume)

-- the left map, after the left-right test against the right map where that is on
abbrev pub tested : ℕ → BlockMatchOptions → List Float → List Float → List Float
tested w o left right = cond o.lr_consistency (left_right w o.lr_max_diff left right) left

-- the map from the two raw volumes: nothing else of the pictures is looked at
abbrev pub map_from : ℕ → ℕ → BlockMatchOptions → List Float → List Float → List Float
map_from w h o left right = tested w o (side_map w h o left) (side_map w h o right)

-- THE MAP of two w by h pictures
unfoldable pub map_of : ℕ → ℕ → BlockMatchOptions → List ℕ → List ℕ → List Float
map_of w h o left right = map_from w h o (volume_of w h o Left left right) (volume_of w h o Right left right)
