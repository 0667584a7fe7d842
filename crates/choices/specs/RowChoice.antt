-- Block choice in a row. Definitions only.
use Rattle.std.specs.Prelude.{ℕ, cond, List, Float}
use Rattle.lists.specs.Lists.{list_of}
use Rattle.options.specs.Frame.{within}
use Rattle.maps.specs.declared.Cell.{Cell}
use Rattle.maps.specs.declared.Cell.TheVariants.{Mark}
use Rattle.maps.specs.Cells.{in_buffer}
use Rattle.choices.specs.declared.block.Gates.{Gates}
use Rattle.choices.specs.declared.block.Row.{Row}
use Rattle.choices.specs.declared.block.Seen.{Seen}
use Rattle.choices.specs.declared.subpixel.Search.{Search}
use Rattle.choices.specs.Block.{block_choice, block_cell}
use Rattle.choices.specs.Seen.{seen_as, cell_in, column_costs}
use Rattle.choices.specs.Leading.{index_float, most_of, index_of, rival_of}

-- the index of the best of column x once n indices are seen
abbrev pub led_index : Row → Search → List Float → ℕ → ℕ → ℕ
led_index row search raw n x = index_of (cell_in row search raw x) n

-- each column's best once n indices are seen
abbrev pub most_row : Row → Search → List Float → ℕ → List Float
most_row row search raw n = list_of row.w (λ x. most_of (cell_in row search raw x) n)

-- and its index
abbrev pub at_row : Row → Search → List Float → ℕ → List Float
at_row row search raw n = list_of row.w (λ x. index_float (led_index row search raw n x))

-- the competitor of column x once n indices are seen
abbrev pub rival_in : Row → Search → List Float → ℕ → ℕ → Float
rival_in row search raw n x = rival_of (led_index row search raw search.count x) (cell_in row search raw x) n

-- each column's competitor once n indices are seen
abbrev pub rival_row : Row → Search → List Float → ℕ → List Float
rival_row row search raw n = list_of row.w (rival_in row search raw n)

-- the choice in column x: the mark in the frame of r columns
unfoldable pub column_cell : Row → ℕ → Search → Gates → List Float → ℕ → Cell
column_cell row r search gates raw x = cond (within row.w r x) (block_choice search gates (column_costs row search raw x)) Mark

-- the choices of a row
abbrev pub chosen_row : Row → ℕ → Search → Gates → List Float → List Float
chosen_row row r search gates raw = list_of row.w (λ x. in_buffer (column_cell row r search gates raw x))

-- what the map holds at pixel p
abbrev pub chosen_at : Seen → ℕ → ℕ → ℕ → Search → Gates → List Float → ℕ → Float
chosen_at seen w h r search gates raw p = in_buffer (block_cell w h r search gates (seen_as seen w h search raw) p)
