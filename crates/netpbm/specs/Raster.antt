-- A raster: a picture's levels or a map's cells, with their width and height (docs/SPECIFICATION.md, "PGM", "PFM"). Definitions only.
use Rattle.std.specs.Prelude.{ℕ, ◌*◌, cond, ◌&&◌, List, length, eqb}
use Rattle.options.specs.Limits.{is_side}
use Rattle.refusals.specs.Steps.{Or, refused, given}

-- what a file holds: rows from the top down
pub record Raster (A : Type 0) : Type 0 where
  pub width : ℕ
  pub height : ℕ
  pub cells : List A

-- the data of a raster, `each` bytes for a cell: 43 where a side is not from 1 to 2,048, 44 where bytes are cut or left over
unfoldable pub sized : ℕ → ℕ → ℕ → List ℕ → Or (List ℕ)
sized each w h bytes = cond (is_side w && is_side h) (given (eqb (length bytes) (each * (w * h))) 44 bytes) (refused 43)
