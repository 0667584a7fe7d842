-- Pictures and maps lie in a list row by row. Definitions only.
use Rattle.std.specs.Prelude.{ℕ, zero, suc, ◌*◌, List, [], ◌++◌, get_or, take, drop}

-- row y of rows of w cells
abbrev pub row_of : {A : Type 0} → ℕ → List A → ℕ → List A
row_of w cells y = take w (drop (y * w) cells)

-- the level of a picture w wide at column x of row y
abbrev pub level_at : ℕ → List ℕ → ℕ → ℕ → ℕ
level_at w picture x y = get_or (row_of w picture y) x 0

-- h rows of w cells from the bottom up: the last row, and then the rows above it
unfoldable pub bottom_up : {A : Type 0} → ℕ → ℕ → List A → List A
bottom_up w zero cells = []
bottom_up w (suc h) cells = row_of w cells h ++ bottom_up w h cells
