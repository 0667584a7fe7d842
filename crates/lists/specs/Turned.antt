-- A volume of one picture as the other picture sees it: planes of w·h cells, one for each disparity from `first` on. Definitions only.
use Rattle.std.specs.Prelude.{ℕ, ◌+◌, ◌*◌, ◌/◌, ◌%◌, cond, List, ltb, ℤ, pos, negsuc, neg_ℤ, ◌+ℤ◌, get_or}
use Rattle.lists.specs.Lists.{list_of}

-- the cell in a column of a row of w cells, and z where the row has no such column
unfoldable pub in_row : {A : Type 0} → A → ℕ → ℤ → (ℕ → A) → A
in_row z w (negsuc _) cell = z
in_row z w (pos x) cell = cond (ltb x w) (cell x) z

-- the column that lies d = first + k columns to the left of pixel p
abbrev pub column_left : ℕ → ℤ → ℕ → ℕ → ℤ
column_left w first k p = pos (p % w) +ℤ neg_ℤ (first +ℤ pos k)

-- index k of pixel p of the left volume, from the right one: the cell in that column of the same row and plane
unfoldable pub turned_cell : {A : Type 0} → A → ℕ → ℕ → ℤ → List A → ℕ → ℕ → A
turned_cell z w h first cells k p = in_row z w (column_left w first k p) (λ x. get_or cells (k * (w * h) + (p / w * w + x)) z)

-- the left volume, from the right one
unfoldable pub turned : {A : Type 0} → A → ℕ → ℕ → ℤ → ℕ → List A → List A
turned z w h first count cells = list_of (count * (w * h)) (λ c. turned_cell z w h first cells (c / (w * h)) (c % (w * h)))
