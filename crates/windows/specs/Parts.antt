-- The parts of a table's row of products: where both pictures have a pixel, and beside that. Definitions only.
use Rattle.std.specs.Prelude.{◌≡◌, ℕ, suc, ◌+◌, ◌-◌, ◌*◌, ◌^◌, ◌≤◌, ◌<◌, min, List, ℤ, pos, negsuc, length, get_or}
use Rattle.lists.specs.Lists.{list_of}
use Rattle.windows.specs.declared.Overlap.{Overlap}
use Rattle.std.specs.Borrow.{Bor, MutBor}
use Rattle.std.specs.Fn.{Shared}
use Rattle.windows.specs.Table.{level_in, RowReady, next_row}

-- the columns of a row of n pixels for which another row, of m pixels, has a pixel s columns further right: `count` columns from `first` on,
-- the other row's from `other` on
unfoldable pub overlap_of : ℕ → ℕ → ℤ → Overlap
overlap_of n m (pos d) = record { first = 0; other = min d m; count = min n (m - d) }
overlap_of n m (negsuc d) = record { first = min (suc d) n; other = 0; count = min (n - suc d) m }

-- the product of two rows' levels at column i
abbrev pub product_in : List ℕ → List ℕ → ℕ → ℕ
product_in a b i = level_in a i * level_in b i

-- a part of a row, and the part of the row above it: as many cells, and room for a sum in each
pub record Beside (above below : List ℕ) : Type 0 where
  pub same : length below ≡ length above
  pub room : (x : ℕ) → get_or above x 0 < 2 ^ 52

-- a part of a row whose cells are the ones above them plus g 0, g 1, ..
unfoldable pub sums_below : (ℕ → ℕ) → List ℕ → List ℕ
sums_below g above = list_of (length above) (λ i. get_or above i 0 + g i)

-- a function of the columns below n may be called at each, and its values are small
pub record IsSmall (pre : ℕ → Type 0) (post : ℕ → ℕ → Type 0) (n : ℕ) : Type 0 where
  pub takes : (i : ℕ) → i < n → pre i
  pub small : (i v : ℕ) → i < n → post i v → v ≤ 65025

-- its values are g 0, g 1, ..
abbrev pub Gives : (ℕ → ℕ → Type 0) → ℕ → (ℕ → ℕ) → Type 0
Gives post n g = (i v : ℕ) → i < n → post i v → v ≡ g i

-- what fills row y + 1 of a table from row y: a function f of y, of the row to be filled and of the one above it
module _ {F : Type 0} (g : Shared F (ℕ × (MutBor (List ℕ) × (Bor (List ℕ) × Unit {0}))) (Unit {0} × (MutBor (List ℕ) × Unit {0}))) (f : F) where
  -- it may be called there
  abbrev pub TakesRow : ℕ → List ℕ → List ℕ → Type 0
  TakesRow y above below = (p : MutBor (List ℕ)) (q : Bor (List ℕ)) → p.now ≡ below → q.now ≡ above → g.pre f (y, (p, (q, tt)))

  -- a call of it may leave `after`
  pub record FillsRow (y : ℕ) (above below after : List ℕ) : Type 0 where
    pub row : MutBor (List ℕ)
    pub row-is : row.now ≡ below
    pub upper : Bor (List ℕ)
    pub upper-is : upper.now ≡ above
    pub left : MutBor (List ℕ)
    pub call : g.post f (y, (row, (upper, tt))) (tt, (left, tt))
    pub left-is : left.now ≡ after

  -- it fills the rows of a table of values v, w columns wide and h rows high
  pub record AddsRows (w h : ℕ) (v : ℕ → ℕ → ℕ) : Type 0 where
    pub takes : (y : ℕ) (above below : List ℕ) → y < h → RowReady w above → length below ≡ length above → TakesRow y above below
    pub fills : (y : ℕ) (above below after : List ℕ) → y < h → FillsRow y above below after → after ≡ next_row w (λ x. v x y) above
