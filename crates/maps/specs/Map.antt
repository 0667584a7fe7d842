-- What a map's functions answer, each from the list of the map's cells (docs/SPECIFICATION.md, "Map", "Cover"). Definitions only.
use Rattle.std.specs.Prelude.{ℕ, ◌+◌, ◌-◌, ◌*◌, ◌/◌, Bool, not, ◌&&◌, cond, Option, None, Some, List, [], ◌∷◌, ◌++◌, length, get_or, ltb, eqb, count_by, fold, Float}
use Rattle.std.specs.Float.{nan}
use Rattle.std.specs.Float.Ieee.{lt}
use Rattle.std.specs.Float.Ieee.Scale.{finite}
use Rattle.lists.specs.Sums.{count_below}
use Rattle.options.specs.Limits.{is_side, block_even, block_large, too_small}
use Rattle.options.specs.Frame.{inner}
use Rattle.refusals.specs.Answered.{Row, row, first_of}
use Rattle.refusals.specs.Outcome.{answer_for}
use Rattle.refusals.specs.Steps.{Or}
use Rattle.maps.specs.declared.Cell.{Cell}
use Rattle.maps.specs.declared.Span.{Span}
use Rattle.maps.specs.Cells.{cell_of}

-- width and height in their range, and as many cells as pixels
unfoldable pub good_size : ℕ → ℕ → ℕ → Bool
good_size w h n = is_side w && is_side h && eqb n (w * h)

-- whether the pixel lies in the map
unfoldable pub inside : ℕ → ℕ → ℕ → ℕ → Bool
inside w h x y = ltb x w && ltb y h

-- of a map: 23 it has no good size
abbrev pub size_rows : ℕ → ℕ → ℕ → List Row
size_rows w h n = row 23 (not (good_size w h n)) ∷ []

-- of one pixel of it: after that 26 the pixel lies outside
abbrev pub pixel_rows : ℕ → ℕ → ℕ → ℕ → ℕ → List Row
pixel_rows w h n x y = size_rows w h n ++ (row 26 (not (inside w h x y)) ∷ [])

-- of its cover by a block: after 23, as for matching, 4 block side zero or even; 5 odd block side over 31; 8 map narrower or lower than the block
abbrev pub cover_rows : ℕ → ℕ → ℕ → ℕ → List Row
cover_rows w h n block = size_rows w h n ++ (row 4 (block_even block) ∷ row 5 (block_large block) ∷ row 8 (too_small w h block) ∷ [])

-- the number in the buffer of the pixel (x, y)
abbrev pub pixel : ℕ → List Float → ℕ → ℕ → Float
pixel w cells x y = get_or cells (y * w + x) nan

-- the cell of a pixel
unfoldable pub got_at : ℕ → ℕ → List Float → ℕ → ℕ → Or Cell
got_at w h cells x y = answer_for (first_of (pixel_rows w h (length cells) x y)) (cell_of (pixel w cells x y))

-- whether the cell of a pixel is valid
unfoldable pub valid_at : ℕ → ℕ → List Float → ℕ → ℕ → Or Bool
valid_at w h cells x y = answer_for (first_of (pixel_rows w h (length cells) x y)) (finite (pixel w cells x y))

-- how many of the cells are valid
abbrev pub valids : List Float → ℕ
valids cells = count_by finite cells

-- the map's answer
unfoldable pub valid_count : ℕ → ℕ → List Float → Or ℕ
valid_count w h cells = answer_for (first_of (size_rows w h (length cells))) (valids cells)

-- how many cells of the inner frame are valid
unfoldable pub inner_valids : ℕ → ℕ → ℕ → List Float → ℕ
inner_valids w h r cells = count_below (w * h) (λ p. inner w h r p && finite (get_or cells p nan))

-- the cells of the inner frame, valid or not: (w-2r)(h-2r)
abbrev pub inner_area : ℕ → ℕ → ℕ → ℕ
inner_area w h r = (w - 2 * r) * (h - 2 * r)

-- 1000 times the valid cells of the inner frame, divided by its cells, rounded down
abbrev pub permille : ℕ → ℕ → ℕ → List Float → ℕ
permille w h r cells = 1000 * inner_valids w h r cells / inner_area w h r

-- THE COVER FIGURE by a block, whose r is half its side, rounded down
unfoldable pub cover_of : ℕ → ℕ → List Float → ℕ → Or ℕ
cover_of w h cells block = answer_for (first_of (cover_rows w h (length cells) block)) (permille w h (block / 2) cells)

-- the lesser and the greater of a further number and what there was: an equal one leaves the earlier
abbrev pub lesser_of : Float → Float → Float
lesser_of x least = cond (lt x least) x least

abbrev pub greater_of : Float → Float → Float
greater_of x greatest = cond (lt greatest x) x greatest

-- the least and the greatest once a further cell is seen, none before a valid one is
unfoldable pub widen : Option Span → Float → Option Span
widen None x = cond (finite x) (Some (record { least = x; greatest = x })) None
widen (Some s) x = Some (cond (finite x) (record { least = lesser_of x s.least; greatest = greater_of x s.greatest }) s)

-- the least and the greatest of the valid ones among cells, seen in their order
abbrev pub range_of : List Float → Option Span
range_of cells = fold widen None cells

-- the same as a map's answer
unfoldable pub valid_range : ℕ → ℕ → List Float → Or (Option Span)
valid_range w h cells = answer_for (first_of (size_rows w h (length cells))) (range_of cells)
