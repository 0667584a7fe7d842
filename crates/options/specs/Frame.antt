-- The inner frame of a picture or a map: the pixels whose window of 2r + 1 pixels a side lies within it
-- (docs/SPECIFICATION.md, "Words"). Definitions only.
use Rattle.std.specs.Prelude.{ℕ, ◌+◌, ◌/◌, ◌%◌, Bool, ◌&&◌, leb, ltb}

-- a window centred at x lies within n pixels: r ≤ x < n - r
abbrev pub within : ℕ → ℕ → ℕ → Bool
within n r x = leb r x && ltb (x + r) n

-- the inner frame: r ≤ x < w - r and r ≤ y < h - r
abbrev pub is_in_frame : ℕ → ℕ → ℕ → ℕ → ℕ → Bool
is_in_frame w h r x y = within w r x && within h r y

-- pixel p = y·w + x lies in it
abbrev pub inner : ℕ → ℕ → ℕ → ℕ → Bool
inner w h r p = is_in_frame w h r (p % w) (p / w)
