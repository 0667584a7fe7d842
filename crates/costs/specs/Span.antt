-- Where in a row two windows lie within it. Definitions only.
use Rattle.std.specs.Prelude.{ℕ, suc, ◌+◌, ◌-◌, ◌*◌, ℤ, pos, negsuc}
use Rattle.costs.specs.declared.plane.Span.{Span}

-- the columns whose window lies in a row of w pixels, and whose target's window, s columns further right, does too: `count` columns from `first` on,
-- the target's from `other` on
unfoldable pub window_span : ℕ → ℕ → ℤ → Span
window_span w r (pos d) = record { first = r; other = r + d; count = w - (2 * r + d) }
window_span w r (negsuc d) = record { first = r + suc d; other = r; count = w - (2 * r + suc d) }
