-- What the inner functions ask of a check that is accepted. Definitions only.
use Rattle.std.specs.Prelude.{ℕ, ◌*◌, ◌/◌, ◌%◌, ◌≤◌, ◌<◌, ◌≡◌, List, ◌++◌, nat_abs, length, take}
use Rattle.options.specs.Limits.{most_count, first_most}
use Rattle.windows.specs.Window.{cells}
use Rattle.costs.specs.Roots.{picture_tables}
use Rattle.costs.specs.Rooms.{WindowFits, Picture, RoomOf}
use Rattle.choices.specs.declared.subpixel.Search.{Search}
use Rattle.vendor.specs.declared.Check.{Check}
use Rattle.vendor.specs.declared.cells.Pixel.{Pixel}
use Rattle.vendor.specs.declared.cells.Question.{Question}
use Rattle.vendor.specs.declared.cells.Question.TheVariants.{Fit, Unbeaten}
use Rattle.vendor.specs.Tests.{shift_at}

-- a search within its limits
pub record Searched (search : Search) : Type 0 where
  pub few : search.count ≤ most_count
  pub close : nat_abs search.first ≤ first_most

-- sizes and a search within their limits
pub record CheckSizes (q : Check) : Type 0 where
  pub frame : WindowFits q.frame.w q.frame.h q.frame.r
  pub searched : Searched q.search

-- two pictures whose tables stand in a room
pub record Tabled (room : List ℕ) (q : Check) (left right : List ℕ) : Type 0 where
  pub sized : CheckSizes q
  pub first : Picture q.frame.w q.frame.h left
  pub second : Picture q.frame.w q.frame.h right
  pub held : take (4 * cells q.frame.w q.frame.h) room ≡ picture_tables q.frame.w q.frame.h q.frame.r left ++ picture_tables q.frame.w q.frame.h q.frame.r right

-- what a question needs besides: the products' table of its index
abbrev pub Asked : List ℕ → Check → List ℕ → List ℕ → Question → Type 0
Asked room q left right Fit = Unit
Asked room q left right (Unbeaten k) = (k < q.search.count) × RoomOf room q.frame.w q.frame.h q.frame.r (shift_at q k) left right

-- a pixel's index, column and row in rows of w pixels
pub record PixelPlaced (w : ℕ) (at : Pixel) : Type 0 where
  pub column : at.x ≡ at.p % w
  pub row : at.y ≡ at.p / w

-- what a check works on: two pictures, a map of their size, and a room for the five tables
pub record Lent (q : Check) (left right : List ℕ) (mapLength roomLength : ℕ) : Type 0 where
  pub sized : CheckSizes q
  pub left-bytes : length left ≡ q.frame.w * q.frame.h
  pub right-bytes : length right ≡ q.frame.w * q.frame.h
  pub map-cells : mapLength ≡ q.frame.w * q.frame.h
  pub room-cells : 5 * cells q.frame.w q.frame.h ≤ roomLength
