-- What the proofs of a map's functions share: what a good size says, and where a pixel's cell lies. Assumes nothing.
use mathlib.Core.Path.{◌≡◌, sym, ◌∙◌}
use Prim.Native.Nat.{ℕ, ◌+◌, ◌*◌, ◌≤◌, ◌<◌}
use native.Mathlib.Nat.{mul-le-mul}
use native.Mathlib.Omega.{arith}
use mathlib.Core.Bool.{Bool, true, false, ◌&&◌}
use mathlib.Core.List.{List}
use borrow.Author.Tests.{ltb-true, eqb-true, not-false, lt-ltb}
use lib.ListN.{length, get_or}
use lib.Dec.{ltb, eqb, lit<}
use lib.Ieee.{Float, nan}
use lib.Ieee.Scale.{finite}
use Rattle.lists.proofs.Tests.{and_both}
use Rattle.lists.proofs.Rows.{pixel-in}
use Rattle.options.specs.Limits.{side_most, is_side}
use Rattle.options.proofs.Sides.{side-fits}
use Rattle.refusals.specs.Answered.{first_of}
use Rattle.refusals.specs.Steps.{is}
use Rattle.refusals.proofs.Answering.{none_of}
use Rattle.std.specs.Prelude.{Option, None, Some}
use Rattle.maps.specs.declared.Span.{Span}
use Rattle.maps.specs.Cells.{cell_of}
use Rattle.maps.specs.Map.{good_size, inside, size_rows, pixel_rows, got_at, valids, valid_count, widen}

-- a map of a good size
pub record Good (w h n : ℕ) : Type 0 where
  pub wide : 1 ≤ w
  pub narrow : w ≤ side_most
  pub high : 1 ≤ h
  pub low : h ≤ side_most
  pub long : n ≡ w * h

pub good : (w h n : ℕ) → good_size w h n ≡ true → Good w h n
unfolding good_size
good w h n t =
    let all = and_both (is_side w && is_side h) (eqb n (w * h)) t in
    let sides = and_both (is_side w) (is_side h) all.0 in
    let across = side-fits w sides.0 in
    let down = side-fits h sides.1 in
    record { wide = across.least; narrow = across.most; high = down.least; low = down.most; long = eqb-true n (w * h) all.1 }

-- a map about which no question is refused
pub size-tested : (w h n : ℕ) → first_of (size_rows w h n) ≡ 0 → good_size w h n ≡ true
size-tested w h n none = not-false (good_size w h n) (none_of (size_rows w h n) (lit< tt, tt) none).0

-- there are few enough cells that 1,000 times their number fits
pub pixels-small : (w h : ℕ) → w ≤ side_most → h ≤ side_most → w * h ≤ side_most * side_most
pixels-small w h a b = mul-le-mul a b

-- a pixel that is not refused: its cell is among the map's, and the number of it fits
pub record Seat (w n x y : ℕ) : Type 0 where
  pub there : y * w + x < n
  pub fits : y * w + x < side_most * side_most

pub seat : (w h n x y : ℕ) → first_of (pixel_rows w h n x y) ≡ 0 → Seat w n x y
unfolding inside
seat w h n x y none =
    let tests = none_of (pixel_rows w h n x y) (lit< tt, (lit< tt, tt)) none in
    let g = good w h n (not-false (good_size w h n) tests.0) in
    let both = and_both (ltb x w) (ltb y h) (not-false (inside w h x y) tests.1.0) in
    let in_all = pixel-in w h x y (ltb-true x w both.0) (ltb-true y h both.1) in
    record { there = omega (arith, g.long); fits = omega (arith, pixels-small w h g.narrow g.low) }

-- where a map has a good size, and a pixel lies in it, the answers are no refusals
module _ (w h : ℕ) (cells : List Float) (size : good_size w h (length cells) ≡ true) where
  pub got_in : (x y : ℕ) → x < w → y < h → got_at w h cells x y ≡ is (cell_of (get_or cells (y * w + x) nan))
  unfolding got_at first_of inside
  got_in x y across down = rw (size, lt-ltb x w across, lt-ltb y h down)

  pub count-is : valid_count w h cells ≡ is (valids cells)
  unfolding valid_count first_of
  count-is = rw size

-- a number that is not valid widens no range
pub widen-not : (r : Option Span) (x : Float) (t : Bool) → t ≡ finite x → t ≡ false → r ≡ widen r x
unfolding widen
widen-not None x t e q = rw (sym e ∙ q)
widen-not (Some s) x t e q = rw (sym e ∙ q)
