-- A pixel before its choice, index by index. Assumes nothing.
use Prim.Native.Nat.{ℕ, suc, ◌+◌, ◌-◌, ◌*◌, ◌<◌, ◌≤◌}
use mathlib.Core.Path.{◌≡◌, refl, ap, ◌∙◌}
use mathlib.Core.Bool.{Bool, true, false, cond, ◌&&◌}
use mathlib.Core.List.{List}
use lib.IntN.{pos}
use lib.ListN.{length, get_or, take, drop, length-drop}
use lib.Seq.{length-take-le, get_or-take, get_or-drop}
use native.Mathlib.Omega.{arith}
use lib.Ieee.{Float, nan, fin, is_nan}
use Rattle.lists.specs.Lists.{list_of, all_below}
use Rattle.lists.proofs.Lists.{list_of-at, list_of-same}
use Rattle.options.specs.declared.RawCost.{RawCost}
use Rattle.options.specs.declared.RawCost.TheVariants.{Blank, Corr}
use Rattle.options.specs.Costs.{raw_of}
use Rattle.maps.specs.declared.Cell.{Cell}
use Rattle.maps.specs.declared.Cell.TheVariants.{Mark, At}
use Rattle.maps.specs.Cells.{in_buffer, cell_of}
use Rattle.holes.specs.Holes.{is_blank, is_hole, open_at, opened_by}

abbrev pub zero-cell : Cell
zero-cell = At (fin false 0 (pos 0))

-- what is written there is read back
read_back : (t : Bool) → cell_of (in_buffer (cond t Mark zero-cell)) ≡ cond t Mark zero-cell
unfolding is_nan
read_back true = refl
read_back false = refl

-- what a semi-global choice that keeps its holes makes of the pixel before it: the mark stays (W-207, docs/W-207-begun.patch, which has it in `choices`)
abbrev pub unless_marked : Cell → Cell → Cell
unless_marked Mark chosen = Mark
unless_marked (At d) chosen = chosen

-- and decides the choice
pub kept-open : (t : Bool) (chosen : Cell) → unless_marked (cell_of (in_buffer (cond t Mark zero-cell))) chosen ≡ cond t Mark chosen
unfolding is_nan
kept-open true chosen = refl
kept-open false chosen = refl

-- one more raw cost
one_more : (t : Bool) (c : RawCost) → opened_by c (cond t Mark zero-cell) ≡ cond (t && is_blank c) Mark zero-cell
one_more true Blank = refl
one_more true (Corr v) = refl
one_more false Blank = refl
one_more false (Corr v) = refl

-- before the first index every pixel is a hole
pub open_none : (raw : List Float) (area p : ℕ) → open_at raw area 0 p ≡ Mark
unfolding is_hole all_below
open_none raw area p = refl

-- and index k opens those that have a raw cost there
pub open_next : (raw : List Float) (area k p : ℕ)
    → opened_by (raw_of (get_or raw (k * area + p) nan)) (cell_of (in_buffer (open_at raw area k p))) ≡ open_at raw area (suc k) p
unfolding is_hole all_below
open_next raw area k p = ap (opened_by (raw_of (get_or raw (k * area + p) nan))) (read_back (is_hole raw area k p)) ∙ one_more (is_hole raw area k p) (raw_of (get_or raw (k * area + p) nan))

-- the cells of index k
abbrev pub plane_of : List Float → ℕ → ℕ → List Float
plane_of raw area k = take (k * area + area - k * area) (drop (k * area) raw)

module _ (raw : List Float) (area k : ℕ) (inside : k * area + area ≤ length raw) where
  one-plane : k * area + area - k * area ≡ area
  one-plane = omega arith

  pub plane-length : length (plane_of raw area k) ≡ area
  plane-length = rw one-plane (length-take-le area (drop (k * area) raw) (rw length-drop (omega arith)))

  plane-at : (p : ℕ) → p < area → get_or (plane_of raw area k) p nan ≡ get_or raw (k * area + p) nan
  plane-at p l = rw one-plane (get_or-take area (drop (k * area) raw) p nan l ∙ get_or-drop (k * area) raw p nan)

  -- index k over all pixels
  pub plane-next : list_of (length (plane_of raw area k)) (λ p. in_buffer (opened_by (raw_of (get_or (plane_of raw area k) p nan)) (cell_of (get_or (list_of area (λ i. in_buffer (open_at raw area k i))) p nan))))
      ≡ list_of area (λ p. in_buffer (open_at raw area (k + 1) p))
  plane-next =
      let next : k + 1 ≡ suc k = omega arith in
      rw (plane-length, next)
      (list_of-same area _ _ (λ p l. rw (plane-at p l, list_of-at area (λ i. in_buffer (open_at raw area k i)) p nan l, open_next raw area k p)))
