-- A point in the rectangle falls in one cell, and one outside in none; how high a point can lie. Assumes nothing.
use Prim.Native.Nat.{ℕ, suc, ◌+◌, ◌*◌, ◌/◌, ◌%◌, ◌≤◌, ◌<◌}
use mathlib.Core.Path.{◌≡◌, refl, sym, ap₂, ◌∙◌}
use mathlib.Core.Bool.{Bool, true, false, cond, ◌&&◌, and-false}
use mathlib.Core.Logic.{◌⊎◌, inl, inr}
use native.Mathlib.Nat.{le_trans, div-le_self, mod-lt, div-add-mod', le-div_iff_mul-le, div-lt_iff_lt-mul}
use native.Mathlib.Omega.{arith}
use borrow.Author.Tests.{ltb-true, ltb-false, leb-true, lt-ltb, le-ltb, le-leb, lt-leb, eqb-true, eqb-false, eq-eqb, ne_eqb}
use lib.Dec.{leb, ltb, eqb}
use lib.IntN.{ℤ}
use lib.Signed.{le_z, lt_z}
use Rattle.std.specs.Prelude.{Some, None}
use Rattle.lists.proofs.Tests.{and_both, lt-or-le}
use Rattle.lists.proofs.Rows.{in-column, in-row, pixel-in, mul-pos-left, row_below}
use Rattle.volume.specs.declared.site.Site.{Site}
use Rattle.volume.specs.declared.metres.Spot.{Spot}
use Rattle.volume.specs.Metres.{size_most, is_near}
use Rattle.volume.specs.Rectangle.{above, good_cell, near_site, multiple, good_sides, wide_of, long_of, columns_of, rows_of, cells_of}
use Rattle.volume.specs.Heights.{is_between, is_inside, in_strip, falls_in, height_of}
use Rattle.volume.specs.Inner.{Near, cell_at, height_most}
use Rattle.volume.proofs.Differences.{above-size, part-above, part-below, between-above}

-- ---- heights

-- a difference of two near numbers
pub above_most : (a b : ℤ) → Near a → Near b → above a b ≤ height_most
above_most a b near-a near-b = omega (arith, above-size a b)

-- how many parts of length k it has
pub parts-most : (a b : ℤ) → Near a → Near b → (n k : ℕ) → n ≡ above a b → n / k ≤ height_most
parts-most a b near-a near-b n k e = le_trans (div-le_self n k) (omega (arith, above_most a b near-a near-b))

-- what a near site is
pub record NearSite (s : Site) : Type 0 where
  pub left : Near s.left
  pub right : Near s.right
  pub top : Near s.top
  pub bottom : Near s.bottom
  pub floor : Near s.floor

pub near : (v : ℤ) → is_near v ≡ true → Near v
near v e = leb-true _ size_most e

pub near-site : (s : Site) → near_site s ≡ true → NearSite s
unfolding near_site
near-site s e =
    let d = and_both (is_near s.left && is_near s.right && is_near s.top && is_near s.bottom) (is_near s.floor) e in
    let c = and_both (is_near s.left && is_near s.right && is_near s.top) (is_near s.bottom) d.0 in
    let b = and_both (is_near s.left && is_near s.right) (is_near s.top) c.0 in
    let a = and_both (is_near s.left) (is_near s.right) b.0 in
    record {
      left = near s.left a.0;
      right = near s.right a.1;
      top = near s.top b.1;
      bottom = near s.bottom c.1;
      floor = near s.floor d.1;
    }

-- a height of a near point over a near floor
pub height-most : (s : Site) → near_site s ≡ true → (p : Spot) → is_near p.z ≡ true → height_of s p ≤ height_most
unfolding height_of
height-most s e p low = above_most s.floor p.z (near-site s e).floor (near p.z low)

-- ---- parts of a line

-- the cell side is positive
pub cell-some : (s : Site) → good_cell s ≡ true → 0 < s.cell
unfolding good_cell
cell-some s e = omega (arith, leb-true 10 s.cell (and_both (leb 10 s.cell) (leb s.cell 10000) e).0)

-- and at most 10,000 mm
pub cell-most : (s : Site) → good_cell s ≡ true → s.cell ≤ 10000
unfolding good_cell
cell-most s e = leb-true s.cell 10000 (and_both (leb 10 s.cell) (leb s.cell 10000) e).1

-- the part of length k in which n lies
part_of : (k i n : ℕ) → 0 < k → leb (i * k) n && ltb n (suc i * k) ≡ eqb i (n / k)
part_of k i n some = go (lt-or-le i (n / k)) (lt-or-le (n / k) i)
  where
    go : (i < n / k) ⊎ (n / k ≤ i) → (n / k < i) ⊎ (i ≤ n / k) → leb (i * k) n && ltb n (suc i * k) ≡ eqb i (n / k)
    go (inl l) m =
        rw (
          le-leb (i * k) n ((le-div_iff_mul-le some).0 (omega arith)),
          le-ltb n (suc i * k) ((le-div_iff_mul-le some).0 l),
          ne_eqb i (n / k) (λ e. omega arith),
        )
    go (inr l) (inl m) =
        rw (
          lt-leb (i * k) n ((div-lt_iff_lt-mul some).0 m),
          ne_eqb i (n / k) (λ e. omega arith),
        )
    go (inr l) (inr m) =
        rw (
          le-leb (i * k) n ((le-div_iff_mul-le some).0 m),
          lt-ltb n (suc i * k) ((div-lt_iff_lt-mul some).0 (omega arith)),
          eq-eqb i (n / k) (omega arith),
        )

-- cell c is in column x of row y where it is cell y * w + x
place : (w x y c : ℕ) → x < w → eqb (c % w) x && eqb (c / w) y ≡ eqb c (y * w + x)
place w x y c l = go (eqb c (y * w + x)) refl
  where
    go : (t : Bool) → eqb c (y * w + x) ≡ t → eqb (c % w) x && eqb (c / w) y ≡ t
    go true e = rw (eqb-true c (y * w + x) e, in-column w x y l, in-row w x y l, eq-eqb x x refl, eq-eqb y y refl)
    go false e = apart (eqb (c % w) x) (eqb (c / w) y) refl refl
      where
        apart : (a b : Bool) → eqb (c % w) x ≡ a → eqb (c / w) y ≡ b → a && b ≡ false
        apart true true f g =
            absurd (eqb-false c (y * w + x) e (sym (div-add-mod' c w) ∙ ap₂ (λ q r. q * w + r) (eqb-true (c / w) y g) (eqb-true (c % w) x f)))
        apart true false f g = refl
        apart false b f g = refl

-- the part in which a number lies, if one, is the part that is named
pub part-none : (t : Bool) (n : ℕ) → cond t (Some n) None ≡ None → t ≡ false
part-none true n e = cc
part-none false n e = refl

pub part-some : (t : Bool) (n m : ℕ) → cond t (Some n) None ≡ Some m → (t ≡ true) × (m ≡ n)
part-some true n m e = (refl, cc)
part-some false n m e = cc

-- ---- one direction, from a low edge to a high one
module _ (s : Site) (some : 0 < s.cell) (low high v : ℤ) where
  -- v at or above the low edge lies in one strip
  strip : le_z low v ≡ true → (i : ℕ) → in_strip s low i v ≡ eqb i (above v low / s.cell)
  strip e i = part-above low v e (i * s.cell) (suc i * s.cell) ∙ part_of s.cell i (above v low) some

  inside-strip : is_between low high v ≡ true → (i : ℕ) → in_strip s low i v ≡ eqb i (above v low / s.cell)
  unfolding is_between
  inside-strip e i = strip (and_both (le_z low v) (lt_z v high) e).0 i

  -- the strip is one of them
  strip-below : multiple (above high low) s.cell ≡ true → is_between low high v ≡ true → above v low / s.cell < above high low / s.cell
  unfolding is_between multiple
  strip-below m e =
      let inside : above v low < above high low = ltb-true _ _ (sym (between-above low v high (and_both (le_z low v) (lt_z v high) e).0) ∙ e) in
      let whole = eqb-true (above high low % s.cell) 0 (and_both (ltb 0 (above high low)) (eqb (above high low % s.cell) 0) m).1 in
      (div-lt_iff_lt-mul some).1 (omega (arith, div-add-mod' (above high low) s.cell))

  -- v outside lies in none of them
  outside-strip : is_between low high v ≡ false → (i : ℕ) → i < above high low / s.cell → in_strip s low i v ≡ false
  outside-strip e i l = go (le_z low v) refl
    where
      go : (t : Bool) → le_z low v ≡ t → in_strip s low i v ≡ false
      go true f =
          let past : above high low ≤ above v low = ltb-false _ _ (sym (between-above low v high f) ∙ e) in
          let reached : suc i ≤ above v low / s.cell = (le-div_iff_mul-le some).1 (le_trans ((le-div_iff_mul-le some).0 l) past) in
          strip f i ∙ ne_eqb i (above v low / s.cell) (λ q. omega arith)
      go false f = part-below low v f (i * s.cell) (suc i * s.cell)

module _ (s : Site) (cell : good_cell s ≡ true) (sides : good_sides s ≡ true) (p : Spot) where
  some : 0 < s.cell
  some = cell-some s cell

  -- the two directions
  both-sides : (multiple (wide_of s) s.cell ≡ true) × (multiple (long_of s) s.cell ≡ true)
  unfolding good_sides
  both-sides = and_both (multiple (wide_of s) s.cell) (multiple (long_of s) s.cell) sides

  both-inside : is_inside s p ≡ true → (is_between s.left s.right p.x ≡ true) × (is_between s.top s.bottom p.y ≡ true)
  unfolding is_inside
  both-inside = and_both (is_between s.left s.right p.x) (is_between s.top s.bottom p.y)

  column-below : is_inside s p ≡ true → above p.x s.left / s.cell < columns_of s
  column-below inside = strip-below s some s.left s.right p.x both-sides.0 (both-inside inside).0

  -- the cell of a point inside is one of the grid's
  pub cell_below : is_inside s p ≡ true → cell_at s p < cells_of s
  unfolding cell_at
  cell_below inside =
      pixel-in (columns_of s) (rows_of s) _ _ (column-below inside) (strip-below s some s.top s.bottom p.y both-sides.1 (both-inside inside).1)

  -- it falls in that cell, and in no other
  pub falls-inside : is_inside s p ≡ true → (c : ℕ) → c < cells_of s → falls_in s c p ≡ eqb c (cell_at s p)
  unfolding falls_in cell_at
  falls-inside inside c below =
      ap₂ (λ a b. a && b)
      (inside-strip s some s.left s.right p.x (both-inside inside).0 (c % columns_of s))
      (inside-strip s some s.top s.bottom p.y (both-inside inside).1 (c / columns_of s))
      ∙ place (columns_of s) _ _ c (column-below inside)

  -- a point outside falls in none
  pub falls-outside : is_inside s p ≡ false → (c : ℕ) → c < cells_of s → falls_in s c p ≡ false
  unfolding is_inside falls_in
  falls-outside outside c below = go (is_between s.left s.right p.x) refl
    where
      column : c % columns_of s < columns_of s
      column = mod-lt c (mul-pos-left c (columns_of s) (rows_of s) below)

      go : (t : Bool) → is_between s.left s.right p.x ≡ t → falls_in s c p ≡ false
      go true e =
          rw (
            outside-strip s some s.top s.bottom p.y (rw e at outside) (c / columns_of s) (row_below (columns_of s) (rows_of s) c below),
            and-false,
          )
      go false e = rw (outside-strip s some s.left s.right p.x e (c % columns_of s) column)
