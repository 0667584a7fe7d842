-- How the cells are asked: the pixels by rows, what a loop has passed that looks for the first, and what it asks. Assumes nothing.
use Prim.Native.Nat.{ℕ, ◌+◌, ◌*◌, ◌/◌, ◌%◌, ◌<◌, ◌≤◌}
use mathlib.Core.Path.{◌≡◌, refl, sym, ap, ◌∙◌, subst}
use mathlib.Core.Bool.{Bool, true, false, not, ◌||◌}
use mathlib.Core.List.{List}
use native.Mathlib.Nat.{le_refl, not-suc-le-zero, mod-lt, div-add-mod', suc-mul}
use native.Mathlib.Numerals.{add-one}
use native.Mathlib.Omega.{arith}
use borrow.Author.Tests.{lt-ltb, le-ltb, ltb-true}
use lib.Dec.{ltb}
use lib.ListN.{get_or}
use lib.Ieee.{Float, nan}
use lib.Ieee.Scale.{finite}
use Rattle.std.specs.Prelude.{Some, None}
use Rattle.std.specs.Bool.{then_some}
use Rattle.lists.proofs.Tests.{last_or}
use Rattle.lists.proofs.Rows.{in-column, in-row}
use Rattle.lists.specs.Lists.{first_not}
use Rattle.vendor.specs.declared.Check.{Check}
use Rattle.vendor.specs.declared.cells.Pixel.{Pixel}
use Rattle.vendor.specs.declared.cells.Question.{Question}
use Rattle.vendor.specs.Tests.{index_below, holds, holds_at}
use Rattle.vendor.specs.Inner.{PixelPlaced}
use Rattle.lists.proofs.Firsts.{first-none, first-here}

-- ---- the pixels by rows

-- a pixel's index from its row and column
placed-index : {w : ℕ} {at : Pixel} → PixelPlaced w at → at.p ≡ at.y * w + at.x
placed-index {w} {at} z = rw (z.column, z.row) (sym (div-add-mod' at.p w))

-- its column is one of the row
pub placed-column : {w : ℕ} {at : Pixel} → PixelPlaced w at → 1 ≤ w → at.x < w
placed-column {w} {at} z some = rw z.column (mod-lt at.p some)

-- a column of a row is a pixel
placed : (w x y p : ℕ) → x < w → p ≡ y * w + x → PixelPlaced w (record { p = p; x = x; y = y })
placed w x y p l e = record { column = sym (ap (λ n. n % w) e ∙ in-column w x y l); row = sym (ap (λ n. n / w) e ∙ in-row w x y l) }

-- after the last pixel of a row comes the first of the next
pub next_row : {w : ℕ} {at : Pixel} → PixelPlaced w at → 1 ≤ w → at.x + 1 ≡ w → PixelPlaced w (record { p = at.p + 1; x = 0; y = at.y + 1 })
next_row {w} {at} z some last =
    let rows : (at.y + 1) * w ≡ w + at.y * w = rw add-one (omega (arith, suc-mul at.y w)) in
    placed w 0 (at.y + 1) (at.p + 1) some (omega (arith, placed-index z))

-- after any other the next of its row
pub next-column : {w : ℕ} {at : Pixel} → PixelPlaced w at → 1 ≤ w → (at.x + 1 ≡ w → ⊥) → PixelPlaced w (record { p = at.p + 1; x = at.x + 1; y = at.y })
next-column {w} {at} z some inner =
    placed w (at.x + 1) at.y (at.p + 1) (omega (arith, placed-column z some, inner)) (omega (arith, placed-index z))

-- ---- what a loop has passed

-- p holds of all that a loop up to n has passed
pub record Passed (n : ℕ) (p : ℕ → Bool) (i : ℕ) : Type 0 where
  pub within : i ≤ n
  pub before : (j : ℕ) → j < i → p j ≡ true

-- at the start it has passed nothing
pub passed_none : (n : ℕ) (p : ℕ → Bool) → Passed n p 0
passed_none n p = record { within = omega arith; before = λ j l. absurd (not-suc-le-zero l) }

-- one more of which p holds
pub passed-next : {n : ℕ} {p : ℕ → Bool} {i : ℕ} → Passed n p i → i < n → p i ≡ true → Passed n p (i + 1)
passed-next {n} {p} {i} z l e =
    record {
      within = omega arith;
      before = λ j lj. last_or j i (omega arith) (λ (q : j ≡ i). subst (λ k. p k ≡ true) (sym q) e) (z.before j);
    }

-- the one it stops at is the first
pub passed_here : {n : ℕ} {p : ℕ → Bool} {i : ℕ} → Passed n p i → i < n → p i ≡ false → i ≡ first_not n p
passed_here {n} {p} {i} z l e = sym (first-here n i p l z.before e)

-- and where it comes to the end there is none
pub passed-all : {n : ℕ} {p : ℕ → Bool} {i : ℕ} → Passed n p i → n ≤ i → n ≡ first_not n p
passed-all {n} {p} {i} z l = sym (first-none n p (λ j lj. z.before j (omega arith)))

-- the same of an index that is one of n, if there is one
pub found_here : {n : ℕ} {p : ℕ → Bool} {i : ℕ} → Passed n p i → i < n → p i ≡ false → Some i ≡ index_below n (first_not n p)
found_here {n} {i = i} z l e = rw (← passed_here z l e, lt-ltb i n l)

pub found-none : {n : ℕ} {p : ℕ → Bool} {i : ℕ} → Passed n p i → n ≤ i → None ≡ index_below n (first_not n p)
found-none {n} z l = rw (← passed-all z l, le-ltb n n (le_refl n))

-- such an index is below n
pub below : (n i k : ℕ) → Some k ≡ index_below n i → k < n
below n i k e = go (ltb i n) refl e
  where
    go : (t : Bool) → ltb i n ≡ t → Some k ≡ then_some t i → k < n
    go true l e = let same : k ≡ i = cc in rw same (ltb-true i n l)
    go false l e = let z : ◌≡◌ {A = ℕ} 0 1 = cc in absurd (omega arith)

-- what pixel p of a map is asked is what its number is asked
pub asked-at : (q : Check) (left right : List ℕ) (question : Question) (map : List Float) (p : ℕ) (b : Bool) (v : Float)
    → b ≡ not (finite v) || holds q left right (p % q.frame.w) (p / q.frame.w) question v → v ≡ get_or map p nan
    → b ≡ holds_at q left right question map p
unfolding holds_at
asked-at q left right question map p b v e same = rw (← same) e

-- the same at a pixel with its column and row
pub asked-placed : (q : Check) (left right : List ℕ) (question : Question) (map : List Float) (at : Pixel) (b : Bool) (v : Float) → PixelPlaced q.frame.w at
    → b ≡ not (finite v) || holds q left right at.x at.y question v → v ≡ get_or map at.p nan
    → b ≡ holds_at q left right question map at.p
asked-placed q left right question map at b v z e same = asked-at q left right question map at.p b v (rw (z.column, z.row) at e) same
