-- What a call that is not refused has: a map of a good size, an index of its height, and for an edit a cell inside. Assumes nothing.
use mathlib.Core.Path.{◌≡◌, sym, ◌∙◌}
use Prim.Native.Nat.{ℕ, ◌+◌, ◌*◌, ◌^◌, ◌≤◌, ◌<◌}
use native.Mathlib.Omega.{arith}
use mathlib.Core.Bool.{true}
use borrow.Author.Tests.{eqb-true, ltb-true, not-false}
use lib.Dec.{eqb, ltb, lit<}
use Rattle.lists.proofs.Tests.{and_both}
use Rattle.lists.proofs.Rows.{pixel-in, row_in}
use Rattle.refusals.specs.Answered.{first_of}
use Rattle.refusals.proofs.Answering.{none_of}
use Rattle.refusals.proofs.Groups.{by-rest}
use Rattle.maps.specs.Map.{good_size, inside, size_rows, pixel_rows}
use Rattle.maps.proofs.Facts.{Good, good, pixels-small}
use Rattle.rows.specs.declared.Edit.{Edit}
use Rattle.rows.specs.Index.{index_rows, fresh_rows, fresh_refusal, edit_rows, edit_refusal}
use Rattle.rows.proofs.Refusing.{fresh-numbered, edit-numbered}

-- an index of m records fits a map of n cells
pub record Fits (w h n m : ℕ) : Type 0 where
  pub tested : good_size w h n ≡ true
  pub size : Good w h n
  pub long : m ≡ h

-- an edit fits them
pub record EditFits (w h n m : ℕ) (e : Edit) : Type 0 where
  pub both : Fits w h n m
  pub across : e.x < w
  pub down : e.y < h

-- its cell lies among n cells, which are few
pub record Placed (w n : ℕ) (e : Edit) : Type 0 where
  pub there : e.y * w + e.x < n
  pub few : n < 2 ^ 32

module _ (w h n m : ℕ) where
  fits : good_size w h n ≡ true → eqb m h ≡ true → Fits w h n m
  fits size long = record { tested = size; size = good w h n size; long = eqb-true m h long }

  pub fresh-fits : fresh_refusal w h n m ≡ 0 → Fits w h n m
  fresh-fits none =
      let tests = none_of (fresh_rows w h n m) (fresh-numbered w h n m) none in
      fits (not-false (good_size w h n) tests.0) (not-false (eqb m h) tests.1.0)

  module _ (e : Edit) where
    pub edit-fits : edit_refusal w h n m e ≡ 0 → EditFits w h n m e
    unfolding inside
    edit-fits none =
        let tests = none_of (edit_rows w h n m e) (edit-numbered w h n m e) none in
        let within = and_both (ltb e.x w) (ltb e.y h) (not-false (inside w h e.x e.y) tests.1.0) in
        record {
          both = fits (not-false (good_size w h n) tests.0) (not-false (eqb m h) tests.1.1.0);
          across = ltb-true e.x w within.0;
          down = ltb-true e.y h within.1;
        }

    -- the cell of an edit that fits is among the map's, and so is its row
    pub cell-there : EditFits w h n m e → Placed w n e
    cell-there f = record {
      there = omega (arith, pixel-in w h e.x e.y f.across f.down, f.both.size.long);
      few = omega (arith, f.both.size.long, pixels-small w h f.both.size.narrow f.both.size.low);
    }

    pub row-there : EditFits w h n m e → e.y * w + w ≤ n
    row-there f = row_in e.y h w n f.down (omega (arith, f.both.size.long))

-- what the two tests of a call say together
module _ (w h n m : ℕ) (index : 0 ≡ first_of (index_rows h m)) where
  pub fresh-none : 0 ≡ first_of (size_rows w h n) → fresh_refusal w h n m ≡ 0
  fresh-none size = by-rest (size_rows w h n) (index_rows h m) (lit< tt, tt) (sym size) ∙ sym index

  pub fresh-tested : 0 ≡ first_of (size_rows w h n) → Fits w h n m
  fresh-tested size = fresh-fits w h n m (fresh-none size)

  pub edit-tested : (e : Edit) → 0 ≡ first_of (pixel_rows w h n e.x e.y) → EditFits w h n m e
  edit-tested e pixel = edit-fits w h n m e (by-rest (pixel_rows w h n e.x e.y) (index_rows h m) (lit< tt, (lit< tt, tt)) (sym pixel) ∙ sym index)
