-- What a reading that is not refused has. Assumes nothing.
use Rattle.std.proofs.Common.{◌≡◌, ℕ, ◌*◌, true, false, ◌||◌, List, [], ◌∷◌, length, sym, refl, ap, ◌∙◌, lit<, eq-eqb}
use lib.Ieee.{Float, nan, inf, fin, up, down, ne, is_nan}
use Rattle.lists.proofs.Tests.{or-false}
use Rattle.refusals.specs.Answered.{row, first_of}
use Rattle.refusals.specs.Given.{number_back}
use Rattle.refusals.proofs.Answering.{none_of}
use Rattle.refusals.proofs.Groups.{by-rest, none-of-both}
use Rattle.refusals.specs.Steps.{is}
use Rattle.refusals.proofs.Outcomes.{answer-number}
use Rattle.pictures.specs.Picture.{shape_rows}
use Rattle.pictures.specs.Bilinear.{value_at, reading_rows, sample_of}
use Rattle.pictures.proofs.Shapes.{shape-numbered}

-- a NaN is what differs from itself
pub nan-test : (x : Float) → ne x x ≡ is_nan x
unfolding ne is_nan
nan-test nan = refl
nan-test (inf true) = refl
nan-test (inf false) = refl
nan-test (fin true m e) = rw (eq-eqb (m * up e * down e) (m * up e * down e) refl)
nan-test (fin false m e) = rw (eq-eqb (m * up e * down e) (m * up e * down e) refl)

-- what a reading that is not refused has
pub record Readable (pic : List ℕ) (w h : ℕ) (xf yf : Float) : Type 0 where
  pub good : first_of (shape_rows (length pic) w h) ≡ 0
  pub x-is : is_nan xf ≡ false
  pub y-is : is_nan yf ≡ false

module _ (pic : List ℕ) (w h : ℕ) (xf yf : Float) where
  -- a reading is not refused exactly where the picture is not, and neither coordinate is a NaN
  pub readable : first_of (reading_rows (length pic) w h xf yf) ≡ 0 → Readable pic w h xf yf
  readable none =
      let groups = none-of-both (shape_rows (length pic) w h) (row 25 (is_nan xf || is_nan yf) ∷ []) (shape-numbered (length pic) w h) none in
      let numbers = or-false (is_nan xf) (is_nan yf) (none_of (row 25 (is_nan xf || is_nan yf) ∷ []) (lit< tt, tt) groups.1).0 in
      record { good = groups.0; x-is = numbers.0; y-is = numbers.1 }

  pub reading-none : Readable pic w h xf yf → first_of (reading_rows (length pic) w h xf yf) ≡ 0
  unfolding first_of
  reading-none r = by-rest (shape_rows (length pic) w h) (row 25 (is_nan xf || is_nan yf) ∷ []) (shape-numbered (length pic) w h) r.good ∙ rw (r.x-is, r.y-is)

  -- what an answer with a value says
  pub record ReadAt (v : Float) : Type 0 where
    pub reads : Readable pic w h xf yf
    pub value : value_at pic w h xf yf ≡ v

  pub read_at : (v : Float) → sample_of pic w h xf yf ≡ is v → ReadAt v
  unfolding sample_of
  read_at v e =
      let none = sym (answer-number (value_at pic w h xf yf) (first_of (reading_rows (length pic) w h xf yf))) ∙ ap number_back e in
      let same : is (value_at pic w h xf yf) ≡ is v = rw none at e in
      record { reads = readable none; value = cc }
