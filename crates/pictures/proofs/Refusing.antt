-- The law of refusals, of a pixel and of a reading: their numbers are answered by the place of their rows. Assumes nothing.
use Rattle.std.proofs.Common.{◌≡◌, ℕ, List, ◌++◌, length, arith, lit<}
use Rattle.std.proofs.lemmas.Result.{err_from_is_err_and}
use Rattle.std.specs.Prelude.{Result, IsErrAnd}
use lib.Ieee.{Float}
use Rattle.refusals.specs.declared.Refusal.{Refusal}
use Rattle.refusals.specs.Numbers.{number_of}
use Rattle.refusals.specs.Answered.{Row, first_of, Numbered, ByPlace}
use Rattle.refusals.specs.Given.{given_back, number_back}
use Rattle.refusals.specs.Outcome.{answer_for}
use Rattle.refusals.proofs.Answering.{answers-by-place}
use Rattle.refusals.proofs.Groups.{by_first}
use Rattle.refusals.proofs.Numbers.{some}
use Rattle.refusals.proofs.Cases.{answer-refused}
use Rattle.refusals.proofs.Outcomes.{answer-number}
use Rattle.pictures.specs.Picture.{shape_rows, level_rows, pixel_of}
use Rattle.pictures.specs.Bilinear.{reading_rows, sample_of}
use Rattle.pictures.proofs.Shapes.{shape-numbered, shape_passed}

-- THEOREM: the level of a pixel is refused by the place of its row, 1, 2, then 26
pub pixel-by-place : (pic : List ℕ) (w h x y : ℕ) → ByPlace (level_rows (length pic) w h x y) (number_back (pixel_of pic w h x y))
unfolding pixel_of
pixel-by-place pic w h x y = answers-by-place (lit< tt, (lit< tt, (lit< tt, tt))) (answer-number _ _)

-- THEOREM: a reading between pixels likewise, 1, 2, then 25
pub bilinear-by-place : (pic : List ℕ) (w h : ℕ) (xf yf : Float) → ByPlace (reading_rows (length pic) w h xf yf) (number_back (sample_of pic w h xf yf))
unfolding sample_of
bilinear-by-place pic w h xf yf = answers-by-place (lit< tt, (lit< tt, (lit< tt, tt))) (answer-number _ _)

-- the first refusal of rows is that of these and of more
still-refused : (a b : List Row) → Numbered a → (e : Refusal) → number_of e ≡ first_of a → number_of e ≡ first_of (a ++ b)
still-refused a b n e same = by_first a b n (number_of e) same (λ z. absurd (omega (arith, some e)))

-- what a `?` answers with a refusal of the picture, whatever it would have made, and whatever rows come after
pub passed_on : {A : Type 0} (bytes w h : ℕ) (rest : List Row) (made : A) (r : Result A Refusal) (e : Refusal) → IsErrAnd r (λ f. f ≡ e) → number_of e ≡ first_of (shape_rows bytes w h)
    → given_back r ≡ answer_for (first_of (shape_rows bytes w h ++ rest)) made
passed_on bytes w h rest made r e i same =
    let p = err_from_is_err_and r i in
    rw (p.1, p.2) (answer-refused e made (still-refused (shape_rows bytes w h) rest (shape-numbered bytes w h) e same))

-- what a call knows once a picture is checked
pub ruleset checked = (shape_passed, passed_on)
