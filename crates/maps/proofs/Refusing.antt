-- The law of refusals, of each question about a map: its numbers are answered by the place of their rows. Assumes nothing.
use Prim.Native.Nat.{ℕ}
use mathlib.Core.List.{List}
use lib.ListN.{length}
use lib.Dec.{lit<}
use lib.Ieee.{Float}
use Rattle.refusals.specs.Answered.{Numbered, ByPlace}
use Rattle.refusals.specs.Given.{number_back}
use Rattle.refusals.proofs.Answering.{answers-by-place}
use Rattle.refusals.proofs.Outcomes.{answer-number}
use Rattle.maps.specs.Map.{size_rows, pixel_rows, cover_rows, got_at, valid_at, valid_count, cover_of, valid_range}

module _ (w h : ℕ) (cells : List Float) where
  size-numbered : Numbered (size_rows w h (length cells))
  size-numbered = (lit< tt, tt)

  module _ (x y : ℕ) where
    pixel-numbered : Numbered (pixel_rows w h (length cells) x y)
    pixel-numbered = (lit< tt, (lit< tt, tt))

    -- THEOREM: the cell of a pixel is refused by the place of its row, 23 before 26
    pub get-by-place : ByPlace (pixel_rows w h (length cells) x y) (number_back (got_at w h cells x y))
    unfolding got_at
    get-by-place = answers-by-place pixel-numbered (answer-number _ _)

    -- THEOREM: whether the cell of a pixel is valid, likewise
    pub valid-by-place : ByPlace (pixel_rows w h (length cells) x y) (number_back (valid_at w h cells x y))
    unfolding valid_at
    valid-by-place = answers-by-place pixel-numbered (answer-number _ _)

  -- THEOREM: the number of valid cells is refused with 23 exactly where its row applies
  pub valid-count-by-place : ByPlace (size_rows w h (length cells)) (number_back (valid_count w h cells))
  unfolding valid_count
  valid-count-by-place = answers-by-place size-numbered (answer-number _ _)

  -- THEOREM: the least and the greatest valid number, likewise
  pub valid-range-by-place : ByPlace (size_rows w h (length cells)) (number_back (valid_range w h cells))
  unfolding valid_range
  valid-range-by-place = answers-by-place size-numbered (answer-number _ _)

  -- THEOREM: the cover figure by a block is refused by the place of its row, 23 before 4, 5 and 8
  pub cover-by-place : (block : ℕ) → ByPlace (cover_rows w h (length cells) block) (number_back (cover_of w h cells block))
  unfolding cover_of
  cover-by-place block = answers-by-place (lit< tt, (lit< tt, (lit< tt, (lit< tt, tt)))) (answer-number _ _)
