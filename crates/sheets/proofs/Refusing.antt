-- A sheet that is written is refused by the place of its rows. Assumes nothing.
use Rattle.std.proofs.Common.{◌≡◌, ℕ, zero, suc, ◌+◌, Bool, true, false, cond, not, List, [], ◌∷◌, length, refl, ◌∙◌, arith, lit<, ne_eqb}
use lib.Ieee.{Float, nan, inf, fin, binary32, to_bits}
use Rattle.maps.specs.Map.{good_size}
use Rattle.refusals.specs.Answered.{first_of, Numbered, ByPlace}
use Rattle.refusals.specs.Steps.{Or, is, refused, and_then, given}
use Rattle.refusals.specs.Given.{number_back}
use Rattle.refusals.specs.Writes.{room_for, write_rows, byte_count}
use Rattle.refusals.proofs.Writes.{length-by-place, write-by-place}
use Rattle.sheets.specs.declared.code.Kind.{Kind}
use Rattle.sheets.specs.declared.code.Kind.TheVariants.{Whole, Exact}
use Rattle.sheets.specs.Number.{number_bytes}
use Rattle.sheets.specs.Code.{kind_of, known_kind, is_whole, code_of}
use Rattle.sheets.specs.Sheet.{head_bytes, cells_bytes, kind_sheet, sheet_of, cell_rows, kind_rows, sheet_rows}
use Rattle.sheets.proofs.Writings.{behind}

-- bytes in front of others change nothing of their refusal
behind-number : (front : List ℕ) (list : Or (List ℕ)) → number_back (behind front list) ≡ number_back list
behind-number front (is bytes) = refl
behind-number front (refused n) = refl

-- the cells' number is that of the first bad cell by rows
cells-number : (k : Kind) (cells : List Float) → number_back (cells_bytes k cells) ≡ first_of (cell_rows k cells)
unfolding cells_bytes code_of first_of
cells-number k [] = refl
cells-number k (nan ∷ xs) = behind-number (number_bytes 0) (cells_bytes k xs) ∙ cells-number k xs
cells-number k (inf s ∷ xs) = refl
cells-number Whole (fin s m e ∷ xs) = go (is_whole (fin s m e)) _ (cells-number Whole xs)
  where
    go : (t : Bool) (n : ℕ) → number_back (cells_bytes Whole xs) ≡ first_of (cell_rows Whole xs)
        → number_back (and_then (given t 32 n) (λ n. behind (number_bytes n) (cells_bytes Whole xs))) ≡ cond (not t) 32 (first_of (cell_rows Whole xs))
    go true n e = behind-number (number_bytes n) (cells_bytes Whole xs) ∙ e
    go false n e = refl
cells-number Exact (fin s m e ∷ xs) = behind-number (number_bytes (1 + to_bits binary32 (fin s m e))) (cells_bytes Exact xs) ∙ cells-number Exact xs

-- a kind's sheet has the number of its cells
kind-number : (k : Kind) (w h : ℕ) (cells : List Float) → number_back (kind_sheet k w h cells) ≡ first_of (cell_rows k cells)
unfolding kind_sheet
kind-number k w h cells = behind-number (head_bytes k w h) (cells_bytes k cells) ∙ cells-number k cells

-- THEOREM: a sheet's number is that of its first row that applies
pub sheet-number : (kind w h : ℕ) (cells : List Float) → number_back (sheet_of kind w h cells) ≡ first_of (sheet_rows kind w h cells)
unfolding sheet_of kind_of first_of
sheet-number kind w h cells = go (good_size w h (length cells)) kind
  where
    go : (t : Bool) (kind : ℕ) → number_back (cond t (and_then (kind_of kind) (λ k. kind_sheet k w h cells)) (refused 23)) ≡ cond (not t) 23 (cond (not (known_kind kind)) 35 (first_of (kind_rows (kind_of kind) cells)))
    go false kind = refl
    go true zero = kind-number Whole w h cells
    go true (suc zero) = kind-number Exact w h cells
    go true (suc (suc n)) = rw (ne_eqb (suc (suc n)) 0 (λ e. omega arith), ne_eqb (suc (suc n)) 1 (λ e. omega arith))

-- ---- the calls

cells-numbered : (k : Kind) (cells : List Float) → Numbered (cell_rows k cells)
cells-numbered k [] = tt
cells-numbered k (x ∷ xs) = (lit< tt, (lit< tt, cells-numbered k xs))

kind-numbered : (o : Or Kind) (cells : List Float) → Numbered (kind_rows o cells)
kind-numbered (is k) cells = cells-numbered k cells
kind-numbered (refused n) cells = tt

module _ (kind w h : ℕ) (cells : List Float) where
  numbered : Numbered (sheet_rows kind w h cells)
  numbered = (lit< tt, (lit< tt, kind-numbered (kind_of kind) cells))

  -- THEOREM: a sheet's length is answered by the place of its rows
  pub sheet-length-by-place : ByPlace (sheet_rows kind w h cells) (number_back (byte_count (sheet_of kind w h cells)))
  sheet-length-by-place = length-by-place numbered (sheet_of kind w h cells) (sheet-number kind w h cells)

  -- THEOREM: and so is what is written into an output of m bytes, whose length comes last
  pub write-sheet-by-place : (m : ℕ) → ByPlace (write_rows (sheet_rows kind w h cells) 33 m (sheet_of kind w h cells)) (number_back (byte_count (room_for 33 m (sheet_of kind w h cells))))
  write-sheet-by-place m = write-by-place (sheet_rows kind w h cells) numbered 33 m (lit< tt) (sheet_of kind w h cells) (sheet-number kind w h cells)
