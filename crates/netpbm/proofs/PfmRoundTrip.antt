-- THE ROUND TRIP: reading a map that was written gives the map back. Assumes nothing.
use Prim.Native.Nat.{ℕ, ◌*◌}
use mathlib.Core.Path.{◌≡◌, refl, ap, ap₂, ◌∙◌}
use mathlib.Core.List.{List, [], ◌∷◌, map}
use native.Mathlib.Nat.{mul_comm}
use native.Mathlib.Omega.{arith}
use borrow.Author.Tests.{eq-eqb}
use lib.ListN.{length, take}
use lib.Seq.{take_at, drop_at}
use lib.Ieee.{Float}
use Rattle.std.specs.Prelude.{Result, Ok}
use Rattle.refusals.specs.declared.Refusal.{Refusal}
use Rattle.refusals.proofs.Numbers.{known_by}
use Rattle.lists.specs.Rows.{bottom_up}
use Rattle.refusals.specs.Steps.{is}
use Rattle.refusals.specs.Writes.{WriteOutcome}
use Rattle.lists.proofs.Rows.{bottom_up-length, bottom_up-back, bottom_up-map}
use Rattle.refusals.proofs.Writes.{written_is}
use Rattle.maps.specs.Cells.{AllFit}
use Rattle.maps.proofs.Facts.{good}
use Rattle.netpbm.specs.declared.order.Order.{Order}
use Rattle.netpbm.specs.declared.order.Order.TheVariants.{Little}
use Rattle.netpbm.specs.declared.raster.Size.{Size}
use Rattle.netpbm.specs.Pfm.{cell_bytes, cells_bytes, pfm_of, file_cell, file_cells, read_pfm, NoInfinity}
use Rattle.netpbm.specs.Outcome.{ReadOutcome}
use Rattle.netpbm.proofs.Orders.{cell-back, cell-four, cells-length}
use Rattle.netpbm.proofs.PfmHeaders.{pfm-head-read, pfm-head-written}
use Rattle.netpbm.proofs.PfmWritings.{pfm-good}
use Rattle.netpbm.proofs.Takes.{sized-taken}

-- ---- cells

-- every cell of what was written is read
cells-through : (o : Order) (cells : List Float) → file_cells o (length cells) (cells_bytes o cells) ≡ map (λ x. file_cell o (cell_bytes o x)) cells
unfolding cells_bytes file_cells
cells-through o [] = refl
cells-through o (x ∷ xs) =
    let four = cell-four o x in
    rw (take_at (cell_bytes o x) (cells_bytes o xs) 4 four, drop_at (cell_bytes o x) (cells_bytes o xs) 4 four)
    (ap (λ r. file_cell o (cell_bytes o x) ∷ r) (cells-through o xs))

-- and is the same if it fits and is no infinity
cells_same : (o : Order) (cells : List Float) → AllFit cells → NoInfinity cells → map (λ x. file_cell o (cell_bytes o x)) cells ≡ cells
cells_same o [] fit none = refl
cells_same o (x ∷ xs) fit none = ap₂ (λ y ys. y ∷ ys) (cell-back o x fit.0 none.0) (cells_same o xs fit.1 none.1)

-- THEOREM: cells that were written are read back, in either order of the bytes
pub cells-back : (o : Order) (cells : List Float) → AllFit cells → NoInfinity cells → file_cells o (length cells) (cells_bytes o cells) ≡ cells
cells-back o cells fit none = cells-through o cells ∙ cells_same o cells fit none

-- and rows that were turned for it
rows_back : (o : Order) (w h : ℕ) (cells : List Float) → AllFit cells → NoInfinity cells → length cells ≡ w * h
    → bottom_up w h (file_cells o (w * h) (cells_bytes o (bottom_up w h cells))) ≡ cells
rows_back o w h cells fit none long =
    let count : length (bottom_up w h cells) ≡ w * h = bottom_up-length w h cells (omega (arith, mul_comm w h)) in
    rw (← count, cells-through, bottom_up-map, cells_same o cells fit none) (bottom_up-back w h cells long)

-- ---- the file

-- THEOREM: a map without infinities that was written is read back: the same width, height and cells, NaNs as marks
pub pfm-back : (w h : ℕ) (cells : List Float) (s : List ℕ) → AllFit cells → NoInfinity cells → pfm_of w h cells ≡ is s → read_pfm s ≡ is (record { width = w; height = h; cells = cells })
unfolding read_pfm
pfm-back w h cells s fit none e =
    let bytes = cells_bytes Little (bottom_up w h cells) in
    let file = pfm-good w h cells e in
    let g = good w h (length cells) file.0 in
    let long : length bytes ≡ 4 * (w * h) =
    omega (arith, cells-length Little (bottom_up w h cells), bottom_up-length w h cells (omega (arith, g.long, mul_comm w h))) in
    rw (
      ← file.1,
      pfm-head-read _ Little w h bytes (pfm-head-written w h bytes (omega (arith, g.narrow)) (omega (arith, g.low))),
      sized-taken 4 w h bytes g.wide g.narrow g.high g.low long,
      rows_back Little w h cells fit none g.long,
    )

-- THEOREM: of the calls: a map that was written and whose bytes were read into as many cells is there again
pub sent : (w h : ℕ) (cells : List Float) (n : ℕ) (out out' : List ℕ) (r : Result Size Refusal) (back back' : List Float) → AllFit cells → NoInfinity cells
    → WriteOutcome 45 (Ok n) (pfm_of w h cells) out out'
    → ReadOutcome r (read_pfm (take n out')) back back' → length back ≡ w * h
    → (r ≡ Ok (record { width = w; height = h })) × (back' ≡ cells)
sent w h cells n out out' r back back' fit none done read long =
    let says = pfm-back w h cells (take n out') fit none (written_is (pfm_of w h cells) n out out' done) in
    let roomy = eq-eqb (length back) (w * h) long in
    (known_by r (Ok _) (read.answers ∙ rw (says, roomy)), read.outs ∙ rw (says, roomy))
