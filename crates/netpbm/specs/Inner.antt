-- What the functions inside answer, beside the steps of the definitions. Definitions only.
use Rattle.std.specs.Prelude.{ℕ, ◌*◌, ◌≤◌, ◌≡◌, min, List, length, Result, Ok, Err}
use Rattle.std.specs.Borrow.{Bor}
use Rattle.refusals.specs.declared.Refusal.{Refusal}
use Rattle.refusals.specs.Numbers.{number_of}
use Rattle.options.specs.Limits.{side_most}
use Rattle.lists.specs.Rows.{bottom_up}
use Rattle.refusals.specs.Steps.{Or, is, refused, Taken}
use Rattle.netpbm.specs.declared.order.Order.{Order}
use Rattle.netpbm.specs.declared.raster.Size.{Size}
use Rattle.netpbm.specs.declared.pgm.PgmNumbers.{PgmNumbers}
use Rattle.netpbm.specs.declared.pfm.PfmNumbers.{PfmNumbers}
use Rattle.netpbm.specs.Raster.{sized}
use Rattle.netpbm.specs.Pgm.{PgmHead, read_pgm}
use Rattle.netpbm.specs.Pfm.{Scale, PfmHead, file_cells, read_pfm}

-- a number may have any count of digits; above every side and every maximum it is held as this one
abbrev pub number_most : ℕ
number_most = 65536

-- a number as the code holds it
abbrev pub held : ℕ → ℕ
held n = min n number_most

-- what a function read at the front of some bytes, and the bytes after it: of bytes that have to stand there, those after them alone
abbrev pub rest_read : Result (Bor (List ℕ)) Refusal → Or (List ℕ)
rest_read (Ok r) = is r.now
rest_read (Err e) = refused (number_of e)

-- a number
abbrev pub number_read : Result (ℕ × Bor (List ℕ)) Refusal → Or Taken
number_read (Ok p) = is (record { number = p.0; rest = p.1.now })
number_read (Err e) = refused (number_of e)

-- what was taken, with its number as the code holds it
abbrev pub held_number : Or Taken → Or Taken
held_number (is t) = is (record { number = held t.number; rest = t.rest })
held_number (refused n) = refused n

-- a sign, which is always read
abbrev pub sign_read : Order × Bor (List ℕ) → Scale
sign_read p = record { order = p.0; rest = p.1.now }

-- the scale's line
abbrev pub scale_read : Result (Order × Bor (List ℕ)) Refusal → Or Scale
scale_read (Ok p) = is (sign_read p)
scale_read (Err e) = refused (number_of e)

-- a PGM header
abbrev pub pgm_read : Result (PgmNumbers × Bor (List ℕ)) Refusal → Or PgmHead
pgm_read (Ok p) = is (record { width = p.0.width; height = p.0.height; maximum = p.0.maximum; rest = p.1.now })
pgm_read (Err e) = refused (number_of e)

-- one that was taken, with its numbers as the code holds them
abbrev pub held_pgm : Or PgmHead → Or PgmHead
held_pgm (is d) = is (record { width = held d.width; height = held d.height; maximum = held d.maximum; rest = d.rest })
held_pgm (refused n) = refused n

-- a PFM header
abbrev pub pfm_read : Result (PfmNumbers × Bor (List ℕ)) Refusal → Or PfmHead
pfm_read (Ok p) = is (record { order = p.0.order; width = p.0.width; height = p.0.height; rest = p.1.now })
pfm_read (Err e) = refused (number_of e)

-- one that was taken, with its numbers as the code holds them
abbrev pub held_pfm : Or PfmHead → Or PfmHead
held_pfm (is d) = is (record { order = d.order; width = held d.width; height = held d.height; rest = d.rest })
held_pfm (refused n) = refused n

-- a raster that fits its bytes, `each` for a cell
pub record Fits (each w h : ℕ) (bytes : List ℕ) : Type 0 where
  pub narrow : w ≤ side_most
  pub low : h ≤ side_most
  pub long : length bytes ≡ each * (w * h)

-- a width and a height that go with the bytes of their raster
abbrev pub SizedAs : ℕ → ℕ → ℕ → List ℕ → Result Size Refusal → Type 0
SizedAs each w h bytes (Ok size) = (sized each w h bytes ≡ is bytes) × (size.width ≡ w) × (size.height ≡ h) × Fits each w h bytes
SizedAs each w h bytes (Err e) = sized each w h bytes ≡ refused (number_of e)

-- a picture all of which was judged: its size and its levels
abbrev pub PictureAs : List ℕ → Result (Size × Bor (List ℕ)) Refusal → Type 0
PictureAs s (Ok p) = (read_pgm s ≡ is (record { width = p.0.width; height = p.0.height; cells = p.1.now })) × Fits 1 p.0.width p.0.height p.1.now
PictureAs s (Err e) = read_pgm s ≡ refused (number_of e)

-- a map all of which was judged: the order of its bytes, its size and the bytes of its cells
abbrev pub MapAs : List ℕ → Result (Order × Size × Bor (List ℕ)) Refusal → Type 0
MapAs s (Ok p) = (read_pfm s ≡ is (record { width = p.1.width; height = p.1.height; cells = bottom_up p.1.width p.1.height (file_cells p.0 (p.1.width * p.1.height) p.2.now) })) × Fits 4 p.1.width p.1.height p.2.now
MapAs s (Err e) = read_pfm s ≡ refused (number_of e)
