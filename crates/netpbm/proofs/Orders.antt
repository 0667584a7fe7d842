-- The four bytes of a cell: in either order they read back as they were written. Assumes nothing.
use Prim.Native.Nat.{ℕ, suc, ◌+◌, ◌*◌, ◌/◌, ◌%◌, ◌^◌, ◌≤◌, ◌<◌}
use native.Mathlib.Omega.{arith}
use native.Mathlib.Numerals.{add-one, add-two, add-three}
use mathlib.Core.Path.{◌≡◌, refl}
use mathlib.Core.Bool.{true, false, ◌||◌, false≢true}
use mathlib.Core.List.{List, [], ◌∷◌}
use lib.Dec.{T}
use lib.ListN.{length, get_or, take, drop, length-append}
use lib.Seq.{drop-cons}
use lib.Ieee.{Float, nan, inf, fin, binary32, is_nan, fits, to_bits, of_bits}
use lib.Ieee.Bits.{of_bits-to_bits, to_bits-lt}
use lib.Ieee.Fits.{inf-fits}
use lib.Ieee.Scale.{finite}
use Rattle.std.specs.Int.{w32, to_le_bytes, to_be_bytes, from_le_bytes, from_be_bytes}
use Rattle.std.specs.Prelude.{reverse}
use Rattle.netpbm.specs.declared.order.Order.{Order}
use Rattle.netpbm.specs.declared.order.Order.TheVariants.{Little, Big}
use Rattle.netpbm.specs.Order.{low_bytes, pattern_of, four_bytes_of, four_pattern}
use Rattle.netpbm.specs.Pfm.{outward, inward, cell_bytes, cells_bytes, file_cell}

-- ---- patterns

-- std's bytes of a number, in either order, are the definition's
pub low_first : (p : ℕ) → to_le_bytes w32 p ≡ low_bytes 4 p
unfolding low_bytes
low_first p =
    let c : p / 256 / 256 % 256 ≡ p / 65536 % 256 = omega arith in
    let d : p / 256 / 256 / 256 % 256 ≡ p / 16777216 % 256 = omega arith in
    rw (c, d)

pub high_first : (p : ℕ) → to_be_bytes w32 p ≡ reverse (low_bytes 4 p)
unfolding low_bytes
high_first p =
    let c : p / 256 / 256 % 256 ≡ p / 65536 % 256 = omega arith in
    let d : p / 256 / 256 / 256 % 256 ≡ p / 16777216 % 256 = omega arith in
    rw (c, d)

-- and so is std's number of four bytes
pub from_low : (bytes : List ℕ) → length bytes ≡ 4 → from_le_bytes w32 bytes ≡ pattern_of bytes
unfolding pattern_of
from_low (a ∷ b ∷ c ∷ d ∷ []) e = omega arith
from_low [] e = absurd (omega arith)
from_low (a ∷ []) e = absurd (omega arith)
from_low (a ∷ b ∷ []) e = absurd (omega arith)
from_low (a ∷ b ∷ c ∷ []) e = absurd (omega arith)
from_low (a ∷ b ∷ c ∷ d ∷ f ∷ s) e = absurd (omega arith)

pub from_high : (bytes : List ℕ) → length bytes ≡ 4 → from_be_bytes w32 bytes ≡ pattern_of (reverse bytes)
unfolding pattern_of
from_high (a ∷ b ∷ c ∷ d ∷ []) e = omega arith
from_high [] e = absurd (omega arith)
from_high (a ∷ []) e = absurd (omega arith)
from_high (a ∷ b ∷ []) e = absurd (omega arith)
from_high (a ∷ b ∷ c ∷ []) e = absurd (omega arith)
from_high (a ∷ b ∷ c ∷ d ∷ f ∷ s) e = absurd (omega arith)

-- those bytes have the number
low-back : (p : ℕ) → p < 2 ^ 32 → pattern_of (low_bytes 4 p) ≡ p
unfolding pattern_of low_bytes
low-back p h = omega arith

-- THEOREM: in either order, the bytes of a pattern have that pattern
pub order-back : (o : Order) (p : ℕ) → p < 2 ^ 32 → four_pattern o (four_bytes_of o p) ≡ p
unfolding four_pattern four_bytes_of low_bytes
order-back Little p h = low-back p h
order-back Big p h = low-back p h

-- ---- lengths

-- a pattern takes four bytes
pub four_bytes : (o : Order) (p : ℕ) → length (four_bytes_of o p) ≡ 4
unfolding four_bytes_of low_bytes
four_bytes Little p = refl
four_bytes Big p = refl

-- and so does a cell
pub cell-four : (o : Order) (x : Float) → length (cell_bytes o x) ≡ 4
unfolding cell_bytes
cell-four o x = four_bytes o (to_bits binary32 (outward x))

-- some cells take four bytes each
pub cells-length : (o : Order) (cells : List Float) → length (cells_bytes o cells) ≡ 4 * length cells
unfolding cells_bytes
cells-length o [] = refl
cells-length o (x ∷ xs) = omega (arith, length-append (cell_bytes o x) (cells_bytes o xs), cell-four o x, cells-length o xs)

-- ---- cells

-- what is read of the bytes of a cell
cell-read : (o : Order) (x : Float) → T (fits binary32 (outward x)) → file_cell o (cell_bytes o x) ≡ inward (outward x)
unfolding file_cell cell_bytes
cell-read o x p = rw (order-back o (to_bits binary32 (outward x)) (to_bits-lt binary32 (outward x) p), of_bits-to_bits binary32 (outward x) p)

-- THEOREM: a cell that is finite or a NaN is read back in either order
pub cell-back : (o : Order) (x : Float) → T (fits binary32 x) → finite x || is_nan x ≡ true → file_cell o (cell_bytes o x) ≡ x
unfolding is_nan
cell-back o nan p f = cell-read o nan (inf-fits binary32 false)
cell-back o (inf s) p f = absurd (false≢true f)
cell-back o (fin s m e) p f = cell-read o (fin s m e) p

-- THEOREM: a blank cell is written as plus infinity
pub blank-out : cell_bytes Little nan ≡ 0 ∷ 0 ∷ 128 ∷ 127 ∷ []
unfolding cell_bytes four_bytes_of low_bytes to_bits
blank-out = refl

-- THEOREM: any cell that is not finite is read as the mark
pub blank-in : (o : Order) (bytes : List ℕ) → finite (of_bits binary32 (four_pattern o bytes)) ≡ false → file_cell o bytes ≡ nan
unfolding file_cell
blank-in o bytes e = rw e

-- a cell that was read is finite or the mark
pub read-valid : (o : Order) (bytes : List ℕ) → finite (file_cell o bytes) || is_nan (file_cell o bytes) ≡ true
unfolding file_cell is_nan
read-valid o bytes = go (of_bits binary32 (four_pattern o bytes))
  where
    go : (x : Float) → finite (inward x) || is_nan (inward x) ≡ true
    go nan = refl
    go (inf s) = refl
    go (fin s m e) = refl

-- ---- bytes at a place

-- the four bytes from a place on
pub four_at : (s : List ℕ) (at : ℕ) → at + 4 ≤ length s → take 4 (drop at s) ≡ get_or s at 0 ∷ get_or s (at + 1) 0 ∷ get_or s (at + 2) 0 ∷ get_or s (at + 3) 0 ∷ []
four_at s at h =
    rw (drop-cons s at 0 (omega arith), drop-cons s (suc at) 0 (omega arith), drop-cons s (suc (suc at)) 0 (omega arith), drop-cons s (suc (suc (suc at))) 0 (omega arith), add-one, add-two, add-three)
