-- The order of bytes, said once for both orders: readers and writers use `four_bytes_of` and `four_pattern` alone
-- (docs/SPECIFICATION.md, "PFM"). Definitions only.
use Rattle.std.specs.Prelude.{ℕ, zero, suc, ◌+◌, ◌*◌, ◌/◌, ◌%◌, List, [], ◌∷◌, reverse}
use Rattle.netpbm.specs.declared.order.Order.{Order}
use Rattle.netpbm.specs.declared.order.Order.TheVariants.{Little, Big}

-- the n lowest bytes of a pattern, the lowest first
unfoldable pub low_bytes : ℕ → ℕ → List ℕ
low_bytes zero p = []
low_bytes (suc n) p = p % 256 ∷ low_bytes n (p / 256)

-- and back
unfoldable pub pattern_of : List ℕ → ℕ
pattern_of [] = 0
pattern_of (b ∷ s) = b + 256 * pattern_of s

-- little-endian has the lowest byte first, big-endian the highest
abbrev pub in_order : Order → List ℕ → List ℕ
in_order Little bytes = bytes
in_order Big bytes = reverse bytes

-- the bytes of a pattern of 32 bits, in an order
unfoldable pub four_bytes_of : Order → ℕ → List ℕ
four_bytes_of o p = in_order o (low_bytes 4 p)

-- the pattern that bytes in an order have
unfoldable pub four_pattern : Order → List ℕ → ℕ
four_pattern o bytes = pattern_of (in_order o bytes)
