-- The bit pattern of a root. Definitions only.
use Rattle.std.specs.Prelude.{ℕ, ◌^◌, cond, ◌&&◌, leb}
use Rattle.std.specs.Float.{binary64}
use Rattle.std.specs.Float.Ieee.{to_bits}
use Rattle.numbers.specs.Root.{root_of}

-- the bit pattern of the `f64` nearest to the root of n, for n from 1 to 2 ^ 53, and else 0
unfoldable pub root_pattern : ℕ → ℕ
root_pattern n = cond (leb 1 n && leb n (2 ^ 53)) (to_bits binary64 (root_of n)) 0
