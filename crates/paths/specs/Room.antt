-- Runs of cells in one list. Definitions only.
use Rattle.std.specs.Prelude.{ℕ, zero, suc, ◌+◌, ◌*◌, ◌≤◌, List, ◌++◌, ◌⊎◌, length, take, drop, set, Float}

-- the n cells of v from index at
abbrev pub run : ℕ → ℕ → List Float → List Float
run n at v = take n (drop at v)

-- v with the cells from index at replaced by s
abbrev pub put : List Float → ℕ → List Float → List Float
put v at s = take at v ++ s ++ drop (at + length s) v

-- v, whose first cells are n runs of m cells, with cell k of each run replaced: that of run d by g d
unfoldable pub spread : ℕ → ℕ → ℕ → (ℕ → Float) → List Float → List Float
spread zero m k g v = v
spread (suc n) m k g v = set (spread n m k g v) (n * m + k) (g n)

-- two runs of n cells, from a and from b, lie in v and have no cell in common
pub record Runs (v : List Float) (a b n : ℕ) : Type 0 where
  pub a_in : a + n ≤ length v
  pub b-in : b + n ≤ length v
  pub apart : (a + n ≤ b) ⊎ (b + n ≤ a)
