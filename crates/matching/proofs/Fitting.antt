-- What is accepted of a match stays accepted. Assumes nothing.
use Prim.Native.Nat.{ℕ, ◌*◌, ◌≤◌}
use mathlib.Core.Path.{◌≡◌}
use mathlib.Core.Bool.{Bool, true, false, cond}
use mathlib.Core.List.{List}
use native.Mathlib.Nat.{mul-le-mul}
use native.Mathlib.Omega.{arith}
use Rattle.options.specs.Limits.{side_most, most_count}
use Rattle.options.specs.Options.{uses_paths}
use Rattle.options.specs.declared.BlockMatchOptions.{BlockMatchOptions}
use Rattle.matching.specs.Inner.{MatchFits, cells_in, side_cells}

-- the cells of a volume are few
pub semi-sizes : {left right : List ℕ} {w h : ℕ} {o : BlockMatchOptions} {outLength whole_length : ℕ} → MatchFits left right w h o outLength whole_length
    → (w * h ≤ side_most * side_most) × (cells_in w h o ≤ most_count * (side_most * side_most))
semi-sizes z =
    let s = z.volume.sizes in
    let area = mul-le-mul s.frame.w-most s.frame.h-most in
    (area, mul-le-mul s.count_most area)

-- the same with an output and a room of the same lengths
pub refit : {left right : List ℕ} {w h : ℕ} {o : BlockMatchOptions} {outLength outLength' whole_length wholeLength' : ℕ} → MatchFits left right w h o outLength whole_length
    → outLength' ≡ outLength → wholeLength' ≡ whole_length → MatchFits left right w h o outLength' wholeLength'
refit z e f = rw (e, f) z

-- a side's cells begin with one volume
pub volume-first : (w h : ℕ) (o : BlockMatchOptions) → cells_in w h o ≤ side_cells w h o
volume-first w h o = go (uses_paths o.mode)
  where
    go : (t : Bool) → cells_in w h o ≤ cond t (3 * cells_in w h o) (cells_in w h o)
    go true = omega arith
    go false = omega arith
