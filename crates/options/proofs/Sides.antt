-- A width or a height that passes its test lies within its limits. Assumes nothing.
use Prim.Native.Nat.{ℕ, ◌≤◌}
use mathlib.Core.Path.{◌≡◌, refl}
use mathlib.Core.Bool.{Bool, true, false, ◌&&◌, false≢true}
use borrow.Author.Tests.{leb-true}
use lib.Dec.{leb}
use Rattle.options.specs.Limits.{side_most, is_side}

pub record SideFits (n : ℕ) : Type 0 where
  pub least : 1 ≤ n
  pub most : n ≤ side_most

pub side-fits : (n : ℕ) → is_side n ≡ true → SideFits n
side-fits n = go (leb 1 n) (leb n side_most) refl refl
  where
    go : (a b : Bool) → leb 1 n ≡ a → leb n side_most ≡ b → a && b ≡ true → SideFits n
    go true true p q e = record { least = leb-true 1 n p; most = leb-true n side_most q }
    go true false p q e = absurd (false≢true e)
    go false b p q e = absurd (false≢true e)
