-- Rows after rows: the first group that has a row that applies decides. Assumes nothing.
use Prim.Native.Nat.{ℕ, zero, suc, ◌<◌}
use mathlib.Core.Path.{◌≡◌, refl, sym, ap, ◌∙◌}
use mathlib.Core.Bool.{Bool, true, false, cond}
use mathlib.Core.List.{List, [], ◌∷◌, ◌++◌}
use native.Mathlib.Omega.{arith}
use Rattle.refusals.specs.Answered.{Row, first_of, Numbered}

-- the first answer unless that is 0, which is no refusal
abbrev or_else : ℕ → ℕ → ℕ
or_else zero after = after
or_else (suc n) after = suc n

some_first : (n after : ℕ) → 0 < n → n ≡ or_else n after
some_first zero after h = absurd (omega arith)
some_first (suc n) after h = refl

first_then : (a b : List Row) → Numbered a → first_of (a ++ b) ≡ or_else (first_of a) (first_of b)
unfolding first_of
first_then [] b n = refl
first_then (r ∷ rows) b n = go r.applies (first_then rows b n.1)
  where
    go : (t : Bool) → first_of (rows ++ b) ≡ or_else (first_of rows) (first_of b) → cond t r.number (first_of (rows ++ b)) ≡ or_else (cond t r.number (first_of rows)) (first_of b)
    go true e = some_first r.number (first_of b) n.0
    go false e = e

module _ (a b : List Row) (n : Numbered a) where
  -- a number of the first rows is the number of all
  pub by_first : (m : ℕ) → m ≡ first_of a → (m ≡ 0 → ⊥) → m ≡ first_of (a ++ b)
  by_first zero e some = absurd (some refl)
  by_first (suc m) e some = rw (first_then a b n, ← e)

  -- where none of the first applies the rest decide
  pub by-rest : first_of a ≡ 0 → first_of (a ++ b) ≡ first_of b
  by-rest e = first_then a b n ∙ ap (λ k. or_else k (first_of b)) e

  pub by-second : first_of a ≡ 0 → (m : ℕ) → m ≡ first_of b → m ≡ first_of (a ++ b)
  by-second e m f = f ∙ sym (by-rest e)

  both_zero : (x y : ℕ) → or_else x y ≡ 0 → (x ≡ 0) × (y ≡ 0)
  both_zero zero y e = (refl, e)
  both_zero (suc x) y e = absurd (omega arith)

  -- none of all applies exactly where none of either does
  pub none-of-both : first_of (a ++ b) ≡ 0 → (first_of a ≡ 0) × (first_of b ≡ 0)
  none-of-both e = both_zero (first_of a) (first_of b) (sym (first_then a b n) ∙ e)

pub both-numbered : (a b : List Row) → Numbered a → Numbered b → Numbered (a ++ b)
both-numbered [] b n m = m
both-numbered (r ∷ rows) b n m = (n.0, both-numbered rows b n.1 m)

-- a row that does not apply
pub passed : (n : ℕ) → 0 < n → (t : Bool) (after : ℕ) → cond t n after ≡ 0 → (t ≡ false) × (after ≡ 0)
passed n some true after e = absurd (omega arith)
passed n some false after e = (refl, e)
