-- A number is answered exactly when its row applies and no row that stands before it does. Assumes nothing.
use Prim.Native.Nat.{ℕ, ◌<◌}
use mathlib.Core.Path.{◌≡◌, refl, ap, ap₂, ◌∙◌}
use mathlib.Core.Bool.{Bool, true, false, cond}
use mathlib.Core.Logic.{◌↔◌}
use mathlib.Core.List.{List, [], ◌∷◌, ◌++◌}
use native.Mathlib.Omega.{arith}
use Rattle.refusals.specs.Answered.{Row, row, first_of, NoneApplies, Numbered, FirstIs, ByPlace}

first-of : (rows : List Row) (n : ℕ) → 0 < n → first_of rows ≡ n → FirstIs rows n
unfolding first_of
first-of [] n some e = absurd (omega arith)
first-of (r ∷ rows) n some e = go r.applies refl e (first-of rows n some)
  where
    go : (t : Bool) → r.applies ≡ t → cond t r.number (first_of rows) ≡ n → (first_of rows ≡ n → FirstIs rows n) → FirstIs (r ∷ rows) n
    go true t h next = record { before = []; after = rows; split = ap (λ q. q ∷ rows) (ap₂ row h t); none_before = tt }
    go false t h next =
        let f = next h in
        record { before = r ∷ f.before; after = f.after; split = ap (λ q. r ∷ q) f.split; none_before = (t, f.none_before) }

past : (before : List Row) (n : ℕ) (after : List Row) → NoneApplies before → first_of (before ++ (row n true ∷ after)) ≡ n
unfolding first_of
past [] n after none = refl
past (r ∷ before) n after none = ap (λ t. cond t r.number (first_of (before ++ (row n true ∷ after)))) none.0 ∙ past before n after none.1

-- THEOREM: a number is answered exactly when its row applies and no row before it does
pub answered : (rows : List Row) (n : ℕ) → 0 < n → (first_of rows ≡ n) ↔ FirstIs rows n
answered rows n some = (first-of rows n some, λ f. ap first_of f.split ∙ past f.before n f.after f.none_before)

pub none_of : (rows : List Row) → Numbered rows → first_of rows ≡ 0 → NoneApplies rows
unfolding first_of
none_of [] i e = tt
none_of (r ∷ rows) i e = go r.applies refl e (none_of rows i.1)
  where
    go : (t : Bool) → r.applies ≡ t → cond t r.number (first_of rows) ≡ 0 → (first_of rows ≡ 0 → NoneApplies rows) → (r.applies ≡ false) × NoneApplies rows
    go true t h next = absurd (omega (arith, i.0))
    go false t h next = (t, next h)

of_none : (rows : List Row) → NoneApplies rows → first_of rows ≡ 0
unfolding first_of
of_none [] none = refl
of_none (r ∷ rows) none = ap (λ t. cond t r.number (first_of rows)) none.0 ∙ of_none rows none.1

-- THEOREM: 0 is answered exactly when no row applies
pub answered-none : (rows : List Row) → Numbered rows → (first_of rows ≡ 0) ↔ NoneApplies rows
answered-none rows i = (none_of rows i, of_none rows)

-- THEOREM: so the number of the first row that applies is answered by its place, whatever the rows
pub by_place : (rows : List Row) → Numbered rows → ByPlace rows (first_of rows)
by_place rows i = record { refused-with = answered rows; accepted-when = answered-none rows i }

-- of an answer that is that number
pub answers-by-place : {rows : List Row} {answer : ℕ} → Numbered rows → answer ≡ first_of rows → ByPlace rows answer
answers-by-place {rows} i e = rw e (by_place rows i)
