-- One index over a row: a loop that changes column after column of a row, and skips the columns that are blank. Assumes nothing.
use Rattle.std.proofs.Common.{◌≡◌, ℕ, zero, suc, ◌+◌, ◌-◌, ◌<◌, ◌≤◌, Bool, true, false, cond, leb, List, [], ◌∷◌, length, get_or, take, set, sym, refl, ap, ◌∙◌, ⊎_elim, le_of_suc-le-suc, not-suc-le-zero, eq-or-lt_of_le, arith, length-take, get_or-take, le-leb, leb-true, take_all}
use native.Mathlib.Nat.{add-sub_cancel_left}
use lib.Ieee.{Float, nan, inf}
use lib.ListN.{get_or-eq_default}
use Rattle.lists.proofs.Tests.{lt-or-le}
use Rattle.choices.specs.Seen.{part_at}
use Rattle.lists.specs.Lists.{list_of}
use Rattle.lists.proofs.Lists.{list_of-at, list_of-same, list_of-set}
use Rattle.choices.proofs.Own.{list_of-own}

-- ---- a part of a row

past_end : (part : List Float) (n j : ℕ) → n ≤ j → get_or (take n part) j (inf true) ≡ inf true
past_end part n j l = get_or-eq_default (take n part) (inf true) (rw length-take (omega arith))

-- the first i numbers of the part leave column lo + i blank
pub part-blank : (lo i : ℕ) (part : List Float) → part_at lo (take i part) (lo + i) ≡ inf true
unfolding part_at
part-blank lo i part = rw (le-leb lo (lo + i) (omega arith), add-sub_cancel_left lo i) (past_end part i i (omega arith))

either : (t : Bool) → cond t (inf true) (inf true) ≡ inf true
either true = refl
either false = refl

pub part-empty : (lo : ℕ) (part : List Float) (x : ℕ) → part_at lo (take 0 part) x ≡ inf true
unfolding part_at
part-empty lo part x = either (leb lo x)

-- a number that is there is what every default gives
pub default_free : (p : List Float) (i : ℕ) (d e : Float) → i < length p → get_or p i d ≡ get_or p i e
default_free [] i d e l = absurd (not-suc-le-zero l)
default_free (x ∷ p) zero d e l = refl
default_free (x ∷ p) (suc i) d e l = default_free p i d e (le_of_suc-le-suc l)

pub part-new : (lo i : ℕ) (part : List Float) → i < length part → part_at lo (take (i + 1) part) (lo + i) ≡ get_or part i nan
unfolding part_at
part-new lo i part l =
    rw (le-leb lo (lo + i) (omega arith), add-sub_cancel_left lo i)
    (get_or-take (i + 1) part i (inf true) (omega arith) ∙ default_free part i (inf true) nan l)

pub part-other : (lo i : ℕ) (part : List Float) (x : ℕ) → (x ≡ lo + i → ⊥) → part_at lo (take i part) x ≡ part_at lo (take (i + 1) part) x
unfolding part_at
part-other lo i part x n = go (leb lo x) refl
  where
    go : (t : Bool) → leb lo x ≡ t → cond t (get_or (take i part) (x - lo) (inf true)) (inf true) ≡ cond t (get_or (take (i + 1) part) (x - lo) (inf true)) (inf true)
    go false e = refl
    go true e =
        let h = leb-true lo x e in
        ⊎_elim
        (λ (l : x - lo < i). get_or-take i part (x - lo) (inf true) l ∙ sym (get_or-take (i + 1) part (x - lo) (inf true) (omega arith)))
        (λ (l : i ≤ x - lo). past_end part i (x - lo) l ∙ sym (past_end part (i + 1) (x - lo) (next h l)))
        (lt-or-le (x - lo) i)
      where
        next : lo ≤ x → i ≤ x - lo → i + 1 ≤ x - lo
        next h l = ⊎_elim (λ (q : i ≡ x - lo). absurd (n (omega arith))) (λ (q : i < x - lo). omega arith) (eq-or-lt_of_le l)

-- ---- the loop over the part

-- the columns' numbers, once the first i of the part are read
abbrev pub up_to : ℕ → List Float → ℕ → ℕ → Float
up_to lo part i = part_at lo (take i part)

-- F x v is what a row has in column x for the column's number v; a blank changes nothing
module _ (F : ℕ → Float → Float) (old : List Float) (kept : (x : ℕ) → F x (inf true) ≡ get_or old x nan) (lo : ℕ) (part : List Float) (inside : lo + length part ≤ length old) where
  -- the row once the first i numbers of the part are read
  abbrev pub stepped : ℕ → List Float
  stepped i = list_of (length old) (λ x. F x (up_to lo part i x))

  pub step-none : old ≡ stepped 0
  step-none = list_of-own old (length old) nan refl ∙ list_of-same (length old) _ _ (λ x l. sym (ap (F x) (part-empty lo part x) ∙ kept x))

  pub step-all : (i : ℕ) → length part ≤ i → stepped i ≡ list_of (length old) (λ x. F x (part_at lo part x))
  step-all i l = ap (λ p. list_of (length old) (λ x. F x (part_at lo p x))) (take_all i part l)

  module _ (i : ℕ) (more : i < length part) where
    -- a column that the loop has not reached is as it was
    pub step-read : get_or (stepped i) (lo + i) nan ≡ get_or old (lo + i) nan
    step-read = list_of-at (length old) _ (lo + i) nan (omega arith) ∙ ap (F (lo + i)) (part-blank lo i part) ∙ kept (lo + i)

    pub step-set : (r : Float) → r ≡ F (lo + i) (get_or part i nan) → set (stepped i) (lo + i) r ≡ stepped (i + 1)
    step-set r e =
        ap (λ v. set (stepped i) (lo + i) v) (e ∙ sym (ap (F (lo + i)) (part-new lo i part more)))
        ∙ list_of-set (length old) _ (λ x. F x (up_to lo part (i + 1) x)) (lo + i) (λ j l n. ap (F j) (part-other lo i part j n))
