-- The least and the greatest of the cells so far, with infinities for none, as the loop keeps them. Assumes nothing.
use mathlib.Core.Path.{◌≡◌, refl, sym, ap, ◌∙◌}
use Prim.Native.Nat.{ℕ, ◌+◌, ◌<◌}
use mathlib.Core.Bool.{Bool, true, false, cond}
use mathlib.Core.List.{List}
use lib.ListN.{length, get_or, take}
use lib.Ieee.{Float, nan, inf, fin, lt}
use lib.Ieee.Scale.{finite}
use Rattle.numbers.proofs.Plainly.{none_below, none_above}
use Rattle.std.specs.Prelude.{Option, None, Some}
use Rattle.maps.specs.declared.Span.{Span}
use Rattle.maps.specs.Map.{lesser_of, greater_of, widen, range_of}
use Rattle.std.proofs.lemmas.List.Sums.{fold_more}
use Rattle.maps.proofs.Facts.{widen-not}

-- the range between two ends: none where the least is no number
abbrev between : Float → Float → Option Span
between lo hi = cond (finite lo) (Some (record { least = lo; greatest = hi })) None

-- the ends of a range, or the infinities that stand for none
abbrev Ends : Float → Float → Type 0
Ends nan hi = ⊥
Ends (inf true) hi = ⊥
Ends (inf false) hi = hi ≡ inf true
Ends (fin s m e) hi = Unit {0}

-- the ends once a further cell is seen
abbrev lower : Float → Float → Float
lower lo x = lesser_of (cond (finite x) x (inf false)) lo

abbrev upper : Float → Float → Float
upper hi x = greater_of (cond (finite x) x (inf true)) hi

-- a cell that is not valid leaves them
left_out : (lo hi x : Float) → Ends lo hi → finite x ≡ false → (between (lower lo x) (upper hi x) ≡ widen (between lo hi) x) × Ends (lower lo x) (upper hi x)
left_out lo hi x ends invalid = rw (invalid, none_above lo, none_below hi) (widen-not (between lo hi) x false (sym invalid) refl, ends)

next : (lo hi x : Float) → Ends lo hi → (between (lower lo x) (upper hi x) ≡ widen (between lo hi) x) × Ends (lower lo x) (upper hi x)
unfolding widen lt
next lo hi nan ends = left_out lo hi nan ends refl
next lo hi (inf s) ends = left_out lo hi (inf s) ends refl
next nan hi (fin t n d) ends = absurd ends
next (inf true) hi (fin t n d) ends = absurd ends
next (inf false) hi (fin t n d) ends = rw ends (refl, tt)
next (fin s m e) hi (fin t n d) ends = one (lt (fin t n d) (fin s m e)) (greater_of (fin t n d) hi)
  where
    one : (less : Bool) (high : Float) → (between (cond less (fin t n d) (fin s m e)) high ≡ Some (record { least = cond less (fin t n d) (fin s m e); greatest = high })) × Ends (cond less (fin t n d) (fin s m e)) high
    one true high = (refl, tt)
    one false high = (refl, tt)

-- i cells are seen
pub record Seen (cells : List Float) (lo hi : Float) (i : ℕ) : Type 0 where
  pub ends : Ends lo hi
  pub so_far : between lo hi ≡ range_of (take i cells)

pub seen_none : (cells : List Float) → Seen cells (inf false) (inf true) 0
seen_none cells = record { ends = refl; so_far = refl }

module _ (cells : List Float) (lo hi : Float) (i : ℕ) (s : Seen cells lo hi i) where
  -- one cell more: v and u are the cell where it is valid, and else the infinities
  pub seen_next : (v u lo' hi' : Float) → v ≡ cond (finite (get_or cells i nan)) (get_or cells i nan) (inf false) → u ≡ cond (finite (get_or cells i nan)) (get_or cells i nan) (inf true)
      → lo' ≡ lesser_of v lo → hi' ≡ greater_of u hi → i < length cells → Seen cells lo' hi' (i + 1)
  seen_next v u lo' hi' ev eu el eh b =
      let step = next lo hi (get_or cells i nan) s.ends in
      rw (el, eh, ev, eu)
      (record { ends = step.1; so_far = step.0 ∙ ap (λ (r : Option Span). widen r (get_or cells i nan)) s.so_far ∙ sym (fold_more widen None cells i nan b) })
