-- The range of cells is their least and their greatest valid number, of equal ones the leftmost. Assumes nothing.
use Prim.Native.Nat.{ℕ, zero, suc, ◌<◌, ◌≤◌}
use mathlib.Core.Path.{◌≡◌, refl, sym, ◌∙◌, subst}
use mathlib.Core.Bool.{Bool, true, false, cond, true≢false}
use mathlib.Core.List.{List}
use native.Mathlib.Numerals.{add-one}
use native.Mathlib.Omega.{arith}
use lib.Dec.{T}
use lib.ListN.{length, get_or, take}
use lib.Seq.{take-length}
use lib.Ieee.{Float, nan, lt}
use lib.Ieee.Scale.{finite}
use Rattle.lists.proofs.Tests.{last_or}
use Rattle.numbers.proofs.FloatOrder.{lt_not, lt-self, lt-under, lt-over}
use Rattle.std.specs.Prelude.{Option, None, Some}
use Rattle.maps.specs.declared.Span.{Span}
use Rattle.maps.specs.Map.{widen, range_of}
use Rattle.maps.specs.Extremes.{First, Found, Finds}
use Rattle.std.proofs.lemmas.List.Sums.{fold_more}

-- a cell that is both valid and not
both_ways : {X : Type 0} (t : Bool) → t ≡ true → t ≡ false → X
both_ways t p q = absurd (true≢false (sym p ∙ q))

is_number : (x : Float) → finite x ≡ true → T (finite x)
is_number x e = subst T (sym e) tt

-- ---- an order of the numbers, upwards or downwards
record Order (before : Float → Float → Bool) : Type 0 where
  self : (x : Float) → before x x ≡ false
  one_way : (x y : Float) → before x y ≡ true → before y x ≡ false
  over : (x y z : Float) → T (finite x) → T (finite y) → T (finite z) → before x y ≡ true → before z y ≡ false → before x z ≡ true

upwards : Order (λ x y. lt x y)
upwards = record { self = lt-self; one_way = lt_not; over = lt-over }

downwards : Order (λ x y. lt y x)
downwards = record { self = lt-self; one_way = λ x y. lt_not y x; over = λ x y z p q r. lt-under y x z q p r }

-- ---- one cell more
module _ {before : Float → Float → Bool} (order : Order before) (cells : List Float) (n : ℕ) where
  abbrev x : Float
  x = get_or cells n nan

  -- a cell that is not valid
  left_out : finite x ≡ false → (v : Float) → First before cells n v → First before cells (suc n) v
  left_out invalid v f = record {
    place = f.place;
    within = omega (arith, f.within);
    there = f.there;
    valid = f.valid;
    none_before = λ j l q. last_or j n l (λ e. both_ways _ (rw e at q) invalid) (λ m. f.none_before j m q);
    leftmost = f.leftmost;
  }

  -- the first valid one
  alone : finite x ≡ true → ((j : ℕ) → j < n → finite (get_or cells j nan) ≡ false) → First before cells (suc n) x
  alone valid none = record {
    place = n;
    within = omega arith;
    there = refl;
    valid = valid;
    none_before = λ j l q. last_or j n l (λ e. rw e (order.self x)) (λ m. both_ways _ q (none j m));
    leftmost = λ j m q. both_ways _ q (none j m);
  }

  -- a further one
  further : finite x ≡ true → (v : Float) → First before cells n v → First before cells (suc n) (cond (before x v) x v)
  further valid v f = go (before x v) refl
    where
      passes : before x v ≡ true → (j : ℕ) → j < n → finite (get_or cells j nan) ≡ true → before x (get_or cells j nan) ≡ true
      passes t j m q = order.over x v (get_or cells j nan) (is_number x valid) (is_number v f.valid) (is_number (get_or cells j nan) q) t (f.none_before j m q)

      go : (t : Bool) → before x v ≡ t → First before cells (suc n) (cond t x v)
      go true t = record {
        place = n;
        within = omega arith;
        there = refl;
        valid = valid;
        none_before = λ j l q. last_or j n l (λ e. rw e (order.self x)) (λ m. order.one_way x (get_or cells j nan) (passes t j m q));
        leftmost = passes t;
      }
      go false t = record {
        place = f.place;
        within = omega (arith, f.within);
        there = f.there;
        valid = f.valid;
        none_before = λ j l q. last_or j n l (λ e. rw e t) (λ m. f.none_before j m q);
        leftmost = f.leftmost;
      }

-- in both orders at once
found-next : (cells : List Float) (n : ℕ) (r : Option Span) → Found cells n r → Found cells (suc n) (widen r (get_or cells n nan))
unfolding widen
found-next cells n r f = go (finite (get_or cells n nan)) refl r f
  where
    go : (t : Bool) → finite (get_or cells n nan) ≡ t → (r : Option Span) → Found cells n r → Found cells (suc n) (widen r (get_or cells n nan))
    go true t None f = rw t (alone upwards cells n t f, alone downwards cells n t f)
    go true t (Some s) f = rw t (further upwards cells n t s.least f.0, further downwards cells n t s.greatest f.1)
    go false t None f = rw t (λ j l. last_or j n l (λ e. rw e t) (λ m. f j m))
    go false t (Some s) f = rw t (left_out upwards cells n t s.least f.0, left_out downwards cells n t s.greatest f.1)

-- and so of the first n cells
found_upto : (cells : List Float) (n : ℕ) → n ≤ length cells → Found cells n (range_of (take n cells))
found_upto cells zero l = λ j m. absurd (omega (arith, m))
found_upto cells (suc n) l =
    let more : range_of (take (suc n) cells) ≡ widen (range_of (take n cells)) (get_or cells n nan) = rw (← add-one) (fold_more widen None cells n nan (omega arith)) in
    rw more (found-next cells n (range_of (take n cells)) (found_upto cells n (omega arith)))

-- THEOREM: the range of cells is none where none is valid, and else the least and the greatest of the valid ones, each the leftmost of its equals
pub range-found : (cells : List Float) → Finds cells (range_of cells)
range-found cells = rw take-length at (found_upto cells (length cells) (omega arith))
