-- The points given, taken from the three lists of their coordinates. Assumes nothing.
use Prim.Native.Nat.{ℕ, zero, suc, ◌<◌}
use mathlib.Core.Path.{◌≡◌, refl, sym, ap, ◌∙◌}
use mathlib.Core.Bool.{true}
use mathlib.Core.List.{List, [], ◌∷◌}
use native.Mathlib.Nat.{not-suc-le-zero, le_of_suc-le-suc}
use native.Mathlib.Omega.{arith}
use borrow.Author.Tests.{eqb-true}
use lib.ListN.{length, get_or, drop}
use Rattle.std.specs.List.{zip}
use Rattle.std.proofs.lemmas.Slice.Zip.{length-zip, get_or-zip}
use lib.Ieee.{Float}
use lib.Ieee.Scale.{finite}
use Rattle.lists.proofs.Tests.{and_both}
use Rattle.volume.specs.Metres.{is_near, millimetres, good_coordinate, all_good, good_points, spot_of, spots_of}

-- each coordinate is good where all are
pub good-at : (xs : List Float) → all_good xs ≡ true → (i : ℕ) (d : Float) → i < length xs → good_coordinate (get_or xs i d) ≡ true
unfolding all_good
good-at [] all i d below = absurd (not-suc-le-zero below)
good-at (x ∷ xs) all zero d below = (and_both (good_coordinate x) (all_good xs) all).0
good-at (x ∷ xs) all (suc i) d below = good-at xs (and_both (good_coordinate x) (all_good xs) all).1 i d (le_of_suc-le-suc below)

-- a good coordinate is near in millimetres
pub spot-near : (x y z : Float) → good_coordinate z ≡ true → is_near (spot_of x y z).z ≡ true
unfolding good_coordinate spot_of
spot-near x y z e = (and_both (finite z) (is_near (millimetres z)) e).1

-- what good points are
pub record Good (xs ys zs : List Float) : Type 0 where
  pub ys-long : length ys ≡ length xs
  pub zs-long : length zs ≡ length xs
  pub xs-good : all_good xs ≡ true
  pub ys-good : all_good ys ≡ true
  pub zs-good : all_good zs ≡ true

pub good : (xs ys zs : List Float) → good_points xs ys zs ≡ true → Good xs ys zs
unfolding good_points
good xs ys zs e =
    let with-zs = and_both _ (all_good zs) e in
    let with-ys = and_both _ (all_good ys) with-zs.0 in
    let with-xs = and_both _ (all_good xs) with-ys.0 in
    let long = and_both _ _ with-xs.0 in
    record {
      ys-long = eqb-true (length ys) (length xs) long.0;
      zs-long = eqb-true (length zs) (length xs) long.1;
      xs-good = with-xs.1;
      ys-good = with-ys.1;
      zs-good = with-zs.1;
    }

spots-long : (xs ys zs : List Float) → length ys ≡ length xs → length zs ≡ length xs → length (spots_of xs ys zs) ≡ length xs
unfolding spots_of
spots-long [] ys zs l m = refl
spots-long (x ∷ xs) [] zs l m = absurd (omega arith)
spots-long (x ∷ xs) (y ∷ ys) [] l m = absurd (omega arith)
spots-long (x ∷ xs) (y ∷ ys) (z ∷ zs) l m = ap suc (spots-long xs ys zs (omega arith) (omega arith))

spots-cut : (xs ys zs : List Float) → length ys ≡ length xs → length zs ≡ length xs → (i : ℕ) (a b c : Float) → i < length xs → drop i (spots_of xs ys zs) ≡ spot_of (get_or xs i a) (get_or ys i b) (get_or zs i c) ∷ drop (suc i) (spots_of xs ys zs)
unfolding spots_of
spots-cut [] ys zs l m i a b c below = absurd (not-suc-le-zero below)
spots-cut (x ∷ xs) [] zs l m i a b c below = absurd (omega arith)
spots-cut (x ∷ xs) (y ∷ ys) [] l m i a b c below = absurd (omega arith)
spots-cut (x ∷ xs) (y ∷ ys) (z ∷ zs) l m zero a b c below = refl
spots-cut (x ∷ xs) (y ∷ ys) (z ∷ zs) l m (suc i) a b c below = spots-cut xs ys zs (omega arith) (omega arith) i a b c (le_of_suc-le-suc below)

-- three coordinates from one place of the three lists: they are good, and are those of the point there
pub record Taken (xs ys zs : List Float) (i : ℕ) (q : (Float × Float) × Float) : Type 0 where
  pub x-good : good_coordinate q.0.0 ≡ true
  pub y-good : good_coordinate q.0.1 ≡ true
  pub z-good : good_coordinate q.1 ≡ true
  pub here : drop i (spots_of xs ys zs) ≡ spot_of q.0.0 q.0.1 q.1 ∷ drop (suc i) (spots_of xs ys zs)

module _ (xs ys zs : List Float) (g : Good xs ys zs) where
  -- there is a point for each coordinate
  pub spots-length : length (spots_of xs ys zs) ≡ length xs
  spots-length = spots-long xs ys zs g.ys-long g.zs-long

  -- the points from the i-th on
  spots-from : (i : ℕ) (a b c : Float) → i < length xs → drop i (spots_of xs ys zs) ≡ spot_of (get_or xs i a) (get_or ys i b) (get_or zs i c) ∷ drop (suc i) (spots_of xs ys zs)
  spots-from i a b c below = spots-cut xs ys zs g.ys-long g.zs-long i a b c below

  -- there are as many threes
  pub threes-length : length (zip (zip xs ys) zs) ≡ length xs
  threes-length = omega (arith, length-zip (zip xs ys) zs, length-zip xs ys, g.ys-long, g.zs-long)

  pub taken : (i : ℕ) (q : (Float × Float) × Float) → i < length xs → q ≡ get_or (zip (zip xs ys) zs) i q → Taken xs ys zs i q
  taken i q below e =
      let in-ys : i < length ys = omega (arith, g.ys-long) in
      let in-zs : i < length zs = omega (arith, g.zs-long) in
      let outer = e ∙ get_or-zip (zip xs ys) zs i q (omega (arith, length-zip xs ys)) in-zs in
      let inner = get_or-zip xs ys i q.0 below in-ys in
      let x : q.0.0 ≡ get_or xs i q.0.0 = ap (λ (p : (Float × Float) × Float). p.0.0) outer ∙ ap (λ (p : Float × Float). p.0) inner in
      let y : q.0.1 ≡ get_or ys i q.0.1 = ap (λ (p : (Float × Float) × Float). p.0.1) outer ∙ ap (λ (p : Float × Float). p.1) inner in
      let z : q.1 ≡ get_or zs i q.1 = ap (λ (p : (Float × Float) × Float). p.1) outer in
      record {
        x-good = ap good_coordinate x ∙ good-at xs g.xs-good i q.0.0 below;
        y-good = ap good_coordinate y ∙ good-at ys g.ys-good i q.0.1 in-ys;
        z-good = ap good_coordinate z ∙ good-at zs g.zs-good i q.1 in-zs;
        here = spots-from i q.0.0 q.0.1 q.1 below ∙ ap (λ p. p ∷ drop (suc i) (spots_of xs ys zs)) (spot (sym x) (sym y) (sym z));
      }
    where
      spot : {a b c d e f : Float} → a ≡ d → b ≡ e → c ≡ f → spot_of a b c ≡ spot_of d e f
      spot p r t = rw (p, r, t)
