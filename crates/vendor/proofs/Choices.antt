-- A number passes its tests exactly where it is a choice. Assumes nothing.
use Prim.Native.Nat.{ℕ, ◌<◌}
use mathlib.Core.Path.{◌≡◌, refl, sym, subst}
use mathlib.Core.Bool.{Bool, true, false, not, ◌&&◌, true≢false}
use mathlib.Core.List.{List}
use borrow.Author.Tests.{not-true}
use lib.Ieee.{Float, eq, lt}
use Rattle.lists.specs.Lists.{all_below}
use Rattle.lists.proofs.Tests.{and_both, all_of, of-all}
use Rattle.options.specs.declared.RawCost.{RawCost}
use Rattle.options.specs.declared.RawCost.TheVariants.{Blank, Corr}
use Rattle.choices.specs.Subpixel.{disparity}
use Rattle.vendor.specs.declared.Check.{Check}
use Rattle.vendor.specs.Verdict.{cost_at, beats, stands, is_choice}
use Rattle.vendor.specs.Meaning.{Choice}
use Rattle.lists.proofs.Firsts.{some-here, some_of}

-- ---- a raw cost that stands among those of all indices
-- it is not blank, isn't below the least correlation, and no other is above it
pub record Standing (least : Float) (count : ℕ) (costs : ℕ → RawCost) (c : RawCost) : Type 0 where
  pub cost : Float
  pub there : c ≡ Corr cost
  pub enough : lt cost least ≡ false
  pub unbeaten : (j : ℕ) (u : Float) → j < count → costs j ≡ Corr u → lt cost u ≡ false

module _ (least : Float) (count : ℕ) (costs : ℕ → RawCost) where
  -- the tests say so
  pub stands-means : (c : RawCost) → stands least count costs c ≡ true → Standing least count costs c
  stands-means Blank e = absurd (true≢false (sym e))
  stands-means (Corr v) e =
      let both = and_both (not (lt v least)) (all_below count (λ k. not (beats (costs k) v))) e in
      record {
        cost = v;
        there = refl;
        enough = not-true (lt v least) both.0;
        unbeaten = λ j u l q. not-true (lt v u) (subst (λ r. not (beats r v) ≡ true) q (all_of count _ both.1 j l));
      }

  -- a raw cost that no number is above does not beat it
  not-beaten : (v : Float) (c : RawCost) → ((u : Float) → c ≡ Corr u → lt v u ≡ false) → not (beats c v) ≡ true
  not-beaten v Blank h = refl
  not-beaten v (Corr u) h = rw (h u refl)

  -- and the other way round
  pub means-stands : (c : RawCost) → Standing least count costs c → stands least count costs c ≡ true
  means-stands c s =
      rw (s.there, s.enough) (of-all count _ (λ j l. not-beaten s.cost (costs j) (λ u q. s.unbeaten j u l q)))

-- ---- a number that is a choice
module _ (q : Check) (left right : List ℕ) (x y : ℕ) (v : Float) where
  -- the test of one index
  abbrev is_index : ℕ → Bool
  is_index k = eq v (disparity q.search k) && stands q.least q.search.count (cost_at q left right x y) (cost_at q left right x y k)

  -- the tests say so
  pub choice-of : is_choice q left right x y v ≡ true → Choice q left right x y v
  choice-of e =
      let s = some_of q.search.count is_index e in
      let both = and_both _ _ s.holds in
      let c = stands-means q.least q.search.count (cost_at q left right x y) (cost_at q left right x y s.i) both.1 in
      record { k = s.i; searched = s.inside; is = both.0; cost = c.cost; there = c.there; enough = c.enough; unbeaten = c.unbeaten }

  -- and the other way round
  pub of-choice : Choice q left right x y v → is_choice q left right x y v ≡ true
  of-choice c =
      some-here q.search.count c.k is_index c.searched
      (rw c.is
      (means-stands q.least q.search.count (cost_at q left right x y) (cost_at q left right x y c.k)
      (record { cost = c.cost; there = c.there; enough = c.enough; unbeaten = c.unbeaten })))
