-- A pixel passes where every question holds of it. Assumes nothing.
use Prim.Native.Nat.{ℕ, ◌/◌, ◌%◌, ◌<◌}
use mathlib.Core.Path.{◌≡◌, refl, sym, ap, ◌∙◌, subst}
use mathlib.Core.Bool.{Bool, true, false, not, ◌&&◌, ◌||◌, true≢false, false≢true}
use mathlib.Core.List.{List}
use mathlib.Core.Logic.{⊎_elim}
use native.Mathlib.Nat.{le_refl}
use borrow.Author.Tests.{lt-ltb, le-ltb, not-true, not-false}
use lib.Dec.{T}
use lib.ListN.{get_or}
use lib.Ieee.{Float, nan, inf, fin, lt, le, eq}
use lib.Ieee.Scale.{finite}
use Rattle.lists.specs.Lists.{all_below, some_below, first_not}
use Rattle.lists.proofs.Tests.{all_same, of-all}
use Rattle.numbers.proofs.FloatOrder.{lt-under, le_not}
use Rattle.options.specs.declared.RawCost.{RawCost}
use Rattle.options.specs.declared.RawCost.TheVariants.{Blank, Corr}
use Rattle.options.specs.declared.Side.TheVariants.{Left}
use Rattle.options.specs.Costs.{Within, InRange}
use Rattle.costs.specs.Rooms.{Picture}
use Rattle.costs.proofs.Laws.{raw-cost-bound}
use Rattle.choices.specs.declared.subpixel.Search.{Search}
use Rattle.choices.specs.Subpixel.{disparity}
use Rattle.choices.proofs.Largest.{within-finite}
use Rattle.vendor.specs.declared.Check.{Check}
use Rattle.vendor.specs.declared.cells.Question.TheVariants.{Fit, Unbeaten}
use Rattle.vendor.specs.Verdict.{cost_at, beats, stands, is_choice, passes}
use Rattle.vendor.specs.Tests.{index_named, own_cost, is_fit, is_unbeaten, holds, holds_at}
use Rattle.vendor.specs.Inner.{Searched, CheckSizes}
use Rattle.lists.proofs.Firsts.{Fails, first-or, first-none, some-here, some-none}
use Rattle.vendor.proofs.Disparities.{disparity-one}

-- ---- the order of floats

-- a number that is not above the least does not beat one that is not below it; the least may be no number
under-least : (c u least : Float) → T (finite c) → T (finite u) → lt c least ≡ false → le u least ≡ true → lt c u ≡ false
under-least nan u least p q h k = absurd p
under-least (inf s) u least p q h k = absurd p
under-least (fin s m e) nan least p q h k = absurd q
under-least (fin s m e) (inf t) least p q h k = absurd q
under-least (fin s m e) (fin t n d) nan p q h k = absurd (false≢true (unfold le in k))
under-least (fin s m e) (fin t n d) (inf true) p q h k = absurd (false≢true (unfold le in k))
under-least (fin s m e) (fin t n d) (inf false) p q h k = absurd (true≢false (unfold lt in h))
under-least (fin s m e) (fin t n d) (fin r o g) p q h k = go (lt (fin s m e) (fin t n d)) refl
  where
    go : (b : Bool) → lt (fin s m e) (fin t n d) ≡ b → lt (fin s m e) (fin t n d) ≡ false
    go true l = absurd (true≢false (sym (lt-under (fin s m e) (fin t n d) (fin r o g) tt tt tt l h) ∙ le_not (fin t n d) (fin r o g) k))
    go false l = l

-- ---- raw costs

-- the code's test of a raw cost against one that is not below the least: it does not beat it
unbeaten-is : (c least : Float) → Within c → lt c least ≡ false → (k : RawCost) → InRange k → is_unbeaten least (Corr c) k ≡ not (beats k c)
unbeaten-is c least w h Blank r = refl
unbeaten-is c least w h (Corr u) r = go (le u least) refl
  where
    go : (t : Bool) → le u least ≡ t → t || not (lt c u) ≡ not (lt c u)
    go true e = sym (ap not (under-least c u least (within-finite c w) (within-finite u r) h e))
    go false e = refl

-- a raw cost is fit, and that of no index beats it, as the code tests it
abbrev tested : Float → ℕ → (ℕ → RawCost) → RawCost → Bool
tested least n costs own = is_fit least own && all_below n (λ k. is_unbeaten least own (costs k))

-- that is whether it stands, a raw cost being blank or from -1 to 1
tested-stands : (least : Float) (n : ℕ) (costs : ℕ → RawCost) → ((k : ℕ) → InRange (costs k)) → (own : RawCost) → InRange own
    → tested least n costs own ≡ stands least n costs own
tested-stands least n costs range Blank r = refl
tested-stands least n costs range (Corr c) r = go (lt c least) refl
  where
    go : (t : Bool) → lt c least ≡ t
        → not t && all_below n (λ k. is_unbeaten least (Corr c) (costs k)) ≡ not t && all_below n (λ k. not (beats (costs k) c))
    go true e = refl
    go false e = all_same n _ _ (λ k l. unbeaten-is c least r e (costs k) (range k))

-- ---- the disparity that a number is

-- v is the disparity with index k, and good holds of k
abbrev named : Search → Float → (ℕ → Bool) → ℕ → Bool
named search v good k = eq v (disparity search k) && good k

module _ (search : Search) (v : Float) (good : ℕ → Bool) where
  -- v is the disparity with index j: good holds of j
  some-named : Searched search → (j : ℕ) → j < search.count → eq v (disparity search j) ≡ true → some_below search.count (named search v good) ≡ good j
  some-named z j l e = go (good j) refl
    where
      go : (t : Bool) → good j ≡ t → some_below search.count (named search v good) ≡ t
      go true g = some-here search.count j (named search v good) l (rw (e, g))
      go false g = some-none search.count (named search v good) (λ k lk. at k lk (eq v (disparity search k)) refl)
        where
          at : (k : ℕ) → k < search.count → (t : Bool) → eq v (disparity search k) ≡ t → t && good k ≡ false
          at k lk true e' = subst (λ i. good i ≡ false) (disparity-one search z v j k l lk e e') g
          at k lk false e' = refl

  -- v is no disparity: good holds of none
  none_named : ((k : ℕ) → k < search.count → not (eq v (disparity search k)) ≡ true) → some_below search.count (named search v good) ≡ false
  none_named h = some-none search.count (named search v good) (λ k l. ap (λ t. t && good k) (not-true (eq v (disparity search k)) (h k l)))

module _ (q : Check) (left right : List ℕ) (z : CheckSizes q) (pl : Picture q.frame.w q.frame.h left) (pr : Picture q.frame.w q.frame.h right) (x y : ℕ) (v : Float) where
  -- the test of a number's own raw cost says whether the number is a choice
  own-choice : tested q.least q.search.count (cost_at q left right x y) (own_cost q left right x y v) ≡ is_choice q left right x y v
  unfolding own_cost index_named
  own-choice =
      let s = q.search in
      let n = s.count in
      let other : ℕ → Bool = λ k. not (eq v (disparity s k)) in
      let costs : ℕ → RawCost = cost_at q left right x y in
      let good : ℕ → Bool = λ k. stands q.least n costs (costs k) in
      let range : (k : ℕ) → InRange (costs k) = λ k. raw-cost-bound Left q.frame.w q.frame.h q.frame.r s.first left right x y k z.frame.r-most pl pr in
      ⊎_elim
      (λ (h : (k : ℕ) → k < n → other k ≡ true).
      rw (first-none n other h, le-ltb n n (le_refl n)) (tested-stands q.least n costs range Blank tt ∙ sym (none_named s v good h)))
      (λ (f : Fails n other (first_not n other)).
      rw (lt-ltb (first_not n other) n f.inside)
      (tested-stands q.least n costs range (costs (first_not n other)) (range (first_not n other))
      ∙ sym (some-named s v good z.searched (first_not n other) f.inside (not-false (eq v (disparity s (first_not n other))) f.fails))))
      (first-or n other)

-- ---- a pixel

-- a test that holds of what is not valid, before each of the tests
or-each : (t a : Bool) (n : ℕ) (b : ℕ → Bool) → (not t || a) && all_below n (λ k. not t || b k) ≡ not t || (a && all_below n b)
or-each true a n b = refl
or-each false a n b = of-all n _ (λ k l. refl)

-- its own raw cost is fit, and that of no index beats it
pub passes-holds : (q : Check) (left right : List ℕ) → CheckSizes q → Picture q.frame.w q.frame.h left → Picture q.frame.w q.frame.h right → (map : List Float) (p : ℕ)
    → holds_at q left right Fit map p && all_below q.search.count (λ k. holds_at q left right (Unbeaten k) map p) ≡ passes q left right map p
unfolding holds_at passes
passes-holds q left right z pl pr map p =
    let v = get_or map p nan in
    or-each (finite v) (holds q left right (p % q.frame.w) (p / q.frame.w) Fit v) q.search.count (λ k. holds q left right (p % q.frame.w) (p / q.frame.w) (Unbeaten k) v)
    ∙ ap (λ t. not (finite v) || t) (own-choice q left right z pl pr (p % q.frame.w) (p / q.frame.w) v)
