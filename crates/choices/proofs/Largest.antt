-- What the walks along a pixel's raw costs find: the largest, ties to the smaller index. Assumes nothing.
use Rattle.std.proofs.Common.{◌≡◌, ℕ, suc, ◌<◌, Bool, true, false, cond, T, List, Option, Some, None, length, get_or, sym, refl, ◌∙◌, subst, ⊎_elim, true≢false, not-suc-le-zero, arith}
use lib.ListN.{get_or-eq_default}
use lib.Ieee.{Float, nan, inf, fin, le, lt}
use lib.Ieee.Scale.{finite}
use Rattle.lists.proofs.Tests.{lt-or-le, last_or}
use Rattle.options.specs.declared.RawCost.{RawCost}
use Rattle.options.specs.declared.RawCost.TheVariants.{Blank, Corr}
use Rattle.options.specs.Costs.{Within, InRange}
use Rattle.choices.specs.declared.block.Best.{Best}
use Rattle.choices.specs.Block.{better, best_of, away, rival, competitor}
use Rattle.choices.specs.Extremes.{AllInRange, Finds}
use Rattle.choices.proofs.Walking.{walk-keeps}
use Rattle.numbers.proofs.FloatOrder.{lt_not, lt-self, lt-under}

-- ---- the index alone, which needs no range

-- the index, if there is one, is below n
abbrev Under : ℕ → Option Best → Type 0
Under n None = Unit {0}
Under n (Some b) = b.k < n

under_next : (n : ℕ) (b : Option Best) (c : RawCost) → Under n b → Under (suc n) (better b n c)
under_next n None Blank h = tt
under_next n (Some b) Blank h = omega arith
under_next n None (Corr c) h = omega arith
under_next n (Some b) (Corr c) h = go (lt b.cost c)
  where
    go : (t : Bool) → Under (suc n) (cond t (Some (record { k = n; cost = c })) (Some b))
    go true = omega arith
    go false = omega arith

pub best-in : (costs : List RawCost) (b : Best) → best_of costs ≡ Some b → b.k < length costs
unfolding best_of
best-in costs b e = subst (Under (length costs)) e (walk-keeps better Under Blank costs None (λ n b l h. under_next n b (get_or costs n Blank) h) tt)

-- ---- raw costs

no_number : (c : RawCost) (u : Float) → c ≡ Blank → c ≡ Corr u → ⊥
no_number c u p q = let z : ◌≡◌ {A = ℕ} 0 1 = cc in omega arith

same_number : (c : RawCost) (u v : Float) → c ≡ Corr u → c ≡ Corr v → u ≡ v
same_number c u v p q = cc

pub within-finite : (v : Float) → Within v → T (finite v)
unfolding le
within-finite nan h = absurd h.0
within-finite (inf true) h = absurd h.0
within-finite (inf false) h = absurd h.1
within-finite (fin s m e) h = tt

pub range-finite : (costs : List RawCost) → AllInRange costs → (j : ℕ) (u : Float) → get_or costs j Blank ≡ Corr u → T (finite u)
range-finite costs r j u e =
    ⊎_elim
    (λ l. within-finite u (subst InRange e (r j l)))
    (λ l. absurd (no_number _ u (get_or-eq_default costs Blank l) e))
    (lt-or-le j (length costs))

-- ---- what is found once the indices below n are seen, of which those with P count

abbrev Seen : (ℕ → Type 0) → List RawCost → ℕ → Option Best → Type 0
Seen P costs n b = Finds (λ j. (j < n) × P j) costs b

module _ (P : ℕ → Type 0) (costs : List RawCost) (n : ℕ) where
  -- an index that does not count, or whose cost is blank, changes nothing
  seen_skip : (P n → get_or costs n Blank ≡ Blank) → (b : Option Best) → Seen P costs n b → Seen P costs (suc n) b
  seen_skip blank None h = λ j c. last_or j n c.0 (λ e. rw e (blank (subst P e c.1))) (λ l. h j (l, c.1))
  seen_skip blank (Some v) h = record {
    counts = (omega (arith, h.counts.0), h.counts.1);
    there = h.there;
    none_above = λ j u c q. last_or j n c.0 (λ e. absurd (no_number _ u (blank (subst P e c.1)) (rw e at q))) (λ l. h.none_above j u (l, c.1) q);
    first = λ j u c l q. h.first j u (omega (arith, h.counts.0), c.1) l q;
  }

  module _ (finite-costs : (j : ℕ) (u : Float) → get_or costs j Blank ≡ Corr u → T (finite u)) (p : P n) where
    seen_next : (b : Option Best) (c : RawCost) → get_or costs n Blank ≡ c → Seen P costs n b → Seen P costs (suc n) (better b n c)
    seen_next b Blank e h = seen_skip (λ _. e) b h
    seen_next None (Corr x) e h = record {
      counts = (omega arith, p);
      there = e;
      none_above = λ j u c q. last_or j n c.0 (λ i. rw (same_number _ u x (rw i at q) e) (lt-self x)) (λ l. absurd (no_number _ u (h j (l, c.1)) q));
      first = λ j u c l q. absurd (no_number _ u (h j (l, c.1)) q);
    }
    seen_next (Some v) (Corr x) e h = go (lt v.cost x) refl
      where
        -- a cost seen before is below a larger one
        before : lt v.cost x ≡ true → (j : ℕ) (u : Float) → (j < n) × P j → get_or costs j Blank ≡ Corr u → lt u x ≡ true
        before t j u c q = lt-under v.cost x u (finite-costs v.k v.cost h.there) (finite-costs n x e) (finite-costs j u q) t (h.none_above j u c q)

        go : (t : Bool) → lt v.cost x ≡ t → Seen P costs (suc n) (cond t (Some (record { k = n; cost = x })) (Some v))
        go true t = record {
          counts = (omega arith, p);
          there = e;
          none_above = λ j u c q. last_or j n c.0 (λ i. rw (same_number _ u x (rw i at q) e) (lt-self x)) (λ l. lt_not u x (before t j u (l, c.1) q));
          first = λ j u c l q. before t j u (l, c.1) q;
        }
        go false t = record {
          counts = (omega (arith, h.counts.0), h.counts.1);
          there = h.there;
          none_above = λ j u c q. last_or j n c.0 (λ i. rw (same_number _ u x (rw i at q) e) t) (λ l. h.none_above j u (l, c.1) q);
          first = λ j u c l q. h.first j u (omega (arith, h.counts.0), c.1) l q;
        }

-- ---- the two walks

-- the same among other words for the indices that count
finds-as : (P Q : ℕ → Type 0) (costs : List RawCost) → ((j : ℕ) → P j → Q j) → ((j : ℕ) → Q j → P j) → (b : Option Best) → Finds P costs b → Finds Q costs b
finds-as P Q costs f g None h = λ j c. h j (g j c)
finds-as P Q costs f g (Some v) h = record {
  counts = f v.k h.counts;
  there = h.there;
  none_above = λ j u c q. h.none_above j u (g j c) q;
  first = λ j u c l q. h.first j u (g j c) l q;
}

-- the largest raw cost wins, ties to the smaller k
pub best-largest : (costs : List RawCost) → AllInRange costs → Finds (λ j. j < length costs) costs (best_of costs)
unfolding best_of
best-largest costs r =
    finds-as (λ j. (j < length costs) × Unit {0}) (λ j. j < length costs) costs (λ j c. c.0) (λ j l. (l, tt)) (best_of costs)
    (walk-keeps better (Seen (λ _. Unit {0}) costs) Blank costs None (λ n b l h. seen_next (λ _. Unit {0}) costs n (range-finite costs r) tt b (get_or costs n Blank) refl h) (λ j c. absurd (not-suc-le-zero c.0)))

-- the competitor is the largest at indices more than 1 away
pub competitor-largest : (k : ℕ) (costs : List RawCost) → AllInRange costs → Finds (λ j. (j < length costs) × (away k j ≡ true)) costs (competitor k costs)
unfolding competitor
competitor-largest k costs r =
    walk-keeps (rival k) (Seen Counts costs) Blank costs None (λ n b l h. step n b (away k n) refl h) (λ j c. absurd (not-suc-le-zero c.0))
  where
    Counts : ℕ → Type 0
    Counts j = away k j ≡ true

    step : (n : ℕ) (b : Option Best) (t : Bool) → away k n ≡ t → Seen Counts costs n b → Seen Counts costs (suc n) (cond t (better b n (get_or costs n Blank)) b)
    step n b true e h = seen_next Counts costs n (range-finite costs r) e b (get_or costs n Blank) refl h
    step n b false e h = seen_skip Counts costs n (λ c. absurd (true≢false (sym c ∙ e))) b h
