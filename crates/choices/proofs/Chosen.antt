-- The numbers that a row keeps of a column are the best and the competitor of its raw costs. Assumes nothing.
use Rattle.std.proofs.Common.{◌≡◌, ℕ, zero, suc, ◌<◌, Bool, true, false, cond, ◌&&◌, T, List, Option, Some, None, map, length, get_or, sym, refl, ap, ◌∙◌, subst, arith}
use lib.Ieee.{Float, nan, inf, fin, binary32, lt, le, eq, sub, add, neg}
use lib.Ieee.Scale.{finite}
use Rattle.lists.specs.Lists.{list_of}
use Rattle.lists.proofs.Lists.{list_of-length, list_of-at}
use Rattle.numbers.proofs.Plainly.{none_below, none_above}
use Rattle.options.specs.declared.RawCost.{RawCost}
use Rattle.options.specs.declared.RawCost.TheVariants.{Blank, Corr}
use Rattle.options.specs.Costs.{stored, raw_of, InRange}
use Rattle.maps.specs.declared.Cell.TheVariants.{Mark, At}
use Rattle.choices.specs.declared.block.Best.{Best}
use Rattle.choices.specs.declared.block.Gates.{Gates}
use Rattle.choices.specs.declared.subpixel.Search.{Search}
use Rattle.choices.specs.Block.{better, best_of, away, rival, competitor, too_close, gated, block_choice}
use Rattle.choices.specs.Subpixel.{placed}
use Rattle.choices.specs.Extremes.{AllInRange, Finds}
use Rattle.choices.specs.Leading.{most_of, index_of, rival_of, too_near}
use Rattle.choices.proofs.Costs.{raw-back}
use Rattle.choices.proofs.Largest.{best-in, range-finite, best-largest}
use Rattle.choices.proofs.Walking.{walk-keeps}

-- ---- one raw cost more

-- the best so far, as its largest number and its index
abbrev Leads : Option Best → Float → ℕ → Type 0
Leads None m j = (m ≡ inf true) × (j ≡ 0)
Leads (Some b) m j = (b.cost ≡ m) × (b.k ≡ j)

larger : (b : Option Best) (m x : Float) (j k : ℕ) → Leads b m j → lt (inf true) x ≡ true → Leads (better b k (Corr x)) (cond (lt m x) x m) (cond (lt m x) k j)
larger None m x j k h t = rw (h.0, t) (refl, refl)
larger (Some b) m x j k h t = rw (← h.0, ← h.1) (go (lt b.cost x))
  where
    go : (s : Bool) → Leads (cond s (Some (record { k = k; cost = x })) (Some b)) (cond s x b.cost) (cond s k b.k)
    go true = (refl, refl)
    go false = (refl, refl)

leads-next : (b : Option Best) (m x : Float) (j k : ℕ) → InRange (raw_of x) → Leads b m j → Leads (better b k (raw_of x)) (cond (lt m x) x m) (cond (lt m x) k j)
unfolding eq le lt
leads-next b m nan j k r h = absurd r.0
leads-next b m (inf true) j k r h = rw (none_below m) h
leads-next b m (inf false) j k r h = absurd r.1
leads-next b m (fin s a e) j k r h = larger b m (fin s a e) j k h refl

-- the competitor so far, as its largest number
abbrev Rivals : Option Best → Float → Type 0
Rivals None m = m ≡ inf true
Rivals (Some b) m = b.cost ≡ m

alone : (b : Option Best) (m : Float) (j : ℕ) → Leads b m j → Rivals b m
alone None m j h = h.0
alone (Some b) m j h = h.0

rivals-next : (t : Bool) (b : Option Best) (m x : Float) (k : ℕ) → InRange (raw_of x) → Rivals b m → Rivals (cond t (better b k (raw_of x)) b) (cond (t && lt m x) x m)
rivals-next false b m x k r h = h
rivals-next true None m x k r h = alone (better None k (raw_of x)) _ _ (leads-next None m x 0 k r (h, refl))
rivals-next true (Some b) m x k r h = alone (better (Some b) k (raw_of x)) _ _ (leads-next (Some b) m x b.k k r (h, refl))

-- ---- a column of n numbers

either : (t : Bool) (a b n : ℕ) → a < n → b < n → cond t a b < n
either true a b n p q = p
either false a b n p q = q

pub index_in : (v : ℕ → Float) (n : ℕ) → 0 < n → index_of v n < n
unfolding index_of
index_in v zero l = absurd (omega arith)
index_in v (suc n) l = either (lt (most_of v n) (v n)) n (index_of v n) (suc n) (omega arith) (before n)
  where
    before : (n : ℕ) → index_of v n < suc n
    before zero = omega arith
    before (suc n) = either (lt (most_of v n) (v n)) n (index_of v n) (suc (suc n)) (omega arith) (omega (arith, before n))

-- the raw costs of a column
abbrev costs_by : (ℕ → Float) → ℕ → List RawCost
costs_by v n = list_of n (λ k. raw_of (v k))

-- what the raw cost with its index says of the best
abbrev pub best_from : ℕ → RawCost → Option Best
best_from j Blank = None
best_from j (Corr u) = Some (record { k = j; cost = u })

from-blank : (j : ℕ) (x : Float) → x ≡ inf true → None ≡ best_from j (raw_of x)
unfolding eq
from-blank j x e = rw e

from-number : (j : ℕ) (x u : Float) → raw_of x ≡ Corr u → Some (record { k = j; cost = u }) ≡ best_from j (raw_of x)
from-number j x u e = rw e

far-below : (x : Float) → T (finite x) → sub binary32 x (inf true) ≡ inf false
unfolding sub add neg
far-below nan f = absurd f
far-below (inf s) f = absurd f
far-below (fin s m e) f = refl

-- a competitor's number, taken for a raw cost: negative infinity is infinitely far below
near_by : (m best ratio : Float) → T (finite best) → too_near best (raw_of m) ratio ≡ lt (sub binary32 best m) ratio
unfolding eq
near_by nan best ratio f = refl
near_by (inf true) best ratio f = rw (far-below best f) (sym (none_above ratio))
near_by (inf false) best ratio f = refl
near_by (fin s a e) best ratio f = refl

close-by : (b : Option Best) (m best ratio : Float) → T (finite best) → Rivals b m → too_close best b ratio ≡ too_near best (raw_of m) ratio
unfolding eq
close-by None m best ratio f h = rw h
close-by (Some b) m best ratio f h = rw h (sym (near_by m best ratio f))

module _ (v : ℕ → Float) (n : ℕ) (range : (k : ℕ) → k < n → InRange (raw_of (v k))) where
  cost-at : (k : ℕ) → k < n → get_or (costs_by v n) k Blank ≡ raw_of (v k)
  cost-at k l = list_of-at n (λ k. raw_of (v k)) k Blank l

  short : (k : ℕ) → k < length (costs_by v n) → k < n
  short k l = rw list_of-length at l

  all-range : AllInRange (costs_by v n)
  all-range k l = rw (cost-at k (short k l)) (range k (short k l))

  led : Leads (best_of (costs_by v n)) (most_of v n) (index_of v n)
  unfolding best_of most_of index_of
  led =
      subst (λ m. Leads (best_of (costs_by v n)) (most_of v m) (index_of v m)) (list_of-length n _)
      (walk-keeps better (λ k b. Leads b (most_of v k) (index_of v k)) Blank (costs_by v n) None
      (λ k b l h. rw (cost-at k (short k l)) (leads-next b (most_of v k) (v k) (index_of v k) k (range k (short k l)) h))
      (refl, refl))

  rivalled : (j : ℕ) → Rivals (competitor j (costs_by v n)) (rival_of j v n)
  unfolding competitor rival_of
  rivalled j =
      subst (λ m. Rivals (competitor j (costs_by v n)) (rival_of j v m)) (list_of-length n _)
      (walk-keeps (rival j) (λ k b. Rivals b (rival_of j v k)) Blank (costs_by v n) None
      (λ k b l h. rw (cost-at k (short k l)) (rivals-next (away j k) b (rival_of j v k) (v k) k (range k (short k l)) h))
      refl)

  -- the number with an index whose raw cost is known
  number_is : (k : ℕ) (c : RawCost) → k < n → get_or (costs_by v n) k Blank ≡ c → v k ≡ stored c
  number_is k c l e = sym (raw-back (v k)) ∙ ap stored (sym (cost-at k l) ∙ e)

  module _ (some : 0 < n) where
    found : (b : Option Best) → Leads b (most_of v n) (index_of v n) → Finds (λ j. j < length (costs_by v n)) (costs_by v n) b → b ≡ best_from (index_of v n) (raw_of (v (index_of v n)))
    found None h f = from-blank _ _ (rw h.1 (number_is 0 Blank some (f 0 (rw list_of-length some))))
    found (Some b) h f = rw (← h.1) (from-number _ _ _ (sym (cost-at b.k (short b.k f.counts)) ∙ f.there))

    -- the best, from the raw cost with its index
    pub best-is : (k : ℕ) (c : RawCost) → k ≡ index_of v n → c ≡ raw_of (v k) → best_from k c ≡ best_of (costs_by v n)
    best-is k c at e = rw (e, at) (sym (found (best_of (costs_by v n)) led (best-largest (costs_by v n) all-range)))

  -- a best that is found has that index, and is a number
  module _ (best : Best) (is : best_of (costs_by v n) ≡ Some best) where
    pub best-index : best.k ≡ index_of v n
    best-index = (subst (λ b. Leads b (most_of v n) (index_of v n)) is led).1

    best-finite : T (finite best.cost)
    best-finite =
        let l = subst (Finds (λ j. j < length (costs_by v n)) (costs_by v n)) is (best-largest (costs_by v n) all-range) in
        range-finite (costs_by v n) all-range best.k best.cost l.there

    -- the gate of the competitor
    pub too-close : (ratio : Float) → too_close best.cost (competitor best.k (costs_by v n)) ratio ≡ too_near best.cost (raw_of (rival_of best.k v n)) ratio
    too-close ratio = close-by (competitor best.k (costs_by v n)) (rival_of best.k v n) best.cost ratio best-finite (rivalled best.k)

-- ---- the choice

-- from a column's best and its competitor
module _ (search : Search) (gates : Gates) (v : ℕ → Float) (range : (k : ℕ) → k < search.count → InRange (raw_of (v k))) where
  pub choice-none : best_of (costs_by v search.count) ≡ None → Mark ≡ block_choice search gates (costs_by v search.count)
  unfolding block_choice gated
  choice-none is = rw is

  module _ (best : Best) (is : best_of (costs_by v search.count) ≡ Some best) where
    pub choice-in : best.k < search.count
    choice-in = rw list_of-length at (best-in (costs_by v search.count) best is)

    pub choice-low : lt best.cost gates.min_correlation ≡ true → Mark ≡ block_choice search gates (costs_by v search.count)
    unfolding block_choice gated
    choice-low e = rw (is, e)

    module _ (high : lt best.cost gates.min_correlation ≡ false) (second : RawCost) (other : second ≡ raw_of (rival_of (index_of v search.count) v search.count)) where
      close : too_close best.cost (competitor best.k (costs_by v search.count)) gates.uniqueness_ratio ≡ too_near best.cost second gates.uniqueness_ratio
      close = rw (other, ← best-index v search.count range best is) (too-close v search.count range best is gates.uniqueness_ratio)

      pub choice-close : too_near best.cost second gates.uniqueness_ratio ≡ true → Mark ≡ block_choice search gates (costs_by v search.count)
      unfolding block_choice gated
      choice-close e = rw (is, high, close, e)

      pub choice-at : too_near best.cost second gates.uniqueness_ratio ≡ false
          → At (placed search (map stored (costs_by v search.count)) best.k best.cost) ≡ block_choice search gates (costs_by v search.count)
      unfolding block_choice gated
      choice-at e = rw (is, high, close, e)
