-- What the walk along a pixel's sums finds: the least, ties to the smaller index. Assumes nothing.
use Rattle.std.proofs.Common.{◌≡◌, ℕ, zero, suc, ◌<◌, ◌≤◌, Bool, true, false, cond, T, List, length, get_or, refl, not-suc-le-zero, arith}
use lib.Ieee.{Float, nan, inf, fin, lt}
use lib.Ieee.Scale.{finite}
use Rattle.lists.proofs.Tests.{last_or}
use Rattle.choices.specs.declared.semi_global.Least.{Least}
use Rattle.choices.specs.SemiGlobal.{lesser, least_of}
use Rattle.choices.specs.Extremes.{AllFinite, Smallest}
use Rattle.choices.proofs.Walking.{walk-keeps}
use Rattle.numbers.proofs.FloatOrder.{lt_not, lt-self, lt-over}

-- ---- the index alone, which needs no finite sums: below every bound of the count, if that is above 0
pub least-in : (n : ℕ) (sums : List Float) → 0 < n → length sums ≤ n → (least_of sums).k < n
unfolding least_of
least-in n sums N h = walk-keeps lesser (λ _ s. s.k < n) nan sums _ (λ i s l b. go i s (lt (get_or sums i nan) s.sum) b (omega arith)) N
  where
    go : (i : ℕ) (s : Least) (t : Bool) → s.k < n → i < n → (cond t (record { k = i; sum = get_or sums i nan }) s).k < n
    go i s true b l = l
    go i s false b l = b

-- ---- the least

-- s is the least of the first n sums, if there is one
record SoFar (sums : List Float) (n : ℕ) (s : Least) : Type 0 where
  counts : s.k < n
  there : get_or sums s.k nan ≡ s.sum
  none_below : (j : ℕ) → j < n → lt (get_or sums j nan) s.sum ≡ false
  first : (j : ℕ) → j < s.k → lt s.sum (get_or sums j nan) ≡ true

abbrev Seen : List Float → ℕ → Least → Type 0
Seen sums zero s = s.sum ≡ inf false
Seen sums (suc n) s = SoFar sums (suc n) s

below_top : (x : Float) → T (finite x) → lt x (inf false) ≡ true
unfolding lt
below_top nan f = absurd f
below_top (inf s) f = absurd f
below_top (fin s m e) f = refl

-- one sum more
seen_next : (sums : List Float) → AllFinite sums → (n : ℕ) (s : Least) → n < length sums → Seen sums n s → Seen sums (suc n) (lesser s n (get_or sums n nan))
seen_next sums all zero s l h = rw (h, below_top (get_or sums 0 nan) (all 0 l)) (record {
  counts = omega arith;
  there = refl;
  none_below = λ j q. last_or j 0 q (λ e. rw e (lt-self (get_or sums 0 nan))) (λ m. absurd (not-suc-le-zero m));
  first = λ j q. absurd (not-suc-le-zero q);
})
seen_next sums all (suc n) s l h = go (lt (get_or sums (suc n) nan) s.sum) refl
  where
    -- a sum seen before is above a lesser one
    before : lt (get_or sums (suc n) nan) s.sum ≡ true → (j : ℕ) → j < suc n → lt (get_or sums (suc n) nan) (get_or sums j nan) ≡ true
    before t j q =
        let own : T (finite s.sum) = rw h.there at (all s.k (omega (arith, h.counts))) in
        lt-over (get_or sums (suc n) nan) s.sum (get_or sums j nan) (all (suc n) l) own (all j (omega arith)) t (h.none_below j q)

    go : (t : Bool) → lt (get_or sums (suc n) nan) s.sum ≡ t → SoFar sums (suc (suc n)) (cond t (record { k = suc n; sum = get_or sums (suc n) nan }) s)
    go true t = record {
      counts = omega arith;
      there = refl;
      none_below = λ j q. last_or j (suc n) q (λ e. rw e (lt-self (get_or sums (suc n) nan))) (λ m. lt_not _ _ (before t j m));
      first = λ j q. before t j q;
    }
    go false t = record {
      counts = omega (arith, h.counts);
      there = h.there;
      none_below = λ j q. last_or j (suc n) q (λ e. rw e t) (λ m. h.none_below j m);
      first = h.first;
    }

-- the least sum wins, ties to the smaller k
pub least-smallest : (sums : List Float) → AllFinite sums → 0 < length sums → Smallest sums (least_of sums).k (least_of sums).sum
unfolding least_of
least-smallest sums all some = end (length sums) refl some (walk-keeps lesser (Seen sums) nan sums (record { k = 0; sum = inf false }) (seen_next sums all) refl)
  where
    end : (n : ℕ) → length sums ≡ n → 0 < n → Seen sums n (least_of sums) → Smallest sums (least_of sums).k (least_of sums).sum
    end zero e l h = absurd (not-suc-le-zero l)
    end (suc n) e l h = record { counts = omega (arith, h.counts); there = h.there; none_below = λ j q. h.none_below j (omega arith); first = h.first }
