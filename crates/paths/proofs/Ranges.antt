-- docs/SPECIFICATION.md, "Path costs": each L lies from 0 to 1,027, each sum from 0 to 8,216, for any raw volume whose raw costs are blank or lie from -1 to 1, and for
-- any penalties that are not refused. Assumes nothing.
use Prim.Native.Nat.{ℕ, ◌+◌, ◌-◌, ◌*◌, ◌/◌, ◌%◌, ◌<◌, ◌≤◌}
use mathlib.Core.Path.{◌≡◌, refl, sym, ◌∙◌, subst}
use mathlib.Core.Bool.{true, false}
use mathlib.Core.List.{List, [], ◌∷◌}
use native.Mathlib.Nat.{mod-lt, mul_comm, mul-one, mul_assoc, mul-pos, mul-le-mul_right, zero-mul, eq_of_mul-eq-mul_right}
use native.Mathlib.Omega.{arith}
use lib.Dec.{T, eqb, eqb→eq, lit<, lit≤}
use lib.IntN.{ℤ, pos}
use lib.ListN.{length, get_or, length-replicate}
use lib.Ieee.{Float, nan, inf, fin, binary32, up, down, round, sum, sub, fits, le}
use lib.Ieee.Fits.{up_pos, down_pos, round-fits, and_l}
use lib.Ieee.Scale.{finite}
use Rattle.lists.proofs.Rows.{mul-pos-left, row_below}
use Rattle.lists.proofs.Tests.{and_both}
use Rattle.options.specs.declared.RawCost.{RawCost}
use Rattle.options.specs.declared.RawCost.TheVariants.{Blank, Corr}
use Rattle.options.specs.Costs.{raw_of, InRange}
use Rattle.options.specs.Limits.{is_penalty, penalty_most}
use Rattle.paths.specs.Bounds.{UpTo, All}
use Rattle.paths.specs.Cost.{matching_cost, matching_costs}
use Rattle.paths.specs.Walk.{walk_along, path_volume, path_sums, add_paths, Direction, directions, zeros}
use Rattle.paths.proofs.Costed.{costs-length, plane-in}
use Rattle.paths.proofs.Steps.{length-sum}
use Rattle.paths.proofs.Units.{one, rep-of, rep-ones, rounded, taken-off, le-cross, le-back}
use Rattle.paths.proofs.Counts.{num-upto, Penalty, Adds, penalty}
use Rattle.paths.proofs.Bounded.{all-list_of, all-at, volume-range, sums-range}

-- ---- the matching cost

-- a fraction up to 2, rounded
round-upto : (a c : ℕ) → 0 < c → a ≤ 2 * c → UpTo 2 (round binary32 false a c)
round-upto a c C h =
    let most : a * one ≤ 2 * one * c = rw (mul_assoc 2 one c, mul_comm one c, sym (mul_assoc 2 c one)) (mul-le-mul_right one h) in
    let r = rounded a c 0 (2 * one) C (omega arith) most (rep-of 0 0 (lit< tt) (lit< tt)) (rep-ones 2 (lit< tt)) in
    num-upto 2 (round binary32 false a c) r.units (record { fit = round-fits binary32 false a c; val = r.val }) r.to

-- 1 - x where x is a fraction of either sign, at most 1 in size
less_upto : (a b c : ℕ) → 0 < c → a ≡ c → b ≤ a → UpTo 2 (sum binary32 false a true b c)
less_upto a b c C e h = rw (taken-off a b c h) (round-upto (a - b) c C (omega arith))

more-upto : (a b c : ℕ) → 0 < c → a ≡ c → b ≤ a → UpTo 2 (sum binary32 false a false b c)
unfolding sum
more-upto a b c C e h = round-upto (a + b) c C (omega arith)

-- THEOREM: a matching cost lies from 0 to 2
pub cost-range : (c : RawCost) → InRange c → UpTo 2 (matching_cost c)
unfolding sub fits
cost-range Blank h = (tt, lit≤ tt)
cost-range (Corr nan) h = absurd (unfold le in h.0)
cost-range (Corr (inf true)) h = absurd (unfold le in h.0)
cost-range (Corr (inf false)) h = absurd (unfold le in h.1)
cost-range (Corr (fin false m e)) h =
    less_upto (1 * 1 * down e) (m * up e * 1) (1 * down e) (mul-pos (lit< tt) (down_pos e)) (omega arith) (le-cross m 1 e (pos 0) h.1)
cost-range (Corr (fin true m e)) h =
    more-upto (1 * 1 * down e) (m * up e * 1) (1 * down e) (mul-pos (lit< tt) (down_pos e)) (omega arith) (le-back 1 m (pos 0) e h.0)

-- ---- a penalty

-- minus zero: the size of a float that is no less than zero and has a minus
no_size : (m : ℕ) (e : ℤ) → T (le (fin false 0 (pos 0)) (fin true m e)) → m ≡ 0
unfolding le
no_size m e t =
    let same : 0 * 1 * down e ≡ m * up e * 1 = eqb→eq (0 * 1 * down e) (m * up e * 1) (and_l (eqb (0 * 1 * down e) (m * up e * 1)) (eqb (0 * 1 * down e) 0) t) in
    eq_of_mul-eq-mul_right (up e) (up_pos e) m 0 (sym (mul-one (m * up e)) ∙ sym same ∙ zero-mul (down e) ∙ sym (zero-mul (up e)))

-- THEOREM: a penalty that is not refused is a number from 0 to 1,024, or minus zero
pub penalty-fits : (p : Float) → T (fits binary32 p) → is_penalty p ≡ true → Penalty p
penalty-fits p f h =
    let both = and_both (le (fin false 0 (pos 0)) p) (le p penalty_most) h in
    by p f (subst T (sym both.0) tt) (subst T (sym both.1) tt)
  where
    by : (p : Float) → T (fits binary32 p) → T (le (fin false 0 (pos 0)) p) → T (le p penalty_most) → Penalty p
    by nan f l h = absurd (unfold le in l)
    by (inf true) f l h = absurd (unfold le in l)
    by (inf false) f l h = absurd (unfold le in h)
    by (fin true m e) f l h = no_size m e l
    by (fin false m e) f l h = (f, rw (mul-one (m * up e)) at (le-cross m 1 e (pos 10) h))

-- so it adds its count
pub adds : (p : Float) → T (fits binary32 p) → is_penalty p ≡ true → Adds p
adds p f h = penalty p (penalty-fits p f h)

-- ---- the path costs and their sums

-- the matching costs of a raw volume of which the first area * count cells are raw costs in range
pub costs-range : (area count : ℕ) (volume : List Float) → ((i : ℕ) → i < area * count → InRange (raw_of (get_or volume i nan))) → All (UpTo 2) (matching_costs area count volume)
unfolding matching_costs
costs-range area count volume raw =
    all-list_of (UpTo 2) (area * count) (λ i. matching_cost (raw_of (get_or volume (i % count * area + i / count) nan)))
    (λ i h. let some : 0 < count = mul-pos-left i count area (omega (arith, mul_comm area count)) in
    cost-range (raw_of (get_or volume (i % count * area + i / count) nan)) (raw (i % count * area + i / count) (plane-in area count (i / count) (i % count) (row_below count area i (omega (arith, mul_comm area count))) (mod-lt i some))))

pub sums-length : (w h count : ℕ) (p1 p2 : Float) (c : List Float) → length (path_sums w h count p1 p2 c) ≡ w * h * count
unfolding path_sums add_paths
sums-length w h count p1 p2 c = kept directions (zeros (w * h * count)) ∙ length-replicate (w * h * count) (fin false 0 (pos 0))
  where
    kept : (ds : List (List ℤ)) (s : List Float) → length (add_paths (walk_along w h count p1 p2) c s ds) ≡ length s
    kept [] s = refl
    kept (d ∷ ds) s = kept ds _ ∙ length-sum s (path_volume (walk_along w h count p1 p2 d) c)

pub upto-finite : (n : ℕ) (x : Float) → UpTo n x → finite x ≡ true
upto-finite n nan t = absurd t
upto-finite n (inf s) t = absurd t
upto-finite n (fin s m e) t = refl

module _ (w h count : ℕ) (p1 p2 : Float) (volume : List Float) (some : 0 < count) (p1-fits : T (fits binary32 p1)) (p2-fits : T (fits binary32 p2)) (p1-in : is_penalty p1 ≡ true)
    (p2-in : is_penalty p2 ≡ true) (raw : (i : ℕ) → i < w * h * count → InRange (raw_of (get_or volume i nan))) where
  size : length (matching_costs (w * h) count volume) ≡ w * h * count
  size = costs-length (w * h) count volume

  costs : All (UpTo 2) (matching_costs (w * h) count volume)
  costs = costs-range (w * h) count volume raw

  -- THEOREM: each L lies from 0 to 1,027, in every direction
  pub path-costs-range : (dx dy : ℤ) → Direction dx dy → All (UpTo 1027) (path_volume (walk_along w h count p1 p2 (dx ∷ dy ∷ [])) (matching_costs (w * h) count volume))
  path-costs-range dx dy dir =
      volume-range (walk_along w h count p1 p2 (dx ∷ dy ∷ [])) (matching_costs (w * h) count volume) dir (adds p1 p1-fits p1-in) (adds p2 p2-fits p2-in) some size costs

  -- THEOREM: each sum of the eight L lies from 0 to 8,216
  pub path-sums-range : All (UpTo 8216) (path_sums w h count p1 p2 (matching_costs (w * h) count volume))
  path-sums-range = sums-range w h count p1 p2 (matching_costs (w * h) count volume) (adds p1 p1-fits p1-in) (adds p2 p2-fits p2-in) some size costs

  -- THEOREM: so each sum is finite, and no NaN
  pub path-sums-finite : (i : ℕ) → i < w * h * count → finite (get_or (path_sums w h count p1 p2 (matching_costs (w * h) count volume)) i nan) ≡ true
  path-sums-finite i l =
      let c = matching_costs (w * h) count volume in
      upto-finite 8216 (get_or (path_sums w h count p1 p2 c) i nan) (all-at (UpTo 8216) (path_sums w h count p1 p2 c) i nan path-sums-range (omega (arith, sums-length w h count p1 p2 c)))
