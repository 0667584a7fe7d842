-- The raw cost of two windows, from what the room holds. Assumes nothing.
use Prim.Native.Nat.{ℕ, ◌+◌, ◌*◌, ◌≤◌, ◌<◌, ◌/◌}
use mathlib.Core.Path.{◌≡◌, sym, ap, ◌∙◌}
use mathlib.Core.Bool.{not, or-true}
use mathlib.Core.List.{List}
use mathlib.Core.Logic.{⊎_elim}
use native.Mathlib.Nat.{eq-zero-or-pos}
use native.Mathlib.Omega.{arith}
use borrow.Author.Tests.{ne_eqb, eq-eqb}
use lib.Dec.{T}
use lib.IntN.{ℤ}
use lib.ListN.{length, get_or}
use lib.Ieee.{binary64, nan_bits, of_bits, of_int, mul, div}
use Rattle.options.specs.Limits.{side_most, block_most}
use Rattle.numbers.specs.Root.{root_of}
use Rattle.numbers.specs.Narrow.{narrowed}
use Rattle.options.specs.declared.RawCost.TheVariants.{Blank, Corr}
use Rattle.windows.specs.Table.{cross_at}
use Rattle.windows.specs.Window.{window_sum, Inside, corner_sum, Corners, cells, corner_at}
use Rattle.windows.specs.Moments.{covariance_of}
use Rattle.costs.specs.Raw.{pixels, window_var, window_cov, one_level, correlation, pair_cost}
use Rattle.costs.specs.Quotient.{CountsExactly, quotient_cost}
use Rattle.costs.specs.Roots.{root_bits}
use Rattle.costs.specs.Rooms.{TablesOf, WindowsSummed, RoomOf, Pair}
use Rattle.costs.proofs.RootBits.{bits-of-zero, bits_back, bits-number, bits-zero}
use Rattle.windows.proofs.Corners.{corners, corner-sum}
use Rattle.costs.proofs.Readings.{corner-in, cells-most, var-most, counted, tables-long, tables-of, sum-here, sum-there, products, root-here, root-there}
use Rattle.costs.proofs.OneLevel.{flat-one, one-level}

pub pos-of-ne : (v : ℕ) → (v ≡ 0 → ⊥) → 1 ≤ v
pos-of-ne v n = ⊎_elim (λ (e : v ≡ 0). absurd (n e)) (λ (l : 0 < v). l) (eq-zero-or-pos v)

module _ (w r : ℕ) (a b : List ℕ) (s : ℤ) (x x' y : ℕ) where
  pub blank-here : window_var w a x y r ≡ 0 → Blank ≡ pair_cost w r a b s x x' y
  unfolding pair_cost
  blank-here e = rw (flat-one w a x y r e)

  pub blank-there : window_var w b x' y r ≡ 0 → Blank ≡ pair_cost w r a b s x x' y
  unfolding pair_cost
  blank-there e = rw (flat-one w b x' y r e, or-true (one_level w a x y r))

  pub not-blank : (window_var w a x y r ≡ 0 → ⊥) → (window_var w b x' y r ≡ 0 → ⊥)
      → pair_cost w r a b s x x' y ≡ Corr (correlation (window_cov w a b s x x' y r) (window_var w a x y r) (window_var w b x' y r))
  unfolding pair_cost
  not-blank na nb =
      rw (one-level w a x y r ∙ ne_eqb (window_var w a x y r) 0 na, one-level w b x' y r ∙ ne_eqb (window_var w b x' y r) 0 nb)

-- where a pair of windows is read: the corners' indices, and the length of the tables
pub record Spots (room : List ℕ) (w h r x x' y : ℕ) : Type 0 where
  pub most : cells w h ≤ (side_most + 1) * (side_most + 1)
  pub here : corner_at w x y r < cells w h
  pub there : corner_at w x' y r < cells w h
  pub long : 4 * cells w h ≤ length room

pub spots-in : {room : List ℕ} {w h r x x' y : ℕ} {a b : List ℕ} → TablesOf room w h r a b → Inside w h x y r → Inside w h x' y r → Spots room w h r x x' y
spots-in {room} {w} {h} {r} {x} {x'} {y} t i i' = record {
  most = cells-most w h t.frame.w-most t.frame.h-most;
  here = corner-in w h x y r i;
  there = corner-in w h x' y r i';
  long = omega (arith, tables-long t);
}

-- ---- the sum of the products, from its table
module _ {room : List ℕ} {w h r x x' y : ℕ} (p : Pair room w h r x x' y) where
  pub corners-both : Corners room (w + 1) (4 * cells w h + corner_at w x y r) (2 * r + 1)
  corners-both = corners room (4 * cells w h) w h (cross_at w p.a p.b p.s) x y r p.first (products p.held _)

  module _ (both : ℕ) (e : both ≡ corner_sum room (w + 1) (4 * cells w h + corner_at w x y r) (2 * r + 1)) where
    pub sum_both : {s : ℤ} {a b : List ℕ} → RoomOf room w h r s a b → both ≡ window_sum (cross_at w a b s) x y r
    sum_both {s} {a} {b} o = e ∙ corner-sum room (4 * cells w h) w h (cross_at w a b s) x y r p.first (products o _)

    pub summed : WindowsSummed room w h r x x' y both
    summed = record { s = p.s; a = p.a; b = p.b; held = tables-of p.held; first = p.first; second = p.second; apart = p.apart; sum = sum_both p.held }

-- ---- the cost, from that sum
module _ {room : List ℕ} {w h r x x' y both : ℕ} (p : WindowsSummed room w h r x x' y both) where
  pub spots : Spots room w h r x x' y
  spots = spots-in p.held p.first p.second

  -- of each pair of pictures whose tables the room holds
  module _ {a b : List ℕ} (o : TablesOf room w h r a b) where
    few : r ≤ block_most / 2
    few = o.frame.r-most

    pub flat-here : get_or room (cells w h + corner_at w x y r) 0 ≡ 0 → window_var w a x y r ≡ 0
    flat-here e = bits-zero _ (var-most w h a x y r few o.first) (sym (root-here o x y p.first) ∙ e)

    pub flat-there : get_or room (3 * cells w h + corner_at w x' y r) 0 ≡ 0 → window_var w b x' y r ≡ 0
    flat-there e = bits-zero _ (var-most w h b x' y r few o.second) (sym (root-there o x' y p.second) ∙ e)

    pub spread-here : (get_or room (cells w h + corner_at w x y r) 0 ≡ 0 → ⊥) → window_var w a x y r ≡ 0 → ⊥
    spread-here n e = n (root-here o x y p.first ∙ ap root_bits e ∙ bits-of-zero)

    pub spread-there : (get_or room (3 * cells w h + corner_at w x' y r) 0 ≡ 0 → ⊥) → window_var w b x' y r ≡ 0 → ⊥
    spread-there n e = n (root-there o x' y p.second ∙ ap root_bits e ∙ bits-of-zero)

  -- the cells that are read
  abbrev pub sum_a : ℕ
  sum_a = get_or room (corner_at w x y r) 0

  abbrev pub sum_b : ℕ
  sum_b = get_or room (2 * cells w h + corner_at w x' y r) 0

  abbrev pub root_a : ℕ
  root_a = get_or room (cells w h + corner_at w x y r) 0

  abbrev pub root_b : ℕ
  root_b = get_or room (3 * cells w h + corner_at w x' y r) 0

  -- what the covariance needs of the three sums
  pub sums-counted : CountsExactly (pixels r) sum_a sum_b both
  sums-counted =
      rw (sum-here p.held x y p.first, sum-there p.held x' y p.second, p.sum)
      (counted w h p.a p.b x x' y r p.held.frame.r-most p.held.first p.held.second p.s p.apart p.first.left p.second.left)

  -- and what it is
  pub cov-is : (s : ℤ) {a b : List ℕ} → TablesOf room w h r a b → both ≡ window_sum (cross_at w a b s) x y r → covariance_of (pixels r) sum_a sum_b both ≡ window_cov w a b s x x' y r
  unfolding window_cov
  cov-is s o e = rw (sum-here o x y p.first, sum-there o x' y p.second, e)

  pub no-nan-here : T (not (nan_bits binary64 root_a))
  no-nan-here = rw (root-here p.held x y p.first) (bits-number _ (var-most w h p.a x y r p.held.frame.r-most p.held.first))

  pub no-nan-there : T (not (nan_bits binary64 root_b))
  no-nan-there = rw (root-there p.held x' y p.second) (bits-number _ (var-most w h p.b x' y r p.held.frame.r-most p.held.second))

  module _ (s : ℤ) {a b : List ℕ} (o : TablesOf room w h r a b) (cov : ℤ) (ec : cov ≡ window_cov w a b s x x' y r) where
    -- where neither window is flat
    spread : (root_a ≡ 0 → ⊥) → (root_b ≡ 0 → ⊥) → Corr (narrowed (div binary64 (of_int binary64 cov) (mul binary64 (of_bits binary64 root_a) (of_bits binary64 root_b)))) ≡ pair_cost w r a b s x x' y
    unfolding correlation
    spread n n' =
        let na = spread-here o n in
        let nb = spread-there o n' in
        let ra : of_bits binary64 root_a ≡ root_of (window_var w a x y r) = ap (of_bits binary64) (root-here o x y p.first) ∙ bits_back _ (pos-of-ne _ na) (var-most w h a x y r o.frame.r-most o.first) in
        let rb : of_bits binary64 root_b ≡ root_of (window_var w b x' y r) = ap (of_bits binary64) (root-there o x' y p.second) ∙ bits_back _ (pos-of-ne _ nb) (var-most w h b x' y r o.frame.r-most o.second) in
        rw (ra, rb, ec) (sym (not-blank w r a b s x x' y na nb))

    -- it is the raw cost
    pub cost-is : quotient_cost (of_int binary64 cov) root_a root_b ≡ pair_cost w r a b s x x' y
    cost-is =
        ⊎_elim
        (λ (z : root_a ≡ 0). rw (eq-eqb root_a 0 z) (blank-here w r a b s x x' y (flat-here o z)))
        (λ (n : 0 < root_a).
        ⊎_elim
        (λ (z : root_b ≡ 0). rw (ne_eqb root_a 0 (λ e. omega arith), eq-eqb root_b 0 z) (blank-there w r a b s x x' y (flat-there o z)))
        (λ (n' : 0 < root_b). rw (ne_eqb root_a 0 (λ e. omega arith), ne_eqb root_b 0 (λ e. omega arith)) (spread (λ e. omega arith) (λ e. omega arith)))
        (eq-zero-or-pos root_b))
        (eq-zero-or-pos root_a)
