-- The matching costs of a raw volume, cell by cell and as three loops make them. Assumes nothing.
use Prim.Native.Nat.{ℕ, ◌+◌, ◌-◌, ◌*◌, ◌/◌, ◌%◌, ◌<◌, ◌≤◌}
use mathlib.Core.Path.{◌≡◌, sym, ap, ◌∙◌}
use mathlib.Core.List.{List}
use native.Mathlib.Nat.{mul_comm, mod-lt, div-add-mod', add-mul, mul-le-mul_right}
use native.Mathlib.Numerals.{add-one}
use native.Mathlib.Omega.{arith}
use Rattle.std.proofs.Common.{min}
use mathlib.Core.Logic.{⊎_elim}
use lib.ListN.{length, get_or, set}
use lib.Ieee.{Float, nan}
use Rattle.lists.proofs.Lists.{list_of-length, list_of-at}
use Rattle.lists.proofs.Rows.{in-column, in-row, cell_in, mul-pos-left, row_below}
use Rattle.lists.proofs.Tests.{lt-or-le}
use Rattle.options.specs.Costs.{raw_of}
use Rattle.paths.specs.Cost.{matching_cost, matching_costs, costs_from}
use Rattle.paths.specs.Room.{run, put, spread}
use Rattle.paths.proofs.Parts.{get_d-run}
use Rattle.paths.proofs.Walks.{cells-end}
use Rattle.paths.proofs.Blocks.{Made, made-next, made_all, Begun, begun_all, begun_part, begun_full}

pub costs-length : (area count : ℕ) (volume : List Float) → length (matching_costs area count volume) ≡ area * count
unfolding matching_costs
costs-length area count volume = list_of-length (area * count) (λ i. matching_cost (raw_of (get_or volume (i % count * area + i / count) nan)))

-- cell k * area + p of the raw volume, and cell p * count + k of the matching costs
pub plane-in : (area count p k : ℕ) → p < area → k < count → k * area + p < area * count
plane-in area count p k hp hk = cell_in k count p area (area * count) hk hp (omega (arith, mul_comm area count))

pub costs-at : (area count : ℕ) (volume : List Float) (p k : ℕ) → p < area → k < count
    → get_or (matching_costs area count volume) (p * count + k) nan ≡ matching_cost (raw_of (get_or volume (k * area + p) nan))
unfolding matching_costs
costs-at area count volume p k hp hk =
    list_of-at (area * count) (λ i. matching_cost (raw_of (get_or volume (i % count * area + i / count) nan))) (p * count + k) nan (omega (arith, cells-end area count p hp))
    ∙ rw (in-column count k p hk, in-row count k p hk)

-- the matching cost of the raw cost in cell i
abbrev pub cost_at : List Float → ℕ → Float
cost_at v i = matching_cost (raw_of (get_or v i nan))

pub from-length : (area count p n : ℕ) (volume : List Float) → length (costs_from area count p n volume) ≡ n * count
unfolding costs_from
from-length area count p n volume = list_of-length (n * count) (λ i. matching_cost (raw_of (get_or volume (i % count * area + (p + i / count)) nan)))

-- ---- the costs with one index of some pixels

pub index-turn : (count k : ℕ) (raw costs v : List Float) (d : ℕ) → v ≡ spread d count k (cost_at raw) costs → set v (d * count + k) (cost_at raw d) ≡ spread (d + 1) count k (cost_at raw) costs
unfolding spread
index-turn count k raw costs v d e =
    ap (λ (z : List Float). set z (d * count + k) (cost_at raw d)) e ∙ ap (λ (j : ℕ). spread j count k (cost_at raw) costs) (sym (add-one d))

-- ---- the costs of n pixels from pixel p on

module _ (area count p n : ℕ) (hp : p + n ≤ area) (raw : List Float) (long : length raw ≡ count * area) where
  -- the raw costs of a turn
  pub plane-end : (k : ℕ) → k < count → k * area + p + n ≤ count * area
  plane-end k hk = omega (arith, cells-end count area k hk)

  pub pixels-turn : (v : List Float) (k : ℕ) → k < count → Made v n count (λ d j. cost_at raw (j * area + (p + d))) k → (v' : List Float)
      → v' ≡ spread n count k (cost_at (run n (k * area + p) raw)) v → Made v' n count (λ d j. cost_at raw (j * area + (p + d))) (k + 1)
  pixels-turn v k hk done v' e' =
      made-next done hk (cost_at (run n (k * area + p) raw))
      (λ d hd. let s : k * area + p + d ≡ k * area + (p + d) = omega arith in
      ap (λ (x : Float). matching_cost (raw_of x)) (get_d-run n (k * area + p) raw d nan hd ∙ ap (λ (i : ℕ). get_or raw i nan) s))
      v' e'

  pub pixels-done : (v : List Float) (k : ℕ) → k ≡ count → Made v n count (λ d j. cost_at raw (j * area + (p + d))) k → v ≡ costs_from area count p n raw
  unfolding costs_from
  pixels-done v k hk done = made_all done hk

-- ---- those of all pixels

module _ (area count : ℕ) (raw : List Float) where
  -- the cost that is made, and the one that is asked for
  cell : (p n : ℕ) → p + n ≤ area → (j : ℕ) → j < n * count → get_or (costs_from area count p n raw) j nan ≡ get_or (matching_costs area count raw) (p * count + j) nan
  unfolding costs_from
  cell p n hp j hj =
      let some : 0 < count = mul-pos-left j count n (omega (arith, mul_comm n count)) in
      let hd : j / count < n = row_below count n j (omega (arith, mul_comm n count)) in
      let hk : j % count < count = mod-lt j some in
      let q = p + j / count in
      let hq : q < area = omega arith in
      let whole : q * count + j % count ≡ p * count + j = omega (arith, add-mul p (j / count) count, div-add-mod' j count) in
      list_of-at (n * count) (λ i. matching_cost (raw_of (get_or raw (i % count * area + (p + i / count)) nan))) j nan hj
      ∙ sym (costs-at area count raw q (j % count) hq hk)
      ∙ ap (λ (i : ℕ). get_or (matching_costs area count raw) i nan) whole

  -- the n pixels from pixel p on end where they should
  pub pixels-end : (p n : ℕ) → p + n ≤ area → p * count + n * count ≤ area * count
  pixels-end p n hp = omega (arith, add-mul p n count, mul-le-mul_right count hp)

  -- n pixels are 16 of them, or those that are left
  pub costs-turn : (v : List Float) (p n : ℕ) → p < area → n ≡ min (area - p) 16 → Begun (matching_costs area count raw) v (p * count)
      → Begun (matching_costs area count raw) (put v (p * count) (costs_from area count p n raw)) ((p + 16) * count)
  costs-turn v p n hp e b =
      let inside : p + n ≤ area = omega arith in
      let next : p * count + n * count ≡ (p + n) * count = sym (add-mul p n count) in
      let done = rw next at (begun_part b (n * count) (omega (arith, pixels-end p n inside, costs-length area count raw)) (costs_from area count p n raw) (from-length area count p n raw) (cell p n inside)) in
      ⊎_elim (λ (h : p + n < area). let q : p + n ≡ p + 16 = omega arith in rw q at done)
      (λ (h : area ≤ p + n). begun_full done (omega (arith, costs-length area count raw, mul-le-mul_right count h)) ((p + 16) * count))
      (lt-or-le (p + n) area)

  pub costs-done : {v : List Float} {p : ℕ} → area ≤ p → Begun (matching_costs area count raw) v (p * count) → v ≡ matching_costs area count raw
  costs-done {v} {p} h b = begun_all b (omega (arith, costs-length area count raw, mul-le-mul_right count h))
