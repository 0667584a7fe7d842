-- The matching costs of a turned raw volume are the turned matching costs of the volume, and turned costs keep their range. Assumes nothing.
use Prim.Native.Nat.{ℕ, ◌+◌, ◌*◌, ◌/◌, ◌%◌, ◌<◌, ◌≤◌}
use mathlib.Core.Path.{◌≡◌, refl, sym, ap, ◌∙◌}
use mathlib.Core.Bool.{true}
use mathlib.Core.List.{List}
use mathlib.Core.Logic.{⊎_elim}
use native.Mathlib.Nat.{mod-lt, mul_comm, div-add-mod'}
use native.Mathlib.Omega.{arith}
use borrow.Author.Tests.{lt-ltb, le-ltb}
use lib.IntN.{ℤ, pos, negsuc}
use lib.ListN.{length, get_or}
use lib.Seq.{ext_get_or}
use lib.Ieee.{Float, nan, inf, eq}
use Rattle.lists.specs.Turned.{in_row, column_left, turned_cell, turned}
use Rattle.lists.proofs.Lists.{list_of-at, any-default}
use Rattle.lists.proofs.Rows.{in-column, in-row, pixel-in, mul-pos-left, row_below}
use Rattle.lists.proofs.Tests.{lt-or-le}
use Rattle.options.specs.Costs.{raw_of}
use Rattle.options.specs.declared.RawCost.TheVariants.{Blank}
use Rattle.paths.specs.Bounds.{UpTo, All}
use Rattle.paths.specs.Cost.{two, matching_cost, matching_costs, turned_cost, turned_costs}
use Rattle.paths.proofs.Costed.{costs-length, costs-at, plane-in}
use Rattle.paths.proofs.Blocks.{row-cell}
use Rattle.paths.proofs.Bounded.{all-at, all-list_of}
use Rattle.paths.proofs.Ranges.{cost-range}
use Rattle.paths.proofs.Turning.{in-row-same, turned-costs-length, turned-costs-at}

-- a function of a cell, or of what stands for one
in-row-map : {A B : Type 0} (f : A → B) (z : A) (w : ℕ) (c : ℤ) (cell : ℕ → A) → f (in_row z w c cell) ≡ in_row (f z) w c (λ x. f (cell x))
unfolding in_row
in-row-map f z w (negsuc c) cell = refl
in-row-map f z w (pos x) cell = ⊎_elim (λ (l : x < w). rw (lt-ltb x w l)) (λ (l : w ≤ x). rw (le-ltb x w l)) (lt-or-le x w)

-- the matching cost of a cell of a raw volume, and blank's
abbrev cost : Float → Float
cost x = matching_cost (raw_of x)

blank-cost : cost (inf true) ≡ two
unfolding eq
blank-cost = refl

module _ (w h count : ℕ) (first : ℤ) (vol : List Float) (size : length vol ≡ count * (w * h)) where
  one_cell : (p k : ℕ) → p < w * h → k < count → cost (get_or (turned (inf true) w h first count vol) (k * (w * h) + p) nan) ≡ turned_cost w first count (matching_costs (w * h) count vol) p k
  unfolding turned turned_cell turned_cost
  one_cell p k hp hk =
      let column = column_left w first k p in
      let inside : (x : ℕ) → x < w → p / w * w + x < w * h = λ x hx. pixel-in w h x (p / w) hx (row_below w h p hp) in
      ap cost
      (list_of-at (count * (w * h)) (λ c. turned_cell (inf true) w h first vol (c / (w * h)) (c % (w * h))) (k * (w * h) + p) nan (omega (arith, plane-in (w * h) count p k hp hk, mul_comm (w * h) count))
      ∙ rw (in-row (w * h) p k hp, in-column (w * h) p k hp))
      ∙ in-row-map cost (inf true) w column (λ x. get_or vol (k * (w * h) + (p / w * w + x)) (inf true))
      ∙ ap (λ (z : Float). in_row z w column (λ x. cost (get_or vol (k * (w * h) + (p / w * w + x)) (inf true)))) blank-cost
      ∙ in-row-same two w column _ _
      (λ x hx. ap cost (any-default vol (k * (w * h) + (p / w * w + x)) (inf true) nan (omega (arith, plane-in (w * h) count (p / w * w + x) k (inside x hx) hk, mul_comm (w * h) count)))
      ∙ sym (costs-at (w * h) count vol (p / w * w + x) k (inside x hx) hk))

  -- THEOREM: to turn a raw volume and take the matching costs, or to take them and turn, is the same
  pub matching-turned : matching_costs (w * h) count (turned (inf true) w h first count vol) ≡ turned_costs w h first count (matching_costs (w * h) count vol)
  matching-turned =
      let t = turned (inf true) w h first count vol in
      let m = matching_costs (w * h) count vol in
      ext_get_or nan (matching_costs (w * h) count t) (turned_costs w h first count m) (costs-length (w * h) count t ∙ sym (turned-costs-length w h first count m)) at
    where
      at : (i : ℕ) → i < length (matching_costs (w * h) count (turned (inf true) w h first count vol))
          → get_or (matching_costs (w * h) count (turned (inf true) w h first count vol)) i nan ≡ get_or (turned_costs w h first count (matching_costs (w * h) count vol)) i nan
      at i hi =
          let t = turned (inf true) w h first count vol in
          let m = matching_costs (w * h) count vol in
          let l : i < w * h * count = omega (arith, costs-length (w * h) count t) in
          let some : 0 < count = mul-pos-left i count (w * h) (omega (arith, mul_comm (w * h) count)) in
          let hp : i / count < w * h = row_below count (w * h) i (omega (arith, mul_comm (w * h) count)) in
          let hk : i % count < count = mod-lt i some in
          let whole : i / count * count + i % count ≡ i = div-add-mod' i count in
          ap (λ (j : ℕ). get_or (matching_costs (w * h) count t) j nan) (sym whole)
          ∙ costs-at (w * h) count t (i / count) (i % count) hp hk
          ∙ one_cell (i / count) (i % count) hp hk
          ∙ sym (turned-costs-at w h first count m (i / count) (i % count) hp hk)
          ∙ ap (λ (j : ℕ). get_or (turned_costs w h first count m) j nan) whole

-- ---- the range

in-row-all : {A : Type 0} (P : A → Type 0) (z : A) (w : ℕ) (c : ℤ) (cell : ℕ → A) → P z → ((x : ℕ) → x < w → P (cell x)) → P (in_row z w c cell)
unfolding in_row
in-row-all P z w (negsuc c) cell h g = h
in-row-all P z w (pos x) cell h g = ⊎_elim (λ (l : x < w). rw (lt-ltb x w l) (g x l)) (λ (l : w ≤ x). rw (le-ltb x w l) h) (lt-or-le x w)

-- THEOREM: turned costs lie from 0 to 2 where the costs do
pub turned-range : (w h count : ℕ) (first : ℤ) (costs : List Float) → length costs ≡ w * h * count → All (UpTo 2) costs → All (UpTo 2) (turned_costs w h first count costs)
unfolding turned_costs turned_cost
turned-range w h count first costs size all =
    all-list_of (UpTo 2) (w * h * count) (λ i. turned_cost w first count costs (i / count) (i % count))
    (λ i l. let some : 0 < count = mul-pos-left i count (w * h) (omega (arith, mul_comm (w * h) count)) in
    let hp : i / count < w * h = row_below count (w * h) i (omega (arith, mul_comm (w * h) count)) in
    in-row-all (UpTo 2) two w (column_left w first (i % count) (i / count)) _ (cost-range Blank tt)
    (λ x hx. all-at (UpTo 2) costs _ nan all
    (omega (arith, row-cell (w * h) count (i / count / w * w + x) (i % count) (pixel-in w h x (i / count / w) hx (row_below w h (i / count) hp)) (mod-lt i some)))))
