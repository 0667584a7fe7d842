-- Costs that are turned to the other picture, as three loops make them. Assumes nothing.
use Prim.Native.Nat.{ℕ, zero, suc, ◌+◌, ◌-◌, ◌*◌, ◌/◌, ◌%◌, ◌<◌, ◌≤◌, zero-le}
use mathlib.Core.Path.{◌≡◌, refl, sym, ap, ◌∙◌}
use mathlib.Core.List.{List}
use mathlib.Core.Logic.{⊎_elim}
use native.Mathlib.Nat.{mul_assoc, mul_comm, mul-le-mul_right, mod-lt, div-add-mod', add-mul, suc-mul}
use native.Mathlib.Numerals.{add-one}
use native.Mathlib.Omega.{arith}
use borrow.Author.Tests.{lt-ltb, le-ltb}
use lib.IntN.{ℤ, pos, negsuc, nat_abs, neg_ℤ, ◌+ℤ◌, ◌-ℤ◌, sub_ℕ}
use lib.ListN.{length, get_or}
use lib.Ieee.{Float, nan}
use Rattle.lists.specs.Lists.{list_of}
use Rattle.lists.specs.Turned.{in_row}
use Rattle.lists.proofs.Lists.{list_of-length, list_of-at}
use Rattle.lists.proofs.Rows.{in-column, in-row, pixel-in, mul-pos-left, row_below}
use Rattle.lists.proofs.Tests.{lt-or-le}
use Rattle.options.specs.Limits.{first_most}
use Rattle.paths.specs.Cost.{two, turned_cost, turned_costs, turned_at, turned_row}
use Rattle.paths.specs.Room.{run, put}
use Rattle.paths.proofs.Parts.{get_d-run}
use Rattle.paths.proofs.Walks.{cells-end}
use Rattle.paths.proofs.Blocks.{row-cell, Begun, begun_all, begun_part}

-- ---- the column, counted from first_most + k to the left

minus_pos : (a b : ℕ) → pos a +ℤ neg_ℤ (pos b) ≡ sub_ℕ a b
minus_pos a zero = let e : a + 0 ≡ a - 0 = omega arith in rw (le-ltb a 0 zero-le, e)
minus_pos a (suc b) = refl

sub_same : (a b c d : ℕ) → a + d ≡ c + b → sub_ℕ a b ≡ sub_ℕ c d
sub_same a b c d e =
    ⊎_elim
    (λ (l : a < b). let l' : c < d = omega arith in let s : b - suc a ≡ d - suc c = omega arith in rw (lt-ltb a b l, lt-ltb c d l', s))
    (λ (l : b ≤ a). let l' : d ≤ c = omega arith in let s : a - b ≡ c - d = omega arith in rw (le-ltb a b l, le-ltb c d l', s))
    (lt-or-le a b)

column-is : (first : ℤ) → nat_abs first ≤ first_most → (n : ℕ) → pos n ≡ pos first_most -ℤ first → (x k : ℕ) → pos x +ℤ neg_ℤ (first +ℤ pos k) ≡ sub_ℕ (x + n) (first_most + k)
column-is (pos f) h n e x k =
    let back : pos n ≡ pos (first_most - f) = e ∙ minus_pos first_most f ∙ rw (le-ltb first_most f h) in
    let m : n ≡ first_most - f = cc in
    minus_pos x (f + k) ∙ sub_same x (f + k) (x + n) (first_most + k) (omega arith)
column-is (negsuc f) h n e x k =
    let m : n ≡ first_most + suc f = cc in
    ⊎_elim
    (λ (l : k < suc f). let s : x + suc (suc f - suc k) ≡ x + n - (first_most + k) = omega arith in
    let r : first_most + k ≤ x + n = omega arith in
    rw (lt-ltb k (suc f) l, le-ltb (x + n) (first_most + k) r, s))
    (λ (l : suc f ≤ k). rw (le-ltb k (suc f) l) (minus_pos x (k - suc f) ∙ sub_same x (k - suc f) (x + n) (first_most + k) (omega arith)))
    (lt-or-le k (suc f))

-- the next part of m cells
next-part : (i m : ℕ) → i * m + m ≡ (i + 1) * m
next-part i m = omega (arith, suc-mul i m, ap (λ (z : ℕ). z * m) (add-one i))

-- ---- one cell

module _ {A : Type 0} (z : A) (w : ℕ) where
  pub in-row-same : (c : ℤ) (f g : ℕ → A) → ((x : ℕ) → x < w → f x ≡ g x) → in_row z w c f ≡ in_row z w c g
  unfolding in_row
  in-row-same (negsuc c) f g e = refl
  in-row-same (pos x) f g e = ⊎_elim (λ (l : x < w). rw (lt-ltb x w l) (e x l)) (λ (l : w ≤ x). rw (le-ltb x w l)) (lt-or-le x w)

module _ (w count far : ℕ) (row : List Float) (k : ℕ) where
  pub turned_left : far < first_most + k → two ≡ turned_at w count far row k
  unfolding turned_at in_row
  turned_left h = rw (lt-ltb far (first_most + k) h)

  pub turned_right : first_most + k ≤ far → w ≤ far - (first_most + k) → two ≡ turned_at w count far row k
  unfolding turned_at in_row
  turned_right h l = rw (le-ltb far (first_most + k) h, le-ltb (far - (first_most + k)) w l)

  pub turned-inside : (x : ℕ) → first_most + k ≤ far → x ≡ far - (first_most + k) → x < w → get_or row (x * count + k) nan ≡ turned_at w count far row k
  unfolding turned_at in_row
  turned-inside x h e l = rw (le-ltb far (first_most + k) h, ← e, lt-ltb x w l)

-- ---- a row

module _ (w count shift : ℕ) (row : List Float) where
  pub line-length : length (turned_row w count shift row) ≡ w * count
  unfolding turned_row
  line-length = list_of-length (w * count) (λ i. turned_at w count (i / count + shift) row (i % count))

  line_at : (x k : ℕ) → x < w → k < count → get_or (turned_row w count shift row) (x * count + k) nan ≡ turned_at w count (x + shift) row k
  unfolding turned_row
  line_at x k hx hk =
      list_of-at (w * count) (λ i. turned_at w count (i / count + shift) row (i % count)) (x * count + k) nan (row-cell w count x k hx hk)
      ∙ rw (in-column count k x hk, in-row count k x hk)

  pub row-turn : (v : List Float) (x : ℕ) → x < w → Begun (turned_row w count shift row) v (x * count)
      → Begun (turned_row w count shift row) (put v (x * count) (list_of count (turned_at w count (x + shift) row))) ((x + 1) * count)
  row-turn v x hx b =
      let g = turned_at w count (x + shift) row in
      rw (next-part x count) at
      (begun_part b count (omega (arith, line-length, cells-end w count x hx)) (list_of count g) (list_of-length count g) (λ k hk. list_of-at count g k nan hk ∙ sym (line_at x k hx hk)))

-- ---- all rows

-- rows of w * count cells
all-cells : (w h count : ℕ) → h * (w * count) ≡ w * h * count
all-cells w h count = sym (mul_assoc h w count) ∙ ap (λ (z : ℕ). z * count) (mul_comm h w)

cell-index : (w count y x k : ℕ) → (y * w + x) * count + k ≡ y * (w * count) + (x * count + k)
cell-index w count y x k = omega (arith, add-mul (y * w) x count, mul_assoc y w count)

pub turned-costs-length : (w h : ℕ) (first : ℤ) (count : ℕ) (costs : List Float) → length (turned_costs w h first count costs) ≡ w * h * count
unfolding turned_costs
turned-costs-length w h first count costs = list_of-length (w * h * count) (λ i. turned_cost w first count costs (i / count) (i % count))

pub turned-costs-at : (w h : ℕ) (first : ℤ) (count : ℕ) (costs : List Float) (p k : ℕ) → p < w * h → k < count
    → get_or (turned_costs w h first count costs) (p * count + k) nan ≡ turned_cost w first count costs p k
unfolding turned_costs
turned-costs-at w h first count costs p k hp hk =
    list_of-at (w * h * count) (λ i. turned_cost w first count costs (i / count) (i % count)) (p * count + k) nan (row-cell (w * h) count p k hp hk)
    ∙ rw (in-column count k p hk, in-row count k p hk)

module _ (w h count : ℕ) (first : ℤ) (shift : ℕ) (near : nat_abs first ≤ first_most) (is : pos shift ≡ pos first_most -ℤ first) (costs : List Float) where
  abbrev all : List Float
  all = turned_costs w h first count costs

  long : length all ≡ h * (w * count)
  long = turned-costs-length w h first count costs ∙ sym (all-cells w h count)

  -- the cell that a row's turn makes, and the cell that is asked for
  one_cell : (y x k : ℕ) → y < h → x < w → k < count → turned_at w count (x + shift) (run (w * count) (y * (w * count)) costs) k ≡ get_or all (y * (w * count) + (x * count + k)) nan
  unfolding turned_at turned_cost
  one_cell y x k hy hx hk =
      let hp = pixel-in w h x y hx hy in
      sym
      (ap (λ (i : ℕ). get_or all i nan) (sym (cell-index w count y x k))
      ∙ turned-costs-at w h first count costs (y * w + x) k hp hk
      ∙ rw (in-column w x y hx, in-row w x y hx, column-is first near shift is x k)
      (in-row-same two w (sub_ℕ (x + shift) (first_most + k)) _ _
      (λ z hz. ap (λ (i : ℕ). get_or costs i nan) (cell-index w count y z k) ∙ sym (get_d-run (w * count) (y * (w * count)) costs (z * count + k) nan (row-cell w count z k hz hk)))))

  cell : (y : ℕ) → y < h → (j : ℕ) → j < w * count → get_or (turned_row w count shift (run (w * count) (y * (w * count)) costs)) j nan ≡ get_or all (y * (w * count) + j) nan
  cell y hy j hj =
      let row = run (w * count) (y * (w * count)) costs in
      let some : 0 < count = mul-pos-left j count w (omega (arith, mul_comm w count)) in
      let hx : j / count < w = row_below count w j (omega (arith, mul_comm w count)) in
      let hk : j % count < count = mod-lt j some in
      let whole : j / count * count + j % count ≡ j = div-add-mod' j count in
      ap (λ (i : ℕ). get_or (turned_row w count shift row) i nan) (sym whole)
      ∙ line_at w count shift row (j / count) (j % count) hx hk
      ∙ one_cell y (j / count) (j % count) hy hx hk
      ∙ ap (λ (i : ℕ). get_or all (y * (w * count) + i) nan) whole

  pub turns-turn : (v : List Float) (y : ℕ) → y < h → Begun (turned_costs w h first count costs) v (y * (w * count))
      → Begun (turned_costs w h first count costs) (put v (y * (w * count)) (turned_row w count shift (run (w * count) (y * (w * count)) costs))) ((y + 1) * (w * count))
  turns-turn v y hy b =
      let row = run (w * count) (y * (w * count)) costs in
      rw (next-part y (w * count)) at
      (begun_part b (w * count) (omega (arith, long, cells-end h (w * count) y hy)) (turned_row w count shift row) (line-length w count shift row) (cell y hy))

  pub turns-done : {v : List Float} {y : ℕ} → h ≤ y → Begun (turned_costs w h first count costs) v (y * (w * count)) → v ≡ turned_costs w h first count costs
  turns-done {v} {y} hy b = begun_all b (omega (arith, long, mul-le-mul_right (w * count) hy))
