-- The cells of a path step, as the functions compute them. Assumes nothing.
use Prim.Native.Nat.{ℕ, zero, suc, ◌+◌, ◌-◌, ◌<◌, ◌≤◌}
use mathlib.Core.Path.{◌≡◌, ap, ◌∙◌}
use mathlib.Core.Bool.{false}
use mathlib.Core.List.{List}
use native.Mathlib.Nat.{not-suc-le-zero}
use native.Mathlib.Numerals.{add-one}
use native.Mathlib.Omega.{arith}
use borrow.Author.Tests.{lt-ltb, le-ltb}
use lib.ListN.{length, get_or, drop, drop_of_length-le}
use lib.Seq.{drop-cons}
use lib.Ieee.{Float, nan, inf, binary32, add}
use Rattle.numbers.specs.Plain.{smaller_of}
use Rattle.lists.proofs.Lists.{list_of-length, list_of-at}
use Rattle.paths.specs.Path.{least_from, least_of, from_below, from_above, best_of, path_cell, step_cell, step_vec, add_vec}

-- one turn of the search for the least, and its end
pub least-turn : (cells : List Float) (k : ℕ) (m r : Float) → k < length cells → r ≡ smaller_of m (get_or cells k nan) → least_from r (drop (k + 1) cells) ≡ least_from m (drop k cells)
least-turn cells k m r h e = ap (λ (x : Float). least_from x (drop (k + 1) cells)) e ∙ rw (add-one, drop-cons cells k nan)

pub least-done : (r : List Float) (k : ℕ) (m : Float) → length r ≤ k → least_from m (drop k r) ≡ m
least-done r k m h = rw (drop_of_length-le r h)

-- the cells of a step, and of a sum
pub length-step : (p1 p2 : Float) (prev cost : List Float) → length (step_vec p1 p2 prev cost) ≡ length cost
unfolding step_vec
length-step p1 p2 prev cost = list_of-length (length cost) (step_cell p1 p2 prev cost)

pub get_d-step : (p1 p2 : Float) (prev cost : List Float) (k : ℕ) → k < length cost → get_or (step_vec p1 p2 prev cost) k nan ≡ step_cell p1 p2 prev cost k
unfolding step_vec
get_d-step p1 p2 prev cost k h = list_of-at (length cost) (step_cell p1 p2 prev cost) k nan h

pub length-sum : (a b : List Float) → length (add_vec a b) ≡ length a
unfolding add_vec
length-sum a b = list_of-length (length a) (λ k. add binary32 (get_or a k nan) (get_or b k nan))

pub get_d-sum : (a b : List Float) (k : ℕ) → k < length a → get_or (add_vec a b) k nan ≡ add binary32 (get_or a k nan) (get_or b k nan)
unfolding add_vec
get_d-sum a b k h = list_of-at (length a) (λ k. add binary32 (get_or a k nan) (get_or b k nan)) k nan h

-- the neighbours of index k
pub below_none : (p1 : Float) (prev : List Float) (k : ℕ) → k ≡ 0 → inf false ≡ from_below p1 prev k
unfolding from_below
below_none p1 prev k e = rw e

pub below-some : (p1 : Float) (prev : List Float) (k : ℕ) → 0 < k → add binary32 (get_or prev (k - 1) nan) p1 ≡ from_below p1 prev k
unfolding from_below
below-some p1 prev zero h = absurd (not-suc-le-zero h)
below-some p1 prev (suc k) h = let e : suc k - 1 ≡ k = omega arith in rw e

pub above-some : (p1 : Float) (prev : List Float) (k : ℕ) → k + 1 < length prev → add binary32 (get_or prev (k + 1) nan) p1 ≡ from_above p1 prev k
unfolding from_above
above-some p1 prev k h = rw (lt-ltb (k + 1) (length prev) h)

pub above-none : (p1 : Float) (prev : List Float) (k : ℕ) → length prev ≤ k + 1 → inf false ≡ from_above p1 prev k
unfolding from_above
above-none p1 prev k h = rw (le-ltb (k + 1) (length prev) h)

-- a cell that is made of the values of both pixels
pub cell-is : (p1 p2 m below above : Float) (prev cost : List Float) (k : ℕ) → m ≡ least_of prev → below ≡ from_below p1 prev k → above ≡ from_above p1 prev k
    → path_cell (get_or cost k nan) (best_of (get_or prev k nan) below above (add binary32 m p2)) m ≡ step_cell p1 p2 prev cost k
unfolding step_cell
cell-is p1 p2 m below above prev cost k em eb ea = rw (em, eb, ea)
