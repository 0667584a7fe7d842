-- A part of a table's row, filled from the part of the row above it. Assumes nothing.
use Prim.Native.Nat.{ℕ, suc, ◌+◌, ◌-◌, ◌≤◌, ◌<◌}
use mathlib.Core.Path.{◌≡◌, refl, sym, ap, ap₂, ◌∙◌}
use mathlib.Core.List.{List, [], ◌∷◌, ◌++◌, append_assoc}
use native.Mathlib.Numerals.{add-one}
use native.Mathlib.Omega.{arith}
use lib.ListN.{length, get_or, take, drop, set, length-append, length-drop}
use lib.Seq.{length-take-le, get_or-take, get_or-drop, drop-cons, set_at}
use Rattle.lists.proofs.Lists.{list_of-length, list_of-snoc, list_of-same, list_of-split, filled_next, filled-end}
use Rattle.lists.specs.Lists.{list_of}
use Rattle.lists.specs.Sums.{sum_to}
use Rattle.windows.specs.Table.{next_row}
use Rattle.windows.specs.Parts.{sums_below}

-- a store of the next value: after `p` and the first n values of g, with the rest of `d`, at the place k that follows them
pub store-next : (p d : List ℕ) (g : ℕ → ℕ) (n k v : ℕ) → length p + n ≡ k → k < length d → v ≡ g n
    → set (p ++ list_of n g ++ drop k d) k v ≡ p ++ list_of (n + 1) g ++ drop (k + 1) d
store-next p d g n k v at h e =
    rw (add-one n, add-one k, list_of-snoc, drop-cons d k 0 h, set_at (p ++ list_of n g) (get_or d k 0) (drop (suc k) d) v k (rw (length-append, list_of-length) at), e)
    (sym (ap (λ l. l ++ drop (suc k) d) (sym (append_assoc p (list_of n g) (g n ∷ []))) ∙ append_assoc (p ++ list_of n g) (g n ∷ []) (drop (suc k) d)))

pub below-length : (f : ℕ → ℕ) (above : List ℕ) → length (sums_below f above) ≡ length above
unfolding sums_below
below-length f above = list_of-length (length above) (λ i. get_or above i 0 + f i)

pub below-same : (f g : ℕ → ℕ) (above : List ℕ) → ((i : ℕ) → i < length above → f i ≡ g i) → sums_below f above ≡ sums_below g above
unfolding sums_below
below-same f g above same = list_of-same (length above) _ _ (λ i l. ap (λ v. get_or above i 0 + v) (same i l))

-- two parts, one after the other
pub below_join : (k : ℕ) (f : ℕ → ℕ) (above : List ℕ) → k ≤ length above
    → sums_below f above ≡ sums_below f (take k above) ++ sums_below (λ i. f (k + i)) (drop k above)
unfolding sums_below
below_join k f above l =
    let cell : ℕ → ℕ = λ i. get_or above i 0 + f i in
    let n = length above - k in
    let long : length above ≡ k + n = omega arith in
    let first : list_of k cell ≡ sums_below f (take k above) =
    rw (length-take-le k above l) (list_of-same k _ _ (λ i h. ap (λ v. v + f i) (sym (get_or-take k above i 0 h)))) in
    let second : list_of n (λ i. cell (k + i)) ≡ sums_below (λ i. f (k + i)) (drop k above) =
    rw length-drop (list_of-same n _ _ (λ i h. ap (λ v. v + f (k + i)) (sym (get_or-drop k above i 0)))) in
    ap (λ m. list_of m cell) long ∙ list_of-split k n cell ∙ ap₂ (λ p q. p ++ q) first second

-- a whole row
pub row-is : (w : ℕ) (f : ℕ → ℕ) (above : List ℕ) → length above ≡ w + 1 → next_row w f above ≡ sums_below (λ x. sum_to x f) above
unfolding next_row sums_below
row-is w f above e = ap (λ n. list_of n (λ x. get_or above x 0 + sum_to x f)) (sym e)

-- all of a row but its last cell, and then that cell
pub row_last : (w : ℕ) (f : ℕ → ℕ) (above below part : List ℕ) (run : ℕ) → length above ≡ w + 1 → length below ≡ length above
    → part ≡ sums_below (λ x. sum_to x f) (take w above) → run ≡ sum_to w f → set (part ++ drop w below) w (get_or above w 0 + run) ≡ next_row w f above
unfolding next_row sums_below
row_last w f above below part run e same made sum =
    let cell : ℕ → ℕ = λ x. get_or above x 0 + sum_to x f in
    let cells : part ≡ list_of w cell =
    made ∙ rw (length-take-le w above (omega arith)) (list_of-same w _ _ (λ i h. ap (λ v. v + sum_to i f) (get_or-take w above i 0 h))) in
    rw cells (filled_next w cell below _ (omega arith) (ap (λ v. get_or above w 0 + v) sum) ∙ filled-end (w + 1) (w + 1) cell below refl (same ∙ e))
