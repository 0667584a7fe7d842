-- Rows of a map, by their cells. Assumes nothing.
use Prim.Native.Nat.{ℕ, ◌+◌, ◌*◌, ◌≤◌, ◌<◌}
use mathlib.Core.Path.{◌≡◌, sym, ap, ◌∙◌}
use mathlib.Core.List.{List}
use native.Mathlib.Nat.{mul_comm}
use native.Mathlib.Omega.{arith}
use lib.ListN.{length, get_or, replicate, length-take, length-drop, length-replicate, get_or-replicate}
use lib.Seq.{ext_get_or}
use Rattle.lists.specs.Rows.{row_of}
use Rattle.lists.proofs.Rows.{row_at, row_in}

-- rows of two lists of one length are equal where their cells are
pub row_same : {A : Type 0} (w : ℕ) (m m' : List A) (y : ℕ) (d : A) → length m ≡ length m' → ((x : ℕ) → x < w → y * w + x < length m → get_or m (y * w + x) d ≡ get_or m' (y * w + x) d)
    → row_of w m y ≡ row_of w m' y
row_same w m m' y d e same =
    ext_get_or d (row_of w m y) (row_of w m' y) (simp (length-take, length-drop, e))
    (λ i l.
    let k = simp (length-take, length-drop) at l in
    row_at w m y i d (omega arith) ∙ same i (omega arith) (omega arith) ∙ sym (row_at w m' y i d (omega arith)))

-- equal rows have equal cells
pub cell-of-row : {A : Type 0} (w : ℕ) (m m' : List A) (y x : ℕ) (d : A) → row_of w m y ≡ row_of w m' y → x < w → get_or m (y * w + x) d ≡ get_or m' (y * w + x) d
cell-of-row w m m' y x d e l = sym (row_at w m y x d l) ∙ ap (λ row. get_or row x d) e ∙ row_at w m' y x d l

-- a row is w times d where each of its cells is d
pub row-of : {A : Type 0} (w h : ℕ) (m : List A) (y : ℕ) (d : A) → length m ≡ w * h → y < h → ((x : ℕ) → x < w → get_or m (y * w + x) d ≡ d) → row_of w m y ≡ replicate w d
row-of w h m y d e l each =
    let fits : y * w + w ≤ length m = row_in y h w (length m) l (omega (arith, mul_comm w h)) in
    let long : length (row_of w m y) ≡ w = simp (length-take, length-drop) (omega arith) in
    ext_get_or d (row_of w m y) (replicate w d) (long ∙ sym (length-replicate w d))
    (λ i li.
    let inside : i < w = omega arith in
    row_at w m y i d inside ∙ each i inside ∙ sym (get_or-replicate w i d d inside))
