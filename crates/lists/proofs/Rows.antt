-- Cells that lie row by row: the column and the row of a cell, and that it is there; rows from the bottom up; one cell changed. Assumes nothing.
use Prim.Native.Nat.{ℕ, zero, suc, ◌+◌, ◌-◌, ◌*◌, ◌/◌, ◌%◌, ◌<◌, ◌≤◌}
use mathlib.Core.Path.{◌≡◌, refl, sym, ap, ap₂, ◌∙◌}
use mathlib.Core.List.{List, [], ◌∷◌, ◌++◌, map, append-nil, append_assoc, map-append}
use mathlib.Core.Logic.{⊎_elim}
use native.Mathlib.Nat.{not-suc-le-zero, mul-le-mul_right, mul_comm, mul-zero, mul-suc, suc-mul, zero-mul, add-zero, add_comm, mul-add-mod_self_right, mod-eq_of_lt, mul-add-div_right, div-eq_of_lt, div-lt_iff_lt-mul}
use native.Mathlib.Numerals.{sub-one}
use native.Mathlib.Omega.{arith}
use lib.ListN.{length, get_or, set, take, drop, length-append, length-drop, take-append-drop}
use lib.Seq.{get_or-take, get_or-drop, length-take-le, take_all, take_at, take-append-le, drop-append-le, drop-append-add, drop-drop, take-set-le, take-set-lt, drop-set-lt, drop-set-add}
use Rattle.lists.specs.Rows.{row_of, bottom_up}
use Rattle.lists.proofs.Tests.{lt-or-le}

-- cell y * w + x of rows of w cells is in column x of row y
pub in-column : (w x y : ℕ) → x < w → (y * w + x) % w ≡ x
in-column w x y h = mul-add-mod_self_right y w x ∙ mod-eq_of_lt h

pub in-row : (w x y : ℕ) → x < w → (y * w + x) / w ≡ y
in-row w x y h =
    let some : 0 < w = omega arith in
    rw (mul-add-div_right some y x, div-eq_of_lt h, add-zero)

-- it lies among the cells of h rows
pub cell_in : (y h x w n : ℕ) → y < h → x < w → h * w ≤ n → y * w + x < n
cell_in y h x w n hy hx hn = omega (arith, mul-le-mul_right w hy, suc-mul y w)

pub pixel-in : (w h x y : ℕ) → x < w → y < h → y * w + x < w * h
pixel-in w h x y lx ly = cell_in y h x w (w * h) ly lx (omega (arith, mul_comm w h))

-- a whole row lies among them
pub row_in : (y h w n : ℕ) → y < h → h * w ≤ n → y * w + w ≤ n
row_in y h w n hy hn = omega (arith, mul-le-mul_right w hy, suc-mul y w)

-- a product above a number is no 0
pub mul-pos-left : (p a b : ℕ) → p < a * b → 0 < a
mul-pos-left p zero b h = absurd (not-suc-le-zero (rw zero-mul at h))
mul-pos-left p (suc a) b h = omega arith

-- the row of a cell is one of the h rows
pub row_below : (w h p : ℕ) → p < w * h → p / w < h
row_below w h p l = (div-lt_iff_lt-mul (mul-pos-left p w h l)).1 (omega (arith, mul_comm w h))

-- cell x of row y is the list's cell y * w + x
pub row_at : {A : Type 0} (w : ℕ) (cells : List A) (y x : ℕ) (d : A) → x < w → get_or (row_of w cells y) x d ≡ get_or cells (y * w + x) d
row_at w cells y x d l = get_or-take w _ x d l ∙ get_or-drop (y * w) cells x d

-- row y of what follows the first row is row y + 1
pub row_next : {A : Type 0} (w : ℕ) (cells : List A) (y : ℕ) → row_of w (drop w cells) y ≡ row_of w cells (suc y)
row_next w cells y = rw (drop-drop, suc-mul, add_comm w (y * w))

-- ---- rows from the bottom up

-- a rule goes through a front
take-map : {A B : Type 0} (f : A → B) (n : ℕ) (l : List A) → map f (take n l) ≡ take n (map f l)
take-map f zero l = refl
take-map f (suc n) [] = refl
take-map f (suc n) (x ∷ l) = ap (λ r. f x ∷ r) (take-map f n l)

-- and through what follows it
drop-map : {A B : Type 0} (f : A → B) (n : ℕ) (l : List A) → map f (drop n l) ≡ drop n (map f l)
drop-map f zero l = refl
drop-map f (suc n) [] = refl
drop-map f (suc n) (x ∷ l) = drop-map f n l

module _ {A : Type 0} (w : ℕ) where
  -- a row that is there has w cells
  pub row-long : (cells : List A) (y : ℕ) → y * w + w ≤ length cells → length (row_of w cells y) ≡ w
  row-long cells y l = length-take-le w (drop (y * w) cells) (rw length-drop (omega arith))

  -- the rows have all the cells
  pub bottom_up-length : (h : ℕ) (cells : List A) → h * w ≤ length cells → length (bottom_up w h cells) ≡ w * h
  unfolding bottom_up
  bottom_up-length zero cells l = sym (mul-zero w)
  bottom_up-length (suc h) cells l =
      let front : h * w + w ≤ length cells = omega (arith, suc-mul h w) in
      length-append (row_of w cells h) (bottom_up w h cells)
      ∙ omega (arith, row-long cells h front, bottom_up-length h cells (omega arith), mul-suc w h)

  -- only the first h rows count
  bottom_up-front : (h : ℕ) (a b : List A) → h * w ≤ length a → bottom_up w h (a ++ b) ≡ bottom_up w h a
  unfolding bottom_up
  bottom_up-front zero a b l = refl
  bottom_up-front (suc h) a b l =
      let front : h * w + w ≤ length a = omega (arith, suc-mul h w) in
      let first : h * w ≤ length a = omega arith in
      let row : w ≤ length (drop (h * w) a) = rw length-drop (omega arith) in
      rw (drop-append-le, take-append-le) (ap (λ r. row_of w a h ++ r) (bottom_up-front h a b first))

  -- the first row comes last
  bottom_up-first : (h : ℕ) (row cells : List A) → length row ≡ w → bottom_up w (suc h) (row ++ cells) ≡ bottom_up w h cells ++ row
  unfolding bottom_up
  bottom_up-first zero row cells e = rw (zero-mul, take_at row cells w e, append-nil)
  bottom_up-first (suc h) row cells e =
      let far : suc h * w ≡ length row + h * w = omega (arith, suc-mul h w) in
      rw (far, drop-append-add) (ap (λ r. row_of w cells h ++ r) (bottom_up-first h row cells e))
      ∙ sym (append_assoc (row_of w cells h) (bottom_up w h cells) row)

  -- THEOREM: rows turned twice are as they were
  pub bottom_up-back : (h : ℕ) (cells : List A) → length cells ≡ w * h → bottom_up w h (bottom_up w h cells) ≡ cells
  unfolding bottom_up
  bottom_up-back zero [] e = refl
  bottom_up-back zero (c ∷ cells) e = absurd (omega (arith, mul-zero w))
  bottom_up-back (suc h) cells e =
      let long : length cells ≡ h * w + w = omega (arith, mul_comm w (suc h), suc-mul h w) in
      let above = take (h * w) cells in
      let row = drop (h * w) cells in
      let above-long : length above ≡ h * w = length-take-le (h * w) cells (omega arith) in
      let row-all : take w row ≡ row = take_all w row (rw length-drop (omega arith)) in
      let parts : above ++ row ≡ cells = take-append-drop (h * w) cells in
      let turned : bottom_up w h cells ≡ bottom_up w h above =
      ap (λ l. bottom_up w h l) (sym parts) ∙ bottom_up-front h above row (omega arith) in
      ap (λ l. bottom_up w (suc h) l) (ap₂ (λ r s. r ++ s) row-all turned)
      ∙ bottom_up-first h row (bottom_up w h above) (rw length-drop (omega arith))
      ∙ ap (λ l. l ++ row) (bottom_up-back h above (omega (arith, mul_comm w h)))
      ∙ parts

  -- a rule for cells goes through the rows
  pub bottom_up-map : {B : Type 0} (f : A → B) (h : ℕ) (cells : List A) → map f (bottom_up w h cells) ≡ bottom_up w h (map f cells)
  unfolding bottom_up
  bottom_up-map f zero cells = refl
  bottom_up-map f (suc h) cells =
      map-append f (row_of w cells h) (bottom_up w h cells)
      ∙ ap₂ (λ r s. r ++ s) (take-map f w (drop (h * w) cells) ∙ ap (take w) (drop-map f (h * w) cells)) (bottom_up-map f h cells)

-- row y - 1 lies within h rows, and so do the rows passed with it
pub record UpwardRoom {A : Type 0} (w h y : ℕ) (done : List A) : Type 0 where
  pub next : (y - 1) * w + w ≤ w * h
  pub passed : length done + w ≤ w * h

-- what a loop over the rows from the bottom up has passed: the rows from row y on
pub record Upward {A : Type 0} (w h : ℕ) (cells : List A) (y : ℕ) (done : List A) : Type 0 where
  pub within : y ≤ h
  pub all : done ++ bottom_up w y cells ≡ bottom_up w h cells

module _ {A : Type 0} (w h : ℕ) (cells : List A) where
  -- before the bottom row
  pub upward-none : Upward w h cells h []
  upward-none = record { within = omega arith; all = refl }

  -- one row more
  pub upward-more : (y : ℕ) (done : List A) → Upward w h cells y done → 0 < y → Upward w h cells (y - 1) (done ++ row_of w cells (y - 1))
  unfolding bottom_up
  upward-more zero done u some = absurd (omega arith)
  upward-more (suc y) done u some =
      let row = row_of w cells y in
      rw sub-one (record { within = omega (arith, u.within); all = append_assoc done row (bottom_up w y cells) ∙ u.all })

  -- after the top row
  pub upward-all : (y : ℕ) (done : List A) → Upward w h cells y done → y ≤ 0 → done ≡ bottom_up w h cells
  unfolding bottom_up
  upward-all zero done u none = sym (append-nil done) ∙ u.all
  upward-all (suc y) done u none = absurd (omega arith)

  -- the next row is there
  pub upward-room : (y : ℕ) (done : List A) → Upward w h cells y done → 0 < y → length cells ≡ w * h → UpwardRoom w h y done
  upward-room zero done u some long = absurd (omega arith)
  upward-room (suc y) done u some long =
      let enough : h * w ≤ length cells = omega (arith, mul_comm w h) in
      let below : y * w + w ≤ length cells = row_in y h w (length cells) u.within enough in
      let rows : length done + w * suc y ≡ w * h =
      omega (
        arith,
        length-append done (bottom_up w (suc y) cells),
        ap length u.all,
        bottom_up-length w h cells enough,
        bottom_up-length w (suc y) cells (omega (arith, suc-mul y w)),
      ) in
      record { next = rw sub-one (omega arith); passed = omega (arith, mul-suc w y) }

-- ---- one cell changed

-- the cell is changed in its own row
pub row-set : {A : Type 0} (w : ℕ) (cells : List A) (y x : ℕ) (v : A) → x < w → row_of w (set cells (y * w + x) v) y ≡ set (row_of w cells y) x v
row-set w cells y x v l = rw (drop-set-add, take-set-lt)

-- and every other row is as it was
pub row-set-other : {A : Type 0} (w : ℕ) (cells : List A) (y x : ℕ) (v : A) (i : ℕ) → x < w → (i ≡ y → ⊥) → row_of w (set cells (y * w + x) v) i ≡ row_of w cells i
row-set-other w cells y x v i l other = ⊎_elim above below (lt-or-le i y)
  where
    above : i < y → row_of w (set cells (y * w + x) v) i ≡ row_of w cells i
    above h =
        let past : w ≤ y * w + x - i * w = omega (arith, row_in i y w (y * w) h (omega arith)) in
        let split : y * w + x ≡ i * w + (y * w + x - i * w) = omega arith in
        rw (split, drop-set-add, take-set-le)

    below : y ≤ i → row_of w (set cells (y * w + x) v) i ≡ row_of w cells i
    below h =
        let before : y * w + x < i * w = omega (arith, cell_in y i x w (i * w) (omega arith) l (omega arith)) in
        rw drop-set-lt
