-- Where the cells of an index of a row lie in the volume, and that they are the row's numbers. Assumes nothing.
use Rattle.std.proofs.Common.{◌≡◌, ℕ, zero, suc, ◌+◌, ◌-◌, ◌*◌, ◌<◌, ◌≤◌, min, Bool, true, false, cond, ltb, leb, List, length, get_or, take, drop, ℤ, pos, negsuc, ◌+ℤ◌, neg_ℤ, refl, ap, ◌∙◌, ⊎_elim, mul_comm, mul-le-mul, arith, length-take, get_or-drop, get_or-take, le-ltb, lt-ltb, le-leb}
use native.Mathlib.Nat.{min-le_right, min-eq_left, le-min}
use borrow.Author.Tests.{lt-leb}
use lib.Ieee.{Float, nan, inf, eq}
use borrow.Rule.Slice.PartMut.{mid_len}
use lib.ListN.{get_or-eq_default}
use Rattle.lists.specs.Turned.{in_row, turned_cell}
use Rattle.lists.proofs.Tests.{lt-or-le}
use Rattle.lists.proofs.Rows.{in-column, in-row, row_in}
use Rattle.options.specs.Limits.{side_most, most_count}
use Rattle.options.specs.Costs.{raw_of, InRange}
use Rattle.choices.specs.declared.block.Row.{Row}
use Rattle.choices.specs.declared.block.Shift.{Shift}
use Rattle.choices.specs.declared.block.Seen.{Seen}
use Rattle.choices.specs.declared.block.Seen.TheVariants.{Own, Turned}
use Rattle.choices.specs.declared.block.Span.{Span}
use Rattle.choices.specs.declared.subpixel.Search.{Search}
use Rattle.choices.specs.Seen.{RowSizes, RowIn, CellsInRange, seen_cell, cell_in, moved_by, seen_shift, row_start, seen_span, part_at}
use Rattle.choices.proofs.Stepping.{default_free}

-- a shift leaves the row's numbers within the row
pub record Within (w : ℕ) (s : Shift) : Type 0 where
  pub both : s.lo + s.from ≤ w

moved-within : (w : ℕ) (d : ℤ) → Within w (moved_by w d)
moved-within w (pos a) = record { both = omega (arith, min-le_right a w) }
moved-within w (negsuc a) = record { both = omega (arith, min-le_right (suc a) w) }

pub shift-within : (seen : Seen) (w : ℕ) (first : ℤ) (k : ℕ) → Within w (seen_shift seen w first k)
shift-within Own w first k = record { both = omega arith }
shift-within Turned w first k = moved-within w (first +ℤ pos k)

-- the products on the way to a cell are small, and the row ends within the volume
pub record Places (row : Row) (search : Search) (k : ℕ) : Type 0 where
  pub area-most : row.w * row.h ≤ side_most * side_most
  pub plane-most : k * (row.w * row.h) ≤ most_count * (side_most * side_most)
  pub row-most : row.y * row.w ≤ side_most * side_most
  pub ends : row_start row k + row.w ≤ search.count * (row.w * row.h)

pub places : (row : Row) (search : Search) (k : ℕ) → RowSizes row search → k < search.count → Places row search k
places row search k z l =
    let index : k ≤ most_count = omega (arith, z.few) in
    let level : row.y ≤ side_most = omega (arith, z.inside, z.high) in
    let area = mul-le-mul z.wide z.high in
    record {
      area-most = area;
      plane-most = mul-le-mul index area;
      row-most = mul-le-mul level z.wide;
      ends = omega (arith, row_in row.y row.h row.w (row.w * row.h) z.inside (omega (arith, mul_comm row.w row.h)), row_in k search.count (row.w * row.h) (search.count * (row.w * row.h)) l (omega arith));
    }

-- ---- what a span reads

-- the number in the column of a part
part_in : (lo n s x : ℕ) (raw : List Float) → lo ≤ x → x - lo < n → part_at lo (take n (drop s raw)) x ≡ get_or raw (s + (x - lo)) (inf true)
unfolding part_at
part_in lo n s x raw l m = rw (le-leb lo x l) (get_or-take n (drop s raw) (x - lo) (inf true) m ∙ get_or-drop s raw (x - lo) (inf true))

-- left of the part, in it, and right of it
pub part-left : (lo x : ℕ) (part : List Float) → x < lo → part_at lo part x ≡ inf true
unfolding part_at
part-left lo x part l = rw (lt-leb lo x l)

pub part-at : (lo x : ℕ) (part : List Float) → lo ≤ x → x - lo < length part → part_at lo part x ≡ get_or part (x - lo) nan
unfolding part_at
part-at lo x part l m = rw (le-leb lo x l) (default_free part (x - lo) (inf true) nan m)

pub part-past : (lo x : ℕ) (part : List Float) → lo ≤ x → length part ≤ x - lo → part_at lo part x ≡ inf true
unfolding part_at
part-past lo x part l m = rw (le-leb lo x l) (get_or-eq_default part (inf true) m)

-- the column a further left
column-outside : (x a : ℕ) → x < a → pos x +ℤ neg_ℤ (pos a) ≡ negsuc (a - suc x)
column-outside x zero l = absurd (omega arith)
column-outside x (suc b) l = rw (lt-ltb x (suc b) l)

column-inside : (x a : ℕ) → a ≤ x → pos x +ℤ neg_ℤ (pos a) ≡ pos (x - a)
column-inside x zero l = ap pos (omega arith)
column-inside x (suc b) l = rw (le-ltb x (suc b) l)

-- a row of w cells from `base` on, moved by d columns
module _ (raw : List Float) (w base x : ℕ) (lx : x < w) where
  moved-reads : (d : ℤ) → part_at (moved_by w d).lo (take (base + (w - (moved_by w d).lo) - (base + (moved_by w d).from)) (drop (base + (moved_by w d).from) raw)) x
      ≡ in_row (inf true) w (pos x +ℤ neg_ℤ d) (λ c. get_or raw (base + c) (inf true))
  unfolding in_row
  moved-reads (pos a) =
      ⊎_elim
      (λ (l : x < a). rw (column-outside x a l) (part-left (min a w) x _ (lt-min l)))
      (λ (l : a ≤ x).
      let lo : min a w ≡ a = min-eq_left (omega arith) in
      let inside : x - a < base + (w - a) - (base + 0) = omega arith in
      let near : x - a < w = omega arith in
      rw (column-inside x a l, lt-ltb (x - a) w near, lo)
      (part_in a _ (base + 0) x raw l inside ∙ ap (λ c. get_or raw c (inf true)) (omega arith)))
      (lt-or-le x a)
    where
      lt-min : x < a → x < min a w
      lt-min l = le-min l lx
  moved-reads (negsuc b) =
      ⊎_elim
      (λ (l : x + suc b < w).
      let from : min (suc b) w ≡ suc b = min-eq_left (omega arith) in
      let inside : x - 0 < base + (w - 0) - (base + suc b) = omega arith in
      rw (lt-ltb (x + suc b) w l, from)
      (part_in 0 _ (base + suc b) x raw (omega arith) inside ∙ ap (λ c. get_or raw c (inf true)) (omega arith)))
      (λ (l : w ≤ x + suc b).
      rw (le-ltb (x + suc b) w l) (part-past 0 x _ (omega arith) (rw length-take (omega (arith, past l)))))
      (lt-or-le (x + suc b) w)
    where
      past : w ≤ x + suc b → base + (w - 0) - (base + min (suc b) w) ≤ x - 0
      past l = let least : w - x ≤ min (suc b) w = le-min (omega arith) (omega arith) in omega arith

-- where the cells of a row are named otherwise
row_same : {A : Type 0} (z : A) (w : ℕ) (d : ℤ) (f g : ℕ → A) → ((c : ℕ) → f c ≡ g c) → in_row z w d f ≡ in_row z w d g
unfolding in_row
row_same z w (pos x) f g h = ap (λ v. cond (ltb x w) v z) (h x)
row_same z w (negsuc x) f g h = refl

-- what is lent for index k of a row
abbrev pub lent_of : Row → Search → List Float → ℕ → List Float
lent_of row search raw k = take ((seen_span row search k).to - (seen_span row search k).from) (drop (seen_span row search k).from raw)

module _ (raw : List Float) (w h : ℕ) (first : ℤ) (y k x : ℕ) (lx : x < w) where
  -- the volume as it stands
  own-reads : k * (w * h) + y * w + w ≤ length raw
      → part_at 0 (take (k * (w * h) + y * w + (w - 0) - (k * (w * h) + y * w + 0)) (drop (k * (w * h) + y * w + 0) raw)) x ≡ seen_cell Own w h first raw k (y * w + x)
  unfolding seen_cell
  own-reads l =
      let base = k * (w * h) + y * w in
      let inside : x - 0 < base + (w - 0) - (base + 0) = omega arith in
      part_in 0 _ (base + 0) x raw (omega arith) inside
      ∙ ap (λ c. get_or raw c (inf true)) (omega arith)
      ∙ default_free raw (k * (w * h) + (y * w + x)) (inf true) nan (omega arith)

  -- the volume turned
  turned-reads : part_at (moved_by w (first +ℤ pos k)).lo (take (k * (w * h) + y * w + (w - (moved_by w (first +ℤ pos k)).lo) - (k * (w * h) + y * w + (moved_by w (first +ℤ pos k)).from)) (drop (k * (w * h) + y * w + (moved_by w (first +ℤ pos k)).from) raw)) x
      ≡ seen_cell Turned w h first raw k (y * w + x)
  unfolding seen_cell turned_cell
  turned-reads =
      moved-reads raw w (k * (w * h) + y * w) x lx (first +ℤ pos k)
      ∙ rw (in-column w x y lx, in-row w x y lx) (row_same (inf true) w _ _ _ (λ c. ap (λ i. get_or raw i (inf true)) (omega arith)))

-- a span holds the row's numbers
pub span-reads : (row : Row) (search : Search) (raw : List Float) (k x : ℕ) → RowIn row search raw → k < search.count → x < row.w
    → part_at (seen_span row search k).lo (lent_of row search raw k) x ≡ cell_in row search raw x k
span-reads row search raw k x z l lx = go row.seen refl
  where
    within : row_start row k + row.w ≤ length raw
    within = omega (arith, (places row search k z.sizes l).ends, z.planes)

    go : (t : Seen) → row.seen ≡ t → part_at (seen_span row search k).lo (lent_of row search raw k) x ≡ cell_in row search raw x k
    go Own e = rw e (own-reads raw row.w row.h search.first row.y k x lx within)
    go Turned e = rw e (turned-reads raw row.w row.h search.first row.y k x lx)

-- what is lent for index k of a row is there, fits into the row, and holds the row's numbers
pub record Lent (row : Row) (search : Search) (raw : List Float) (k : ℕ) (s : Span) : Type 0 where
  pub starts : s.from ≤ s.to
  pub ends : s.to ≤ length raw
  pub fits : s.lo + length (take (s.to - s.from) (drop s.from raw)) ≤ row.w
  pub reads : (x : ℕ) → x < row.w → part_at s.lo (take (s.to - s.from) (drop s.from raw)) x ≡ cell_in row search raw x k

pub lent : (row : Row) (search : Search) (raw : List Float) (k : ℕ) (s : Span) → s ≡ seen_span row search k → RowIn row search raw → k < search.count → Lent row search raw k s
lent row search raw k s e z l =
    let p = places row search k z.sizes l in
    let s = shift-within row.seen row.w search.first k in
    let long = mid_len (seen_span row search k).from (seen_span row search k).to raw (omega (arith, z.planes)) in
    rw e record { starts = omega arith; ends = omega (arith, z.planes); fits = omega (arith, long); reads = λ x lx. span-reads row search raw k x z l lx }

-- ---- the numbers of a row lie in their range

blank-range : InRange (raw_of (inf true))
unfolding eq
blank-range = tt

part-range : (lo : ℕ) (part : List Float) (x : ℕ) → ((j : ℕ) → j < length part → InRange (raw_of (get_or part j (inf true)))) → InRange (raw_of (part_at lo part x))
unfolding part_at
part-range lo part x h = go (leb lo x)
  where
    go : (t : Bool) → InRange (raw_of (cond t (get_or part (x - lo) (inf true)) (inf true)))
    go false = blank-range
    go true =
        ⊎_elim
        (λ (l : x - lo < length part). h (x - lo) l)
        (λ (l : length part ≤ x - lo). rw (get_or-eq_default part (inf true) l) blank-range)
        (lt-or-le (x - lo) (length part))

mid-range : (raw : List Float) (n a e : ℕ) → CellsInRange raw n → n ≤ length raw → e ≤ n → (j : ℕ) → j < length (take (e - a) (drop a raw)) → InRange (raw_of (get_or (take (e - a) (drop a raw)) j (inf true)))
mid-range raw n a e all long le j l =
    let short : j < e - a = omega (arith, mid_len a e raw (omega arith)) in
    let inside : a + j < n = omega arith in
    rw (get_or-take (e - a) (drop a raw) j (inf true) short, get_or-drop a raw j (inf true), default_free raw (a + j) (inf true) nan (omega arith)) (all (a + j) inside)

pub cell-range : (row : Row) (search : Search) (raw : List Float) (k x : ℕ) → RowIn row search raw → CellsInRange raw (search.count * (row.w * row.h)) → k < search.count → x < row.w
    → InRange (raw_of (cell_in row search raw x k))
cell-range row search raw k x z all l lx =
    let p = places row search k z.sizes l in
    let s = shift-within row.seen row.w search.first k in
    rw (← span-reads row search raw k x z l lx)
    (part-range (seen_span row search k).lo (lent_of row search raw k) x
    (mid-range raw (search.count * (row.w * row.h)) (seen_span row search k).from (seen_span row search k).to all z.planes (omega arith)))
