-- The map from its rows: the marks of the frame, and the rows inside it, one after the other. Assumes nothing.
use Rattle.std.proofs.Common.{◌≡◌, ℕ, ◌+◌, ◌-◌, ◌*◌, ◌/◌, ◌%◌, ◌<◌, ◌≤◌, false, cond, List, ◌++◌, length, get_or, take, drop, replicate, sym, refl, ap, ◌∙◌, ap₂, ⊎_elim, append-nil, mul-le-mul_right, suc-mul, mul_comm, div-lt_iff_lt-mul, add-mul, mul-le-mul, add-one, arith, length-drop, drop_of_length-le, length-take-le, take_at}
use mathlib.Core.Bool.{and-true, and-false}
use borrow.Rule.Slice.PartMut.{put_mid, mid_of, mid_len, same_len_mid}
use lib.Ieee.{Float, nan}
use lib.ListN.{length-replicate}
use lib.Seq.{take-append-add}
use Rattle.std.proofs.lemmas.List.{take-append-le}
use Rattle.lists.specs.Lists.{list_of}
use Rattle.lists.specs.Turned.{turned}
use Rattle.lists.proofs.Lists.{list_of-at, list_of-same, list_of-split, list_of-const}
use Rattle.lists.proofs.Tests.{lt-or-le}
use Rattle.lists.proofs.Rows.{in-column, in-row, cell_in, pixel-in}
use Rattle.options.specs.Costs.{raw_of}
use Rattle.options.specs.Frame.{within, inner}
use Rattle.options.specs.Limits.{side_most}
use Rattle.options.proofs.Frames.{says-within, off-before, off-past}
use Rattle.maps.specs.declared.Cell.TheVariants.{Mark}
use Rattle.maps.specs.Cells.{in_buffer}
use Rattle.choices.specs.declared.block.Gates.{Gates}
use Rattle.choices.specs.declared.block.Seen.{Seen}
use Rattle.choices.specs.declared.block.Seen.TheVariants.{Own, Turned}
use Rattle.choices.specs.declared.subpixel.Search.{Search}
use Rattle.choices.specs.Block.{costs_of, block_choice, block_cell}
use Rattle.choices.specs.Seen.{seen_as, seen_cell, column_costs, MapIn, RowIn}
use Rattle.choices.specs.RowChoice.{column_cell, chosen_at}

-- ---- a cell of the map

-- the number with index k of pixel p of the volume
seen_at : (seen : Seen) (w h : ℕ) (search : Search) (raw : List Float) (k p : ℕ) → k < search.count → p < w * h
    → get_or (seen_as seen w h search raw) (k * (w * h) + p) nan ≡ seen_cell seen w h search.first raw k p
unfolding seen_cell turned
seen_at Own w h search raw k p l lp = refl
seen_at Turned w h search raw k p l lp =
    list_of-at (search.count * (w * h)) _ (k * (w * h) + p) nan (cell_in k search.count p (w * h) _ l lp (omega arith))
    ∙ rw (in-row (w * h) p k lp, in-column (w * h) p k lp)

-- a row inside the frame, and one outside it
inside-row : (w h r x y : ℕ) → x < w → r ≤ y → y < h - r → inner w h r (y * w + x) ≡ within w r x
inside-row w h r x y lx low high = rw (in-column w x y lx, in-row w x y lx, says-within h r y low (omega arith)) (and-true (within w r x))

outside-row : (w h r p : ℕ) → within h r (p / w) ≡ false → inner w h r p ≡ false
outside-row w h r p off = rw off (and-false (within w r (p % w)))

module _ (seen : Seen) (w h r : ℕ) (search : Search) (gates : Gates) (raw : List Float) where
  -- the row's choice is the map's
  pub row-cell : (x y : ℕ) → x < w → r ≤ y → y < h - r → in_buffer (column_cell (record { w = w; h = h; y = y; seen = seen }) r search gates raw x) ≡ chosen_at seen w h r search gates raw (y * w + x)
  unfolding column_cell block_cell column_costs costs_of
  row-cell x y lx low high =
      rw (inside-row w h r x y lx low high)
      (ap (λ c. in_buffer (cond (within w r x) (block_choice search gates c) Mark))
      (list_of-same search.count _ _ (λ k l. ap raw_of (sym (seen_at seen w h search raw k (y * w + x) l (pixel-in w h x y lx (omega arith)))))))

  -- above and below the rows inside the frame there are marks
  pub above-marked : (p : ℕ) → 0 < w → p < r * w → chosen_at seen w h r search gates raw p ≡ nan
  unfolding block_cell
  above-marked p some l = rw (outside-row w h r p (off-before h r (p / w) ((div-lt_iff_lt-mul some).1 l)))

  pub below-marked : (p : ℕ) → 0 < w → (h - r) * w ≤ p → chosen_at seen w h r search gates raw p ≡ nan
  unfolding block_cell
  below-marked p some l = rw (outside-row w h r p (off-past h r (p / w) (omega (arith, low))))
    where
      low : h - r ≤ p / w
      low = ⊎_elim (λ (m : p / w < h - r). absurd (let z : p < (h - r) * w = (div-lt_iff_lt-mul some).0 m in omega arith)) (λ (m : h - r ≤ p / w). m) (lt-or-le (p / w) (h - r))

-- ---- the loop over the rows, where f is the map

-- the rows below y are done
pub record RowsInv (f : ℕ → Float) (w h r : ℕ) (out : List Float) (y : ℕ) : Type 0 where
  pub low : r ≤ y
  pub high : y ≤ h - r
  pub long : length out ≡ w * h
  pub done : take (y * w) out ≡ list_of (y * w) f

-- rows y and y + 1 lie in the map
pub record Rows (w h y : ℕ) : Type 0 where
  pub ends : y * w + 2 * w ≤ w * h
  pub area-most : w * h ≤ side_most * side_most
  pub next : (y + 1) * w ≡ y * w + w

pub rows : (w h r y : ℕ) → w ≤ side_most → h ≤ side_most → 1 ≤ r → y < h - r → Rows w h y
rows w h r y wide high some l =
    let two : y + 2 ≤ h = omega arith in
    record {
      ends = omega (arith, mul-le-mul_right w two, add-mul y 2 w, mul_comm w h);
      area-most = mul-le-mul wide high;
      next = rw (add-one y, suc-mul y w);
    }

module _ (f : ℕ → Float) (w h r : ℕ) (out : List Float) (y : ℕ) (i : RowsInv f w h r out y) (z : Rows w h y) (more : y < h - r) where
  -- the two rows that are lent
  pub lent-long : length (mid_of (y * w) (y * w + 2 * w - y * w) out) ≡ w + w
  lent-long = mid_len (y * w) (y * w + 2 * w) out (omega (arith, i.long)) ∙ omega arith

  module _ (part : List Float) (F : ℕ → Float) (long : length part ≡ w + w) (made : take w part ≡ list_of w F) (same : (x : ℕ) → x < w → F x ≡ f (y * w + x)) where
    first-row : (post : List Float) → take w (part ++ post) ≡ list_of w (λ x. f (y * w + x))
    first-row post = take-append-le w part post (omega arith) ∙ made ∙ list_of-same w F _ same

    pub rows_next : RowsInv f w h r (put_mid (y * w) (y * w + 2 * w - y * w) out part) (y + 1)
    rows_next =
        record {
          low = omega (arith, i.low);
          high = omega arith;
          long = same_len_mid (y * w) (y * w + 2 * w - y * w) out part (long ∙ sym lent-long) ∙ i.long;
          done =
              rw z.next
              (ap (λ n. take (n + w) (put_mid (y * w) (y * w + 2 * w - y * w) out part)) (sym before)
              ∙ take-append-add (take (y * w) out) _ w
              ∙ ap₂ (λ a b. a ++ b) i.done (first-row _)
              ∙ sym (list_of-split (y * w) w f));
        }
      where
        before : length (take (y * w) out) ≡ y * w
        before = length-take-le (y * w) out (omega (arith, i.long, z.ends))

-- ---- the frame's rows

-- the first rows are set
pub marked-first : (f : ℕ → Float) (n : ℕ) (part out : List Float) (mark : Float) → part ≡ replicate n mark → mark ≡ nan → ((p : ℕ) → p < n → f p ≡ nan) → take n (part ++ drop n out) ≡ list_of n f
marked-first f n part out mark made dark marked =
    rw (made, dark) (take_at (replicate n nan) (drop n out) n (length-replicate n nan) ∙ sym (list_of-const n nan) ∙ list_of-same n _ f (λ p l. sym (marked p l)))

-- and the last
pub marked-last : (f : ℕ → Float) (k e : ℕ) (out part : List Float) (mark : Float) → k ≤ e → length out ≡ e → take k out ≡ list_of k f
    → part ≡ replicate (e - k) mark → mark ≡ nan → ((p : ℕ) → k ≤ p → f p ≡ nan) → put_mid k (e - k) out part ≡ list_of e f
marked-last f k e out part mark l long done made dark marked =
    let back : k + (e - k) ≡ e = omega arith in
    let rest : length (drop k out) ≤ e - k = omega (arith, length-drop k out) in
    let marks : replicate (e - k) nan ≡ list_of (e - k) (λ i. f (k + i)) = sym (list_of-const (e - k) nan) ∙ list_of-same (e - k) _ _ (λ i _. sym (marked (k + i) (omega arith))) in
    rw (done, made, dark, drop_of_length-le (drop k out) rest, append-nil (replicate (e - k) nan), marks)
    (sym (list_of-split k (e - k) f) ∙ ap (λ n. list_of n f) back)

-- a row inside the frame is one of the map's
pub row-of-map : (w h r y : ℕ) (seen : Seen) (search : Search) (raw : List Float) → MapIn w h r search raw → y < h - r → RowIn (record { w = w; h = h; y = y; seen = seen }) search raw
row-of-map w h r y seen search raw z l =
    record {
      sizes = record { wide = z.wide; high = z.high; inside = omega arith; some = z.some; few = z.few; close = z.close };
      planes = z.planes;
    }

-- where the rows inside the frame begin and end
pub record Bands (w h r : ℕ) : Type 0 where
  pub top : r * w ≤ w * h
  pub bottom : (h - r) * w ≤ w * h
  pub area-most : w * h ≤ side_most * side_most
  pub some : 0 < w

pub bands : {w h r : ℕ} {search : Search} {raw : List Float} → MapIn w h r search raw → Bands w h r
bands {w} {h} {r} z =
    let few : r ≤ h = omega (arith, z.down) in
    let inside : h - r ≤ h = omega arith in
    record {
      top = omega (arith, mul-le-mul_right w few, mul_comm w h);
      bottom = omega (arith, mul-le-mul_right w inside, mul_comm w h);
      area-most = mul-le-mul z.wide z.high;
      some = omega (arith, z.across);
    }
