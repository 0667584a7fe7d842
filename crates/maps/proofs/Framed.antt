-- The inner frame counted: by pixels it has the cells that its rows' parts have, which are (w-2r)(h-2r). Assumes nothing.
use Prim.Native.Nat.{ℕ, suc, ◌+◌, ◌-◌, ◌*◌, ◌≤◌, ◌<◌}
use mathlib.Core.Path.{◌≡◌, refl, sym, ap, ◌∙◌}
use mathlib.Core.Bool.{Bool, true, false, ◌&&◌, cond}
use mathlib.Core.List.{List, [], ◌∷◌}
use native.Mathlib.Nat.{mul_comm, mul-one, mul-le-mul_right, add_assoc, sub_self}
use native.Mathlib.Omega.{arith}
use lib.ListN.{length, get_or, take, drop, length-drop}
use lib.Seq.{get_or-take, get_or-drop, length-take-le}
use lib.Ieee.{Float, nan}
use lib.Ieee.Scale.{finite}
use Rattle.std.proofs.lemmas.List.Sums.{sum_by-cons, count_by-le-length}
use Rattle.lists.specs.Sums.{sum_to, count_below}
use Rattle.lists.proofs.Rows.{in-column, in-row, row_in}
use Rattle.lists.proofs.Sums.{sum_to-same, sum_to-none, sum_to-const, sum_to-split, sum_to-bound, sum_to-first, sum_to-rows, count-all}
use Rattle.options.specs.Frame.{within, inner}
use Rattle.options.proofs.Frames.{says-within, off-before, off-past}
use Rattle.maps.specs.Map.{valids, inner_valids, inner_area}
use Rattle.maps.specs.Inner.{Framed}

-- ---- sums over a frame

-- of a line of n pixels those count whose window lies within it: r to n - r
sum-within : (n r : ℕ) (f : ℕ → ℕ) → 2 * r ≤ n → sum_to n (λ x. cond (within n r x) (f x) 0) ≡ sum_to (n - 2 * r) (λ i. f (r + i))
sum-within n r f fits =
    let g : ℕ → ℕ = λ x. cond (within n r x) (f x) 0 in
    let m = n - 2 * r in
    let parts : n ≡ r + (m + r) = omega arith in
    let before : sum_to r g ≡ 0 = sum_to-none r g (λ x l. rw (off-before n r x l)) in
    let inside : sum_to m (λ i. g (r + i)) ≡ sum_to m (λ i. f (r + i)) =
    sum_to-same m _ _ (λ i l. rw (says-within n r (r + i) (omega arith) (omega arith))) in
    let past : sum_to r (λ i. g (r + (m + i))) ≡ 0 = sum_to-none r _ (λ i l. rw (off-past n r (r + (m + i)) (omega arith))) in
    ap (λ k. sum_to k g) parts
    ∙ sum_to-split r (m + r) g
    ∙ omega (arith, sum_to-split m r (λ i. g (r + i)))

-- a row that does not count adds nothing
row_counts : (t : Bool) (w : ℕ) (f : ℕ → ℕ) → sum_to w (λ x. cond t (f x) 0) ≡ cond t (sum_to w f) 0
row_counts true w f = refl
row_counts false w f = sum_to-none w _ (λ _ _. refl)

-- three tests, one after the other
in-turn : (across down t : Bool) → ◌≡◌ {A = ℕ} (cond (across && down && t) 1 0) (cond down (cond across (cond t 1 0) 0) 0)
in-turn true true t = refl
in-turn true false t = refl
in-turn false true t = refl
in-turn false false t = refl

module _ (w h r : ℕ) (across : 2 * r < w) (down : 2 * r < h) where
  -- the pixels of the inner frame that pass a test, row by row
  count-inner : (t : ℕ → Bool) → count_below (w * h) (λ p. inner w h r p && t p) ≡ sum_to (h - 2 * r) (λ j. sum_to (w - 2 * r) (λ i. cond (t ((r + j) * w + (r + i))) 1 0))
  unfolding count_below
  count-inner t =
      ap (λ n. sum_to n (λ p. cond (inner w h r p && t p) 1 0)) (mul_comm w h)
      ∙ sum_to-rows w h (λ p. cond (inner w h r p && t p) 1 0)
      ∙ sum_to-same h _ _ (λ y _. row y)
      ∙ sum-within h r (λ y. sum_to (w - 2 * r) (λ i. cond (t (y * w + (r + i))) 1 0)) (omega arith)
    where
      row : (y : ℕ) → sum_to w (λ x. cond (inner w h r (y * w + x) && t (y * w + x)) 1 0) ≡ cond (within h r y) (sum_to (w - 2 * r) (λ i. cond (t (y * w + (r + i))) 1 0)) 0
      row y =
          sum_to-same w _ _ (λ x l. rw (in-column w x y l, in-row w x y l) (in-turn (within w r x) (within h r y) (t (y * w + x))))
          ∙ row_counts (within h r y) w (λ x. cond (within w r x) (cond (t (y * w + x)) 1 0) 0)
          ∙ ap (λ s. cond (within h r y) s 0) (sum-within w r (λ x. cond (t (y * w + x)) 1 0) (omega arith))

  -- THEOREM: the inner frame has (w-2r)(h-2r) pixels
  pub inner-pixels : count_below (w * h) (inner w h r) ≡ inner_area w h r
  inner-pixels =
      sym (count-all (inner w h r) (λ _. true) (w * h) (λ _ _ _. refl))
      ∙ count-inner (λ _. true)
      ∙ sum_to-same (h - 2 * r) _ _ (λ j _. sum_to-const (w - 2 * r) 1 ∙ mul-one (w - 2 * r))
      ∙ sum_to-const (h - 2 * r) (w - 2 * r)
      ∙ mul_comm (h - 2 * r) (w - 2 * r)

-- ---- the code's count: of each row of the inner frame the part that lies within

-- valid cells as a sum over the places of a list
pub valids-sum : (cells : List Float) → valids cells ≡ sum_to (length cells) (λ i. cond (finite (get_or cells i nan)) 1 0)
valids-sum [] = unfold sum_to in refl
valids-sum (c ∷ cells) =
    sum_by-cons (λ v. cond (finite v) 1 0) c cells
    ∙ ap (λ n. cond (finite c) 1 0 + n) (valids-sum cells)
    ∙ sym (sum_to-first (length cells) (λ i. cond (finite (get_or (c ∷ cells) i nan)) 1 0))

-- the part of row y without r cells at either end
abbrev pub part_of : ℕ → ℕ → List Float → ℕ → List Float
part_of w r cells y = take (w - 2 * r) (drop (y * w + r) cells)

module _ {w h r : ℕ} (cells : List Float) (f : Framed w h r (length cells)) where
  -- the part of a row of the inner frame is there
  pub part-there : (y : ℕ) → y < h - r → y * w + w ≤ length cells
  part-there y l = row_in y h w (length cells) (omega arith) (omega (arith, f.long, mul_comm w h))

  part-long : (y : ℕ) → y < h - r → length (part_of w r cells y) ≡ w - 2 * r
  part-long y l = length-take-le (w - 2 * r) _ (rw length-drop (omega (arith, part-there y l, f.across)))

  part-valids : (y : ℕ) → y < h - r → valids (part_of w r cells y) ≡ sum_to (w - 2 * r) (λ i. cond (finite (get_or cells (y * w + (r + i)) nan)) 1 0)
  part-valids y l =
      valids-sum (part_of w r cells y)
      ∙ ap (λ n. sum_to n (λ i. cond (finite (get_or (part_of w r cells y) i nan)) 1 0)) (part-long y l)
      ∙ sum_to-same (w - 2 * r) _ _ (λ i m. ap (λ c. cond (finite c) 1 0) (get_or-take (w - 2 * r) _ i nan m ∙ get_or-drop (y * w + r) cells i nan ∙ ap (λ p. get_or cells p nan) (add_assoc (y * w) r i)))

  -- all the parts have the valid cells of the inner frame
  all-parts : sum_to (h - 2 * r) (λ j. valids (part_of w r cells (r + j))) ≡ inner_valids w h r cells
  unfolding inner_valids
  all-parts = sum_to-same (h - 2 * r) _ _ (λ j l. part-valids (r + j) (omega arith)) ∙ sym (count-inner w h r f.across f.down (λ p. finite (get_or cells p nan)))

-- what a loop over the rows of the inner frame has counted before row y
pub record CountedRows (w h r : ℕ) (cells : List Float) (n y : ℕ) : Type 0 where
  pub low : r ≤ y
  pub high : y ≤ h - r
  pub so_far : n ≡ sum_to (y - r) (λ j. valids (part_of w r cells (r + j)))

module _ {w h r : ℕ} (cells : List Float) (f : Framed w h r (length cells)) where
  -- before the first of them
  pub counted_none : CountedRows w h r cells 0 r
  unfolding sum_to
  counted_none = record { low = omega arith; high = omega (arith, f.down); so_far = rw sub_self }

  -- one row more
  pub counted-more : (n y : ℕ) → CountedRows w h r cells n y → y < h - r → CountedRows w h r cells (n + valids (part_of w r cells y)) (y + 1)
  unfolding sum_to
  counted-more n y c l =
      let next : y + 1 - r ≡ suc (y - r) = omega (arith, c.low) in
      let this : r + (y - r) ≡ y = omega (arith, c.low) in
      record { low = omega (arith, c.low); high = omega arith; so_far = rw (next, this) (ap (λ m. m + valids (part_of w r cells y)) c.so_far) }

  -- after the last
  pub counted-all : (n y : ℕ) → CountedRows w h r cells n y → h - r ≤ y → n ≡ inner_valids w h r cells
  counted-all n y c past =
      let rows : y - r ≡ h - 2 * r = omega (arith, c.high) in
      c.so_far ∙ rw rows (all-parts cells f)

  -- never more than the map's cells
  pub counted-few : (n y : ℕ) → CountedRows w h r cells n y → n ≤ w * h
  counted-few n y c =
      let row : (j : ℕ) → j < y - r → valids (part_of w r cells (r + j)) ≤ w =
      λ j l. omega (arith, count_by-le-length finite (part_of w r cells (r + j)), part-long cells f (r + j) (omega (arith, c.high))) in
      let rows : (y - r) * w ≤ h * w = mul-le-mul_right w (omega (arith, c.high)) in
      omega (arith, c.so_far, sum_to-bound w (y - r) _ row, mul_comm w h)
