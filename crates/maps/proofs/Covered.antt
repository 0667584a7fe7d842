-- The cover figure: it is 1,000 at most, and 1,000 exactly where every cell of the inner frame is valid; by a block of one pixel it is the figure
-- of all cells. Assumes nothing.
use Prim.Native.Nat.{ℕ, zero, suc, ◌-◌, ◌*◌, ◌/◌, ◌%◌, ◌≤◌, ◌<◌, zero-le}
use mathlib.Core.Path.{◌≡◌, refl, sym, ap, ap₂, ◌∙◌}
use mathlib.Core.Bool.{Bool, true, false, ◌&&◌, cond}
use mathlib.Core.List.{List}
use mathlib.Core.Logic.{◌↔◌}
use native.Mathlib.Nat.{mul-pos, le_antisymm, mod-lt, sub-zero, le-div_iff_mul-le, div-lt_iff_lt-mul}
use native.Mathlib.Omega.{arith}
use borrow.Author.Tests.{not-false, le-ltb}
use lib.Dec.{lit<}
use lib.ListN.{length, get_or}
use lib.Ieee.{Float, nan}
use lib.Ieee.Scale.{finite}
use Rattle.lists.specs.Sums.{sum_to, count_below}
use Rattle.lists.proofs.Rows.{mul-pos-left, row_below}
use Rattle.lists.proofs.Sums.{sum_to-same, count-both, count-all, all-by-count}
use Rattle.options.specs.Limits.{side_most}
use Rattle.options.specs.Frame.{inner}
use Rattle.options.proofs.Frames.{leaves, says-within}
use Rattle.refusals.specs.Answered.{first_of}
use Rattle.refusals.specs.Given.{number_back}
use Rattle.refusals.specs.Outcome.{answer_for}
use Rattle.refusals.specs.Steps.{is}
use Rattle.refusals.proofs.Answering.{none_of}
use Rattle.refusals.proofs.Cases.{answer-made}
use Rattle.maps.specs.Map.{good_size, size_rows, cover_rows, valids, inner_valids, inner_area, permille, cover_of}
use Rattle.maps.specs.Inner.{Framed}
use Rattle.maps.proofs.Facts.{good, pixels-small}
use Rattle.maps.proofs.Framed.{inner-pixels, valids-sum}

-- a map whose cover is not refused has an inner frame
pub cover-framed : (w h n block : ℕ) → first_of (cover_rows w h n block) ≡ 0 → Framed w h (block / 2) n
cover-framed w h n block none =
    let tests = none_of (cover_rows w h n block) (lit< tt, (lit< tt, (lit< tt, (lit< tt, tt)))) none in
    let g = good w h n (not-false _ tests.0) in
    let frame = leaves w h block tests.1.0 tests.1.1.1.0 in
    record { narrow = g.narrow; low = g.low; across = frame.across; down = frame.down; long = g.long }

-- so that has a cell, and few enough of them that 1,000 times their number fits
module _ {w h r n : ℕ} (f : Framed w h r n) where
  pub area-some : 0 < inner_area w h r
  area-some = mul-pos (omega (arith, f.across)) (omega (arith, f.down))

  pub area-few : inner_area w h r ≤ side_most * side_most
  area-few = pixels-small (w - 2 * r) (h - 2 * r) (omega (arith, f.narrow)) (omega (arith, f.low))

  pub valids-few : (cells : List Float) → inner_valids w h r cells ≤ inner_area w h r
  unfolding inner_valids
  valids-few cells = omega (arith, count-both (inner w h r) (λ p. finite (get_or cells p nan)) (w * h), inner-pixels w h r f.across f.down)

-- ---- a part to a thousand, rounded down
module _ (part all : ℕ) (some : 0 < all) (most : part ≤ all) where
  thousand-most : 1000 * part / all ≤ 1000
  thousand-most =
      let under : 1000 * part < 1001 * all = omega arith in
      let below : 1000 * part / all < 1001 = (div-lt_iff_lt-mul some).1 under in
      omega arith

  thousand-all : 1000 * part / all ≡ 1000 → part ≡ all
  thousand-all e =
      let least : 1000 ≤ 1000 * part / all = omega arith in
      let whole : 1000 * all ≤ 1000 * part = (le-div_iff_mul-le some).0 least in
      omega arith

  all-thousand : part ≡ all → 1000 * part / all ≡ 1000
  all-thousand e = le_antisymm thousand-most ((le-div_iff_mul-le some).1 (omega arith))

module _ (w h : ℕ) (cells : List Float) (block : ℕ) where
  -- where a figure is answered, there is no refusal, and it is that of the inner frame
  figure-is : (n : ℕ) → cover_of w h cells block ≡ is n → (first_of (cover_rows w h (length cells) block) ≡ 0) × (n ≡ permille w h (block / 2) cells)
  unfolding cover_of
  figure-is n = go (first_of (cover_rows w h (length cells) block))
    where
      go : (m : ℕ) → answer_for m (permille w h (block / 2) cells) ≡ is n → (m ≡ 0) × (n ≡ permille w h (block / 2) cells)
      go zero e = (refl, cc)
      go (suc m) e = let none : suc m ≡ 0 = ap (λ a. number_back a) e in absurd (omega arith)

  -- THEOREM: it is 1,000 at most
  pub cover-most : (n : ℕ) → cover_of w h cells block ≡ is n → n ≤ 1000
  cover-most n e =
      let is = figure-is n e in
      let f = cover-framed w h (length cells) block is.0 in
      omega (arith, is.1, thousand-most _ _ (area-some f) (valids-few f cells))

  -- every cell of the inner frame is valid
  abbrev Full : Type 0
  Full = (p : ℕ) → p < w * h → inner w h (block / 2) p ≡ true → finite (get_or cells p nan) ≡ true

  -- THEOREM: where it is not refused, it is 1,000 exactly where every cell of the inner frame is valid
  pub cover-full : first_of (cover_rows w h (length cells) block) ≡ 0 → (cover_of w h cells block ≡ is 1000) ↔ Full
  unfolding cover_of inner_valids
  cover-full none = (full, thousand)
    where
      f : Framed w h (block / 2) (length cells)
      f = cover-framed w h (length cells) block none

      valid : ℕ → Bool
      valid p = finite (get_or cells p nan)

      pixels : count_below (w * h) (inner w h (block / 2)) ≡ inner_area w h (block / 2)
      pixels = inner-pixels w h (block / 2) f.across f.down

      full : cover_of w h cells block ≡ is 1000 → Full
      full e = all-by-count (inner w h (block / 2)) valid (w * h) (thousand-all _ _ (area-some f) (valids-few f cells) (sym (figure-is 1000 e).1) ∙ sym pixels)

      thousand : Full → cover_of w h cells block ≡ is 1000
      thousand all =
          let counted = count-all (inner w h (block / 2)) valid (w * h) all ∙ pixels in
          sym (ap is (sym (all-thousand _ _ (area-some f) (valids-few f cells) counted)) ∙ answer-made _ (sym none))

-- ---- a block of one pixel

-- it has no frame: every cell lies inside
all-inner : (w h p : ℕ) → p < w * h → inner w h 0 p ≡ true
all-inner w h p l =
    let column : p % w < w = mod-lt p (mul-pos-left p w h l) in
    let row : p / w < h = row_below w h p l in
    ap₂ (λ s t. s && t) (says-within w 0 (p % w) zero-le (omega arith)) (says-within h 0 (p / w) zero-le (omega arith))

all-valids : (w h : ℕ) (cells : List Float) → length cells ≡ w * h → inner_valids w h 0 cells ≡ valids cells
unfolding inner_valids count_below
all-valids w h cells long =
    sum_to-same (w * h) _ _ (λ p l. rw (all-inner w h p l))
    ∙ sym (valids-sum cells ∙ ap (λ n. sum_to n (λ p. cond (finite (get_or cells p nan)) 1 0)) long)

-- THEOREM: by it the cover figure is 1000 · valid / (w · h), rounded down, which it was by any block before
pub cover-by-one : (w h : ℕ) (cells : List Float) → cover_of w h cells 1 ≡ answer_for (first_of (size_rows w h (length cells))) (1000 * valids cells / (w * h))
unfolding cover_of first_of
cover-by-one w h cells = go (good_size w h (length cells)) refl
  where
    go : (t : Bool) → good_size w h (length cells) ≡ t → cover_of w h cells 1 ≡ answer_for (first_of (size_rows w h (length cells))) (1000 * valids cells / (w * h))
    go false e = rw e
    go true e =
        let g = good w h (length cells) e in
        rw (e, le-ltb w 1 g.wide, le-ltb h 1 g.high, all-valids w h cells g.long, sub-zero w, sub-zero h)
