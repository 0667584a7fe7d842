-- The block map of a volume that has no raw cost. Assumes nothing.
use Prim.Native.Nat.{ℕ, zero, suc, ◌+◌, ◌*◌, ◌/◌, ◌%◌, ◌≤◌, ◌<◌}
use mathlib.Core.Path.{◌≡◌, refl, sym, ap, ◌∙◌}
use mathlib.Core.Bool.{Bool, true, false, cond}
use mathlib.Core.List.{List}
use mathlib.Core.Logic.{⊎_elim}
use native.Mathlib.Nat.{mod-lt, div-lt_iff_lt-mul, mul_comm}
use native.Mathlib.Omega.{arith}
use borrow.Author.Tests.{lt-ltb, le-ltb}
use lib.IntN.{ℤ, pos, negsuc}
use lib.Ieee.{Float, nan, inf, eq}
use lib.ListN.{length, get_or}
use Rattle.lists.specs.Lists.{list_of, walk}
use Rattle.lists.specs.Turned.{in_row, column_left, turned_cell, turned}
use Rattle.lists.proofs.Lists.{list_of-same, list_of-at, any-default}
use Rattle.lists.proofs.Rows.{cell_in, pixel-in, row_below, mul-pos-left}
use Rattle.lists.proofs.Tests.{lt-or-le}
use Rattle.options.specs.declared.RawCost.TheVariants.{Blank}
use Rattle.options.specs.Costs.{raw_of}
use Rattle.maps.specs.declared.Cell.TheVariants.{Mark}
use Rattle.std.proofs.Common.{None}
use Rattle.choices.specs.declared.block.Gates.{Gates}
use Rattle.choices.specs.declared.block.Seen.{Seen}
use Rattle.choices.specs.declared.block.Seen.TheVariants.{Own, Turned}
use Rattle.choices.specs.declared.subpixel.Search.{Search}
use Rattle.options.specs.Frame.{inner}
use Rattle.choices.specs.Block.{costs_of, better, best_of, gated, block_choice, block_cell, block_map}
use Rattle.choices.specs.Seen.{seen_as}

-- n cells that are all blank
abbrev Flat : List Float → ℕ → Type 0
Flat raw n = (i : ℕ) → i < n → get_or raw i nan ≡ inf true

none_found : (n k : ℕ) → walk better k None (list_of n (λ _. Blank)) ≡ None
unfolding walk list_of
none_found zero k = refl
none_found (suc n) k = none_found n (suc k)

blank_of : raw_of (inf true) ≡ Blank
unfolding eq
blank_of = refl

either : (t : Bool) → cond t Mark Mark ≡ Mark
either true = refl
either false = refl

module _ (w h r : ℕ) (search : Search) (gates : Gates) where
  flat-cell : (raw : List Float) → Flat raw (search.count * (w * h)) → (p : ℕ) → p < w * h → block_cell w h r search gates raw p ≡ Mark
  unfolding block_cell block_choice best_of costs_of gated
  flat-cell raw flat p l =
      let costs : list_of search.count (λ k. raw_of (get_or raw (k * (w * h) + p) nan)) ≡ list_of search.count (λ _. Blank) =
      list_of-same search.count _ _ (λ k lk. ap raw_of (flat (k * (w * h) + p) (cell_in k search.count p (w * h) _ lk l (omega arith))) ∙ blank_of) in
      rw (costs, none_found search.count 0) (either (inner w h r p))

  flat_map : (raw : List Float) → Flat raw (search.count * (w * h)) → block_map w h r search gates raw ≡ list_of (w * h) (λ _. Mark)
  unfolding block_map
  flat_map raw flat = list_of-same (w * h) _ _ (flat-cell raw flat)

-- a row whose cells are all what stands for none
same-in-row : {A : Type 0} (z : A) (w : ℕ) (c : ℤ) (cell : ℕ → A) → ((x : ℕ) → x < w → cell x ≡ z) → in_row z w c cell ≡ z
unfolding in_row
same-in-row z w (negsuc n) cell e = refl
same-in-row z w (pos x) cell e = ⊎_elim (λ (l : x < w). rw (lt-ltb x w l) (e x l)) (λ (l : w ≤ x). rw (le-ltb x w l)) (lt-or-le x w)

module _ (w h : ℕ) (search : Search) (raw : List Float) (long : length raw ≡ search.count * (w * h)) (flat : Flat raw (search.count * (w * h))) where
  turned-flat : Flat (turned (inf true) w h search.first search.count raw) (search.count * (w * h))
  unfolding turned turned_cell
  turned-flat i l =
      let area : 0 < w * h = mul-pos-left i (w * h) search.count (rw (mul_comm search.count (w * h)) at l) in
      let inside : i % (w * h) < w * h = mod-lt i area in
      let plane : i / (w * h) < search.count = (div-lt_iff_lt-mul area).1 l in
      let row : i % (w * h) / w < h = row_below w h (i % (w * h)) inside in
      list_of-at (search.count * (w * h)) _ i nan l
      ∙ same-in-row (inf true) w (column_left w search.first (i / (w * h)) (i % (w * h))) _
      (λ x lx.
      let at = i / (w * h) * (w * h) + (i % (w * h) / w * w + x) in
      let among : at < search.count * (w * h) = cell_in (i / (w * h)) search.count (i % (w * h) / w * w + x) (w * h) _ plane (pixel-in w h x (i % (w * h) / w) lx row) (omega arith) in
      any-default raw at (inf true) nan (omega (arith, among)) ∙ flat at among)

  pub none-chosen : (r : ℕ) (gates : Gates) (seen : Seen) → list_of (w * h) (λ _. Mark) ≡ block_map w h r search gates (seen_as seen w h search raw)
  none-chosen r gates Own = sym (flat_map w h r search gates raw flat)
  none-chosen r gates Turned = sym (flat_map w h r search gates (turned (inf true) w h search.first search.count raw) turned-flat)
