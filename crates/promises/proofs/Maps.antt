-- The map made from one side in block mode: block choice reads one pixel's raw costs. Assumes nothing.
use Prim.Native.Nat.{ℕ, zero, suc, ◌+◌, ◌*◌, ◌<◌}
use mathlib.Core.Path.{◌≡◌, refl, ap, ◌∙◌}
use mathlib.Core.Bool.{Bool, true, false, cond}
use mathlib.Core.List.{List}
use lib.ListN.{get_or}
use lib.Ieee.{Float, nan, inf, eq}
use Rattle.lists.specs.Lists.{list_of, walk}
use Rattle.lists.proofs.Lists.{list_of-same}
use Rattle.options.specs.Costs.{raw_of}
use Rattle.options.specs.declared.BlockMatchOptions.{BlockMatchOptions}
use Rattle.options.specs.declared.RawCost.{RawCost}
use Rattle.options.specs.declared.RawCost.TheVariants.{Blank}
use Rattle.maps.specs.declared.Cell.TheVariants.{Mark}
use Rattle.maps.specs.Cells.{in_buffer}
use Rattle.std.specs.Prelude.{None}
use Rattle.choices.specs.declared.block.Gates.{Gates}
use Rattle.choices.specs.declared.subpixel.Search.{Search}
use Rattle.options.specs.Frame.{inner}
use Rattle.choices.specs.Block.{costs_of, better, best_of, gated, block_choice, block_cell}
use Rattle.matching.specs.Maps.{half, count_of, search_of, gates_of}
use Rattle.matching.proofs.SideMaps.{cell_from}

-- ---- two raw volumes that agree at a pixel
costs-same : (v v' : List Float) (area p n : ℕ) → ((i : ℕ) → i < n → get_or v (i * area + p) nan ≡ get_or v' (i * area + p) nan) → costs_of v area p n ≡ costs_of v' area p n
unfolding costs_of
costs-same v v' area p n same = list_of-same n _ _ (λ i l. ap raw_of (same i l))

pub cell_same : (w h : ℕ) (o : BlockMatchOptions) (v v' : List Float) (p : ℕ)
    → ((i : ℕ) → i < count_of o → get_or v (i * (w * h) + p) nan ≡ get_or v' (i * (w * h) + p) nan) → cell_from w h o v p ≡ cell_from w h o v' p
unfolding block_cell
cell_same w h o v v' p same =
    ap (λ c. in_buffer (cond (inner w h (half o) p) (block_choice (search_of o) (gates_of o) c) Mark)) (costs-same v v' (w * h) p (count_of o) same)

-- ---- where every raw cost of a pixel is blank there is no best, and the cell is the mark
none-better : (n k : ℕ) → walk better k None (list_of n (λ _. Blank)) ≡ None
unfolding walk list_of
none-better zero k = refl
none-better (suc n) k = none-better n (suc k)

costs-blank : (v : List Float) (area p n : ℕ) → ((i : ℕ) → i < n → get_or v (i * area + p) nan ≡ inf true) → costs_of v area p n ≡ list_of n (λ _. Blank)
unfolding costs_of eq
costs-blank v area p n each = list_of-same n _ _ (λ i l. ap raw_of (each i l))

choice-blank : (search : Search) (gates : Gates) (n : ℕ) (costs : List RawCost) → costs ≡ list_of n (λ _. Blank) → block_choice search gates costs ≡ Mark
unfolding block_choice best_of gated
choice-blank search gates n costs e = ap (gated search gates costs) (ap (walk better 0 None) e ∙ none-better n 0)

both_ways : {A : Type 0} (t : Bool) (v : A) → cond t v v ≡ v
both_ways true v = refl
both_ways false v = refl

pub cell-blank : (w h : ℕ) (o : BlockMatchOptions) (v : List Float) (p : ℕ) → ((i : ℕ) → i < count_of o → get_or v (i * (w * h) + p) nan ≡ inf true) → cell_from w h o v p ≡ nan
unfolding block_cell
cell-blank w h o v p each =
    ap (λ c. in_buffer (cond (inner w h (half o) p) c Mark))
    (choice-blank (search_of o) (gates_of o) (count_of o) (costs_of v (w * h) p (count_of o)) (costs-blank v (w * h) p (count_of o) each))
    ∙ ap in_buffer (both_ways (inner w h (half o) p) Mark)
