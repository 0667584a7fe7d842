-- The raw volume of two pictures has its cells in range, and none where a window has one pixel. Assumes nothing.
use Prim.Native.Nat.{ℕ, ◌+◌, ◌-◌, ◌*◌, ◌/◌, ◌%◌, ◌≤◌, ◌<◌}
use mathlib.Core.Path.{◌≡◌, refl, sym, ap, ap₂, ◌∙◌, subst}
use mathlib.Core.Bool.{Bool, true, false, cond}
use mathlib.Core.List.{List}
use native.Mathlib.Omega.{arith}
use borrow.Author.Tests.{eq-eqb}
use lib.IntN.{ℤ, pos, negsuc, ◌+ℤ◌}
use lib.Ieee.{nan}
use Rattle.lists.specs.Rows.{level_at}
use Rattle.lists.proofs.Tests.{of-all}
use Rattle.lists.proofs.Lists.{list_of-length, list_of-at}
use Rattle.options.specs.Limits.{block_most}
use Rattle.options.specs.Costs.{stored, InRange}
use Rattle.options.specs.declared.BlockMatchOptions.{BlockMatchOptions}
use Rattle.options.specs.declared.RawCost.TheVariants.{Blank}
use Rattle.options.specs.declared.Side.{Side}
use Rattle.options.proofs.Stored.{stored_back}
use Rattle.options.specs.Frame.{within, is_in_frame}
use Rattle.costs.specs.Raw.{shift_of, reference_of, target_of, one_level, pair_cost, target_cost, shifted_cost, raw_cost}
use Rattle.costs.specs.Rooms.{Picture}
use Rattle.costs.specs.Volume.{raw_volume}
use Rattle.costs.proofs.Laws.{raw-cost-bound}
use Rattle.matching.specs.Maps.{half, volume_of}
use Rattle.matching.specs.Inner.{cells_in, VolumeRanged}

-- ---- a window of one pixel shows one level
one-pixel : (w : ℕ) (a : List ℕ) (x y : ℕ) → one_level w a x y 0 ≡ true
unfolding one_level
one-pixel w a x y = of-all 1 _ (λ j lj. of-all 1 _ (λ i li. eq-eqb _ _ (ap₂ (level_at w a) (none (x - 0) i li) (none (y - 0) j lj))))
  where
    none : (n i : ℕ) → i < 1 → n + i ≡ n
    none n i l = omega arith

either : (t : Bool) → cond t Blank Blank ≡ Blank
either true = refl
either false = refl

pair-blank : (w : ℕ) (a b : List ℕ) (s : ℤ) (x x' y : ℕ) → pair_cost w 0 a b s x x' y ≡ Blank
unfolding pair_cost
pair-blank w a b s x x' y = rw (one-pixel w a x y)

target-blank : (w : ℕ) (a b : List ℕ) (s : ℤ) (x y : ℕ) (z : ℤ) → target_cost w 0 a b s x y z ≡ Blank
unfolding target_cost
target-blank w a b s x y (negsuc n) = refl
target-blank w a b s x y (pos x') = rw (pair-blank w a b s x x' y) (either (within w 0 x'))

raw-blank : (side : Side) (w h : ℕ) (first : ℤ) (left right : List ℕ) (x y k : ℕ) → raw_cost side w h 0 first left right x y k ≡ Blank
unfolding raw_cost shifted_cost
raw-blank side w h first left right x y k =
    let s = shift_of side first k in
    rw (target-blank w (reference_of side left right) (target_of side left right) s x y (pos x +ℤ s)) (either (is_in_frame w h 0 x y))

-- ---- the volume
pub ranged : {w h : ℕ} {o : BlockMatchOptions} {left right : List ℕ} → half o ≤ block_most / 2 → Picture w h left → Picture w h right
    → (side : Side) → VolumeRanged w h o (volume_of w h o side left right)
unfolding raw_volume
ranged {w} {h} {o} {left} {right} few pl pr side = record {
  long = list_of-length (cells_in w h o) _;
  cells = λ i l.
      let cost = raw_cost side w h (half o) o.min_disparity left right (i % (w * h) % w) (i % (w * h) / w) (i / (w * h)) in
      let bound = raw-cost-bound side w h (half o) o.min_disparity left right (i % (w * h) % w) (i % (w * h) / w) (i / (w * h)) few pl pr in
      rw (list_of-at (cells_in w h o) _ i nan l) (subst InRange (sym (stored_back cost bound)) bound);
  none = λ e i l.
      list_of-at (cells_in w h o) _ i nan l
      ∙ ap (λ r. stored (raw_cost side w h r o.min_disparity left right (i % (w * h) % w) (i % (w * h) / w) (i / (w * h)))) e
      ∙ ap stored (raw-blank side w h o.min_disparity left right _ _ _);
}
