-- What holds where the call answers with figures: no test refused, and the figures are those of the points. Assumes nothing.
use Prim.Native.Nat.{ℕ, zero, suc, ◌+◌, ◌≤◌, ◌<◌, ◌^◌}
use mathlib.Core.Path.{◌≡◌, refl}
use mathlib.Core.List.{List, ◌∷◌, ◌++◌}
use native.Mathlib.Omega.{arith}
use lib.Ieee.{Float}
use lib.ListN.{length}
use Rattle.refusals.specs.Answered.{first_of}
use Rattle.refusals.specs.Outcome.{answer_for}
use Rattle.volume.specs.declared.site.Site.{Site}
use Rattle.volume.specs.declared.metres.Spot.{Spot}
use Rattle.volume.specs.declared.heap.Figures.{Figures}
use Rattle.refusals.specs.Steps.{is}
use Rattle.volume.specs.Metres.{spots_of}
use Rattle.volume.specs.Heights.{figures_of}
use Rattle.volume.specs.Outcome.{heap_rows, heap_of}
use Rattle.volume.proofs.Counts.{counts-given}
use Rattle.volume.proofs.Greatest.{volume-never-lower}
use Rattle.volume.proofs.Largest.{volume-most}
use Rattle.volume.proofs.Refusing.{HeapFits, heap-fits}

pub record MeasuredHeap (s : Site) (xs ys zs : List Float) (m : ℕ) (f : Figures) : Type 0 where
  pub passed : HeapFits s xs ys zs m
  pub figures : f ≡ figures_of s (spots_of xs ys zs)

-- THEOREM: where figures are answered, nothing was to be refused
pub measured : (s : Site) (xs ys zs : List Float) (m : ℕ) (f : Figures) → heap_of s xs ys zs m ≡ is f → MeasuredHeap s xs ys zs m f
unfolding heap_of
measured s xs ys zs m f = go (first_of (heap_rows s xs ys zs m)) refl
  where
    go : (n : ℕ) → first_of (heap_rows s xs ys zs m) ≡ n → answer_for n (figures_of s (spots_of xs ys zs)) ≡ is f → MeasuredHeap s xs ys zs m f
    go zero none e = record { passed = heap-fits s xs ys zs m none; figures = cc }
    go (suc n) some e = let z : ◌≡◌ {A = ℕ} 0 1 = cc in absurd (omega arith)

module _ {s : Site} {xs ys zs : List Float} {m : ℕ} {f : Figures} (h : MeasuredHeap s xs ys zs m f) where
  -- THEOREM: the two counts add to the points given
  pub counts : f.inside + f.outside ≡ length xs
  unfolding figures_of
  counts = rw h.figures (counts-given s xs ys zs h.passed.good)

  -- THEOREM: the volume fits, in an f64 too
  pub fits : f.volume < 2 ^ 53
  unfolding figures_of
  fits = rw h.figures (omega (arith, volume-most s h.passed.fit xs ys zs h.passed.good))

-- THEOREM: with one point more the volume is no less
pub more-points : {s : Site} {xs ys zs xs' ys' zs' : List Float} {m m' : ℕ} {f f' : Figures} → MeasuredHeap s xs ys zs m f → MeasuredHeap s xs' ys' zs' m' f'
    → (before after : List Spot) (p : Spot) → spots_of xs ys zs ≡ before ++ after → spots_of xs' ys' zs' ≡ before ++ p ∷ after → f.volume ≤ f'.volume
unfolding figures_of
more-points {s = s} h h' before after p made made' = rw (h.figures, h'.figures, made, made') (volume-never-lower s before after p)
