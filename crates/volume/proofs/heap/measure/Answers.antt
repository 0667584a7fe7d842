-- `volume::heap::measure` meets its contract: the cleared grid is filled with levels, and what these add up to are the figures. Assumes nothing.
use Prim.Native.Nat.{ℕ, ◌*◌, ◌-◌, ◌≤◌, ◌<◌, ◌^◌}
use mathlib.Core.Path.{◌≡◌, ap, ◌∙◌}
use mathlib.Core.Bool.{true, cond}
use mathlib.Core.List.{List, map}
use native.Mathlib.Omega.{arith}
use lib.Dec.{eqb}
use lib.Ieee.{Float}
use lib.ListN.{length, get_or}
use Rattle.lists.specs.Sums.{sum_to}
use Rattle.volume.specs.declared.site.Site.{Site}
use Rattle.volume.specs.declared.heap.Figures.{Figures}
use Rattle.volume.specs.Metres.{good_points, spots_of}
use Rattle.volume.specs.Heights.{inside_count, outside_count, empty_count, volume_of, figures_of}
use Rattle.volume.specs.Inner.{SiteFits, levels_of, LevelsFit}
use Rattle.volume.proofs.Counts.{counts-given}
use Rattle.volume.proofs.Largest.{heights-most, volume-most}
use Rattle.volume.proofs.Lowered.{levels-fit, levels-lowered, heights-sum, empties-sum}
use Rattle.volume.proofs.heap.measure.Goals.{After-drop_points-inside}
use Rattle.volume.proofs.heap.measure.Goals as goal

-- the grid is filled: the levels are those of the points, and so many points lie inside
record Filled (s : Site) (xs ys zs : List Float) (levels : List ℕ) (inside : ℕ) : Type 0 where
  fit : SiteFits s
  good : good_points xs ys zs ≡ true
  counted : inside ≡ inside_count s (spots_of xs ys zs)
  are : levels ≡ levels_of s (spots_of xs ys zs)

module _ {s : Site} {xs ys zs : List Float} {levels : List ℕ} {inside : ℕ} (f : Filled s xs ys zs levels inside) where
  levels-low : LevelsFit levels
  levels-low = rw f.are (levels-fit s (spots_of xs ys zs) (heights-most s f.fit.near xs ys zs f.good))

  inside-most : inside ≤ length xs
  inside-most = omega (arith, counts-given s xs ys zs f.good, f.counted)

  module _ (height : ℕ) (high : height ≡ sum_to (length levels) (λ c. get_or levels c 0 - 1)) where
    volume-is : height * (s.cell * s.cell) ≡ volume_of s (spots_of xs ys zs)
    volume-is = rw (high, f.are) (heights-sum s (spots_of xs ys zs))

    volume-fits : height * (s.cell * s.cell) < 2 ^ 64
    volume-fits = omega (arith, volume-is, volume-most s f.fit xs ys zs f.good)

    figures-are : (empty : ℕ) → empty ≡ sum_to (length levels) (λ c. cond (eqb (get_or levels c 0) 0) 1 0)
        → ◌≡◌ {A = Figures} (record { volume = height * (s.cell * s.cell); inside = inside; outside = length xs - inside; empty = empty })
        (figures_of s (spots_of xs ys zs))
    unfolding figures_of
    figures-are empty none =
        let outside : length xs - inside ≡ outside_count s (spots_of xs ys zs) = omega (arith, counts-given s xs ys zs f.good, f.counted) in
        let clear : empty ≡ empty_count s (spots_of xs ys zs) = none ∙ rw f.are (empties-sum s (spots_of xs ys zs)) in
        cc (volume-is, f.counted)

filled : (c : After-drop_points-inside)
    → Filled c.args.plan.site c.args.points.xs.now c.args.points.ys.now c.args.points.zs.now
    c.drop_points-inside.new.grid c.drop_points-inside.result
filled c = record { fit = c.args.plan.fits; good = c.requires.good; counted = c.drop_points-inside.ensures.inside; are = c.drop_points-inside.ensures.levels }

pub settle-totals-requires-clause-low : goal.settle-totals-requires-clause-low
settle-totals-requires-clause-low c = levels-low (filled (goal.at.settle-totals-requires-clause-low c).After-drop_points-inside)

pub overflow_mul-result : goal.overflow_mul-result
overflow_mul-result c =
    rw c.cell_area.ensures
    record { fits = volume-fits (filled (goal.at.overflow_mul-result c).After-drop_points-inside) c.settle-totals.result.height c.settle-totals.ensures.height }

pub overflow_sub-result : goal.overflow_sub-result
overflow_sub-result c = inside-most (filled (goal.at.overflow_sub-result c).After-drop_points-inside)

pub returns-clause-figures : goal.returns-clause-figures
returns-clause-figures c =
    rw c.cell_area.ensures (figures-are (filled (goal.at.returns-clause-figures c).After-drop_points-inside) c.settle-totals.result.height c.settle-totals.ensures.height c.settle-totals.result.empty c.settle-totals.ensures.empty)

pub returns-clause-heights : goal.returns-clause-heights
returns-clause-heights c =
    let a = c.args in
    c.settle-totals.ensures.heights ∙ ap (map (λ v. v - 1)) (filled (goal.at.returns-clause-heights c).After-drop_points-inside).are ∙ levels-lowered a.plan.site (spots_of a.points.xs.now a.points.ys.now a.points.zs.now)
