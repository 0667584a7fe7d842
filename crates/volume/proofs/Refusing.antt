-- What a site and a heap say that no row refuses, and the calls' answers by the place of their rows. Assumes nothing.
use Prim.Native.Nat.{ℕ}
use mathlib.Core.Path.{◌≡◌}
use mathlib.Core.Bool.{Bool, true, not}
use mathlib.Core.List.{List, [], ◌∷◌}
use borrow.Author.Tests.{not-false, le-ltb, ltb-false, eqb-true}
use native.Mathlib.Omega.{arith}
use lib.Dec.{eqb, lit<}
use lib.Ieee.{Float}
use Rattle.lists.proofs.Tests.{and_both}
use Rattle.refusals.specs.Answered.{Row, row, first_of, Numbered, ByPlace}
use Rattle.refusals.specs.declared.Refusal.{Refusal}
use Rattle.refusals.specs.Numbers.{number_of}
use Rattle.refusals.specs.Given.{number_back}
use Rattle.refusals.proofs.Numbers.{some}
use Rattle.refusals.proofs.Answering.{none_of, answers-by-place}
use Rattle.refusals.proofs.Groups.{by_first, by-second, both-numbered, none-of-both}
use Rattle.refusals.proofs.Outcomes.{answer-number}
use Rattle.volume.specs.declared.site.Site.{Site}
use Rattle.volume.specs.Metres.{good_points, spots_of}
use Rattle.volume.specs.Rectangle.{near_site, shape_of, cells_of, cells_most}
use Rattle.volume.specs.Heights.{figures_of}
use Rattle.volume.specs.Outcome.{site_rows, grid_shape, heap_rows, heap_of}
use Rattle.volume.specs.Inner.{SiteFits}

-- ---- a site

site-numbered : (good : Bool) (s : Site) → Numbered (site_rows good s)
site-numbered good s = (lit< tt, (lit< tt, (lit< tt, (lit< tt, tt))))

-- no row refuses it: the points are good, and it passes every test
pub site-fits : (good : Bool) (s : Site) → first_of (site_rows good s) ≡ 0 → (good ≡ true) × SiteFits s
site-fits good s e =
    let none = none_of (site_rows good s) (site-numbered good s) e in
    let near = and_both good (near_site s) (not-false _ none.1.0) in
    (near.0, record { cell = not-false _ none.0; near = near.1; sides = not-false _ none.1.1.0; few = ltb-false _ _ none.1.1.1.0 })

-- a site that passes every test
pub none-refused : (good : Bool) (s : Site) → good ≡ true → SiteFits s → 0 ≡ first_of (site_rows good s)
unfolding first_of
none-refused good s points fit = rw (points, fit.cell, fit.near, fit.sides, le-ltb cells_most (cells_of s) fit.few)

-- THEOREM: the shape of a grid is answered by the place of the site's rows
pub heap-shape-by-place : (s : Site) → ByPlace (site_rows true s) (number_back (grid_shape s))
unfolding grid_shape
heap-shape-by-place s =
    answers-by-place (site-numbered true s) (answer-number (shape_of s) (first_of (site_rows true s)))

-- ---- a heap

-- the row of a grid of m cells
abbrev grid_row : Site → ℕ → List Row
grid_row s m = row 55 (not (eqb m (cells_of s))) ∷ []

-- a fit site, good points, and a grid of the site's cells
pub record HeapFits (s : Site) (xs ys zs : List Float) (m : ℕ) : Type 0 where
  pub fit : SiteFits s
  pub good : good_points xs ys zs ≡ true
  pub long : m ≡ cells_of s

module _ (s : Site) (xs ys zs : List Float) (m : ℕ) where
  -- the site's rows decide, and where they do not, the grid's
  pub by-site : (e : Refusal) → number_of e ≡ first_of (site_rows (good_points xs ys zs) s) → number_of e ≡ first_of (heap_rows s xs ys zs m)
  by-site e same =
      by_first (site_rows (good_points xs ys zs) s) (grid_row s m) (site-numbered (good_points xs ys zs) s) (number_of e) same (λ z. absurd (omega (arith, some e)))

  pub by-grid : first_of (site_rows (good_points xs ys zs) s) ≡ 0 → (n : ℕ) → n ≡ first_of (grid_row s m) → n ≡ first_of (heap_rows s xs ys zs m)
  by-grid = by-second (site_rows (good_points xs ys zs) s) (grid_row s m) (site-numbered (good_points xs ys zs) s)

  -- no row refuses it
  pub heap-fits : first_of (heap_rows s xs ys zs m) ≡ 0 → HeapFits s xs ys zs m
  heap-fits e =
      let none = none-of-both (site_rows (good_points xs ys zs) s) (grid_row s m) (site-numbered (good_points xs ys zs) s) e in
      let site = site-fits (good_points xs ys zs) s none.0 in
      record { fit = site.1; good = site.0; long = eqb-true m (cells_of s) (not-false _ (none_of (grid_row s m) (lit< tt, tt) none.1).0) }

  -- THEOREM: a heap's figures are answered by the place of its rows
  pub heap-volume-by-place : ByPlace (heap_rows s xs ys zs m) (number_back (heap_of s xs ys zs m))
  unfolding heap_of
  heap-volume-by-place =
      answers-by-place (both-numbered (site_rows (good_points xs ys zs) s) (grid_row s m) (site-numbered (good_points xs ys zs) s) (lit< tt, tt))
      (answer-number (figures_of s (spots_of xs ys zs)) (first_of (heap_rows s xs ys zs m)))
