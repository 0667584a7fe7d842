-- `volume::site::Plan::cell_at` meets its contract: outside by either direction, else the cell by its row and its column. Assumes nothing.
use Prim.Native.Nat.{ℕ, ◌+◌, ◌*◌, ◌/◌, ◌≤◌}
use mathlib.Core.Path.{◌≡◌, refl, sym, ap, ◌∙◌}
use mathlib.Core.Bool.{true, cond}
use native.Mathlib.Nat.{mul-le-mul, le_trans, le_of_eq}
use native.Mathlib.Omega.{arith}
use lib.IntN.{ℤ}
use mir.Syntax.{w64}
use mir.Val.{SFits}
use mir.ValLaws.{to_z-of_z}
use borrow.Author.Rules.{rules}
use Rattle.std.specs.Prelude.{Option, Some, None}
use Rattle.volume.specs.declared.site.Site.{Site}
use Rattle.volume.specs.declared.site.Shape.{Shape}
use Rattle.volume.specs.declared.metres.Spot.{Spot}
use Rattle.volume.specs.Rectangle.{above, columns_of}
use Rattle.volume.specs.Heights.{is_between, is_inside}
use Rattle.volume.specs.Inner.{cell_at, fall_of, height_most}
use Rattle.volume.proofs.Differences.{near-between}
use Rattle.volume.proofs.Cells.{near-site, parts-most, part-none, part-some}
use Rattle.volume.proofs.site.Plan.cell_at.Goals.{After-cell_at, After-cell_at-2, In_ok-column, In_ok-row}
use Rattle.volume.proofs.site.Plan.cell_at.Goals as goal

-- the part of one direction in which v lies
abbrev part : ℤ → ℤ → ℕ → ℤ → Option ℕ
part low high cell v = cond (is_between low high v) (Some (above v low / cell)) None

-- the cell's number
number : (s : Site) (p : Spot) (columns column row : ℕ) → columns ≡ columns_of s → column ≡ above p.x s.left / s.cell → row ≡ above p.y s.top / s.cell
    → row * columns + column ≡ cell_at s p
unfolding cell_at
number s p columns column row e f g = rw (e, f, g)

-- ---- what the two directions tell

x-part : (c : After-cell_at) → let s = c.args.self.site in c.cell_at.result ≡ part s.left s.right s.cell c.args.at.x
x-part c =
    let fits : SFits w64 c.args.at.x = search (rules, c.well_formed) in
    rw (to_z-of_z w64 c.args.at.x fits, c.across.ensures.low, c.across.ensures.high, c.across.ensures.cell) at c.cell_at.ensures

y-part : (c : After-cell_at-2) → let s = c.args.self.site in c.cell_at-2.result ≡ part s.top s.bottom s.cell c.args.at.y
y-part c =
    let fits : SFits w64 c.args.at.y = search (rules, c.well_formed) in
    rw (to_z-of_z w64 c.args.at.y fits, c.down.ensures.low, c.down.ensures.high, c.down.ensures.cell) at c.cell_at-2.ensures

column-is : (c : In_ok-column) → let s = c.args.self.site in (is_between s.left s.right c.args.at.x ≡ true) × (c.in_ok-column.column ≡ above c.args.at.x s.left / s.cell)
column-is c = part-some _ _ _ (sym (x-part (goal.at.In_ok-column c).After-cell_at) ∙ c.in_ok-column.was)

row-is : (c : In_ok-row) → let s = c.args.self.site in (is_between s.top s.bottom c.args.at.y ≡ true) × (c.in_ok-row.row ≡ above c.args.at.y s.top / s.cell)
row-is c = part-some _ _ _ (sym (y-part (goal.at.In_ok-row c).After-cell_at-2) ∙ c.in_ok-row.was)

columns-are : (c : In_ok-row) → c.args.self.shape.columns ≡ columns_of c.args.self.site
columns-are c = ap (λ (h : Shape). h.columns) c.args.self.shaped

-- the numbers are not too large for the cell's
row-most : (c : In_ok-row) → c.in_ok-row.row * c.args.self.shape.columns ≤ height_most * height_most
row-most c =
    let s = c.args.self.site in
    let n = near-site s c.args.self.fits.near in
    let y = near-between s.top s.bottom c.args.at.y n.top n.bottom (row-is c).0 in
    mul-le-mul (le_trans (le_of_eq (row-is c).1) (parts-most c.args.at.y s.top y n.top _ s.cell refl))
    (le_trans (le_of_eq (columns-are c)) (parts-most s.right s.left n.right n.left _ s.cell refl))

column-most : (c : In_ok-column) → c.in_ok-column.column ≤ height_most
column-most c =
    let s = c.args.self.site in
    let n = near-site s c.args.self.fits.near in
    let x = near-between s.left s.right c.args.at.x n.left n.right (column-is c).0 in
    le_trans (le_of_eq (column-is c).1) (parts-most c.args.at.x s.left x n.left _ s.cell refl)

pub returns-in_err-column : goal.returns-in_err-column
unfolding fall_of is_inside
returns-in_err-column c = c.from_residual.ensures ∙ rw (part-none _ _ (sym (x-part (goal.at.returns-in_err-column c).After-cell_at) ∙ c.in_err-column.was))

pub returns-in_err-row : goal.returns-in_err-row
unfolding fall_of is_inside
returns-in_err-row c =
    c.from_residual-in_err-row.ensures
    ∙ rw (
      (column-is (goal.at.returns-in_err-row c).In_ok-column).0,
      part-none _ _ (sym (y-part (goal.at.returns-in_err-row c).After-cell_at-2) ∙ c.in_err-row.was),
    )

pub overflow_mul-result : goal.overflow_mul-result
overflow_mul-result c = record { fits = omega (arith, row-most (goal.at.overflow_mul-result c).In_ok-row) }

pub overflow_add-result : goal.overflow_add-result
overflow_add-result c = record { fits = omega (arith, row-most (goal.at.overflow_add-result c).In_ok-row, column-most (goal.at.overflow_add-result c).In_ok-column) }

pub returns : goal.returns
unfolding fall_of is_inside
returns c =
    let column = column-is (goal.at.returns c).In_ok-column in
    let row = row-is (goal.at.returns c).In_ok-row in
    rw (column.0, row.0) (ap (λ (n : ℕ). Some n) (number _ _ _ _ _ (columns-are (goal.at.returns c).In_ok-row) column.1 row.1))
