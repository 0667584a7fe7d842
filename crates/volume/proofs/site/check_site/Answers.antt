-- `volume::site::check_site` meets its contract: the rows, one after the other. Assumes nothing.
use Prim.Native.Nat.{◌*◌}
use mathlib.Core.Path.{◌≡◌, refl, sym, ap₂, ◌∙◌}
use mathlib.Core.Bool.{true}
use native.Mathlib.Nat.{mul-le-mul}
use native.Mathlib.Omega.{arith}
use Rattle.refusals.specs.Answered.{first_of}
use Rattle.volume.specs.Rectangle.{good_cell, near_site, good_sides, multiple, wide_of, long_of, columns_of, rows_of, cells_of}
use Rattle.volume.proofs.Cells.{parts-most}
use Rattle.volume.proofs.Refusing.{none-refused}
use Rattle.volume.proofs.site.check_site.Goals.{After-cells, After-cells-2, After-is_whole, After-is_whole-else-not-is_whole}
use Rattle.volume.proofs.site.check_site.Goals as goal

-- ---- what the two directions tell

wide : (c : After-is_whole) → c.is_whole.result ≡ multiple (wide_of c.args.site) c.args.site.cell
wide c = rw (c.across-across.ensures.low, c.across-across.ensures.high, c.across-across.ensures.cell) at c.is_whole.ensures

long : (c : After-is_whole-else-not-is_whole) → c.is_whole-else-not-is_whole.result ≡ multiple (long_of c.args.site) c.args.site.cell
long c = rw (c.down-down.ensures.low, c.down-down.ensures.high, c.down-down.ensures.cell) at c.is_whole-else-not-is_whole.ensures

columns-are : (c : After-cells) → c.cells.result ≡ columns_of c.args.site
columns-are c = rw (c.across-across.ensures.low, c.across-across.ensures.high, c.across-across.ensures.cell) at c.cells.ensures

rows-are : (c : After-cells-2) → c.cells-2.result ≡ rows_of c.args.site
rows-are c = rw (c.down-down.ensures.low, c.down-down.ensures.high, c.down-down.ensures.cell) at c.cells-2.ensures

cells-are : (c : After-cells-2) → c.cells.result * c.cells-2.result ≡ cells_of c.args.site
cells-are c = ap₂ (λ a b. a * b) (columns-are (goal.at.After-cells-2 c).After-cells) (rows-are c)

-- every test but that of the number of cells has passed
tested : (c : After-cells-2) → (good_cell c.args.site ≡ true) × (near_site c.args.site ≡ true) × (good_sides c.args.site ≡ true)
unfolding good_sides
tested c =
    let first = sym (wide (goal.at.After-cells-2 c).After-is_whole) ∙ c.if-not-is_whole.false in
    let second = sym (long (goal.at.After-cells-2 c).After-is_whole-else-not-is_whole) ∙ c.if-not-is_whole-2.false in
    (sym c.has_good_cell.ensures ∙ c.if-not-has_good_cell.false, sym c.is_near.ensures ∙ c.if-not-is_near.false, rw (first, second))

pub returns-then-not-is_whole-clause-number : goal.returns-then-not-is_whole-clause-number
unfolding first_of good_sides
returns-then-not-is_whole-clause-number c =
    let first = wide (goal.at.returns-then-not-is_whole-clause-number c).After-is_whole in
    grind arith

pub overflow_mul-shape : goal.overflow_mul-shape
overflow_mul-shape c =
    let across = c.across-across.result in
    let down = c.down-down.result in
    let few = mul-le-mul (parts-most across.high across.low across.high_near across.low_near _ across.cell refl) (parts-most down.high down.low down.high_near down.low_near _ down.cell refl) in
    rw (c.cells.ensures, c.cells-2.ensures) record { fits = omega (arith, few) }

pub returns-then-shape-gt-CELLS_MOST-clause-number : goal.returns-then-shape-gt-CELLS_MOST-clause-number
unfolding first_of
returns-then-shape-gt-CELLS_MOST-clause-number c =
    let t = tested (goal.at.returns-then-shape-gt-CELLS_MOST-clause-number c).After-cells-2 in
    let cells = cells-are (goal.at.returns-then-shape-gt-CELLS_MOST-clause-number c).After-cells-2 in
    grind arith

pub invariant_of-result : goal.invariant_of-result
invariant_of-result c =
    let at = (goal.at.invariant_of-result c).After-cells-2 in
    let t = tested at in
    record {
      fits = record { cell = t.0; near = t.1; sides = t.2; few = omega (arith, cells-are at, c.if-shape-gt-CELLS_MOST.false) };
      shaped = rw (columns-are (goal.at.After-cells-2 at).After-cells, rows-are at);
    }

pub returns-clause-number : goal.returns-clause-number
returns-clause-number c =
    let at = (goal.at.returns-clause-number c).After-cells-2 in
    let t = tested at in
    none-refused c.args.good c.args.site c.if-not-good.false record { cell = t.0; near = t.1; sides = t.2; few = omega (arith, cells-are at, c.if-shape-gt-CELLS_MOST.false) }
