-- The cells cover the rectangle: their areas add to its own. Assumes nothing.
use Prim.Native.Nat.{ℕ, ◌*◌, ◌/◌, ◌%◌}
use mathlib.Core.Path.{◌≡◌, ap₂, ◌∙◌}
use mathlib.Core.Bool.{true}
use native.Mathlib.Nat.{mul-mul-mul_comm, mod-add-div'}
use native.Mathlib.Omega.{arith}
use borrow.Author.Tests.{eqb-true}
use lib.Dec.{ltb, eqb}
use Rattle.lists.proofs.Tests.{and_both}
use Rattle.volume.specs.declared.site.Site.{Site}
use Rattle.volume.specs.Rectangle.{wide_of, long_of, columns_of, rows_of, cells_of, multiple, good_sides}

whole_cells : (n side : ℕ) → multiple n side ≡ true → n / side * side ≡ n
unfolding multiple
whole_cells n side e =
    let rest : n % side ≡ 0 = eqb-true (n % side) 0 (and_both (ltb 0 n) (eqb (n % side) 0) e).1 in
    omega (arith, mod-add-div' n side)

-- THEOREM: the cells' areas add to the rectangle's
pub area : (s : Site) → good_sides s ≡ true → cells_of s * (s.cell * s.cell) ≡ wide_of s * long_of s
unfolding good_sides
area s sides =
    let both = and_both (multiple (wide_of s) s.cell) (multiple (long_of s) s.cell) sides in
    mul-mul-mul_comm (columns_of s) (rows_of s) s.cell s.cell
    ∙ ap₂ (λ a b. a * b) (whole_cells (wide_of s) s.cell both.0) (whole_cells (long_of s) s.cell both.1)
