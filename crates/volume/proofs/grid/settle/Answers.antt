-- `volume::grid::settle` meets its contract. Assumes nothing.
use Prim.Native.Nat.{ℕ, ◌+◌, ◌-◌}
use mathlib.Core.Path.{◌≡◌, refl, sym, ap, ◌∙◌}
use native.Mathlib.Nat.{add-zero}
use native.Mathlib.Omega.{arith}
use borrow.Author.Tests.{eq-eqb, ne_eqb}
use lib.ListN.{get_or}
use Rattle.volume.proofs.Settling.{height_under, empty_at, settling-none, settling-at, settling-more, settling-small, settling-done}
use Rattle.volume.proofs.grid.settle.Goals.{then-cell-eq0, else-cell-eq0}
use Rattle.volume.proofs.grid.settle.Goals as goal

pub loop-cell-init : goal.loop-cell-init
loop-cell-init c = settling-none c.args.grid.now

pub overflow_add-empty : goal.overflow_add-empty
overflow_add-empty c =
    let small = settling-small _ c.requires.low c.requires.few _ _ _ _ c.loop-cell.invariant in
    record { fits = omega (arith, small.empties) }

pub overflow_add-height : goal.overflow_add-height
overflow_add-height c =
    let at = c.loop-cell.invariant in
    let small = settling-small _ c.requires.low c.requires.few _ _ _ _ at in
    record { fits = omega (arith, c.saturating_sub.ensures, settling-at _ _ _ _ _ at, small.heights) }

pub loop-cell-preserved : goal.loop-cell-preserved
loop-cell-preserved c =
    let at = c.loop-cell in
    let levels = c.args.grid.now in
    let level : get_or at.grid at.cell-index 0 ≡ get_or levels at.cell-index 0 = settling-at _ _ _ _ _ at.invariant in
    let under : c.saturating_sub.result ≡ height_under levels at.cell-index = c.saturating_sub.ensures ∙ ap (λ (v : ℕ). v - 1) level in
    let empties : c.if-cell-eq0.empty ≡ at.empty + empty_at levels at.cell-index =
    elim c.if-cell-eq0.branch [ then-cell-eq0 w ↦ rw (eq-eqb (get_or levels at.cell-index 0) 0 (sym level ∙ w.if-cell-eq0.true)) w.empty-is | else-cell-eq0 w ↦ rw (ne_eqb (get_or levels at.cell-index 0) 0 (λ e. w.if-cell-eq0.false (level ∙ e))) (w.empty-is ∙ sym (add-zero at.empty)) ] in
    rw empties (settling-more levels at.grid at.height at.empty at.cell-index _ _ at.invariant (omega arith) under refl)

pub returns-clause-heights : goal.returns-clause-heights
returns-clause-heights c = (settling-done _ _ _ _ _ c.loop-cell.invariant (omega arith)).1.1
