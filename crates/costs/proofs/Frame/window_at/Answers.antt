-- `Frame::window_at` meets its contract: where a window fits, its corners are still the tables', and its variance is below 2^53. Assumes nothing.
use Prim.Native.Nat.{◌*◌, ◌^◌, ◌<◌}
use mathlib.Core.Path.{ap, ◌∙◌}
use native.Mathlib.Omega.{arith}
use Rattle.costs.specs.Raw.{pixels}
use Rattle.costs.specs.Roots.{root_bits, sum_in, root_in}
use Rattle.costs.proofs.Turns.{no-column, no_row, levels-corners, squares-corners, squares-below, square-most, root_is, sum-cell}
use Rattle.costs.proofs.Frame.window_at.Goals.{After-window_sum-squares, then-w-column-via-then-w-column, then-w-column-via-else-w-column+then-h-row}
use Rattle.costs.proofs.Frame.window_at.Goals as goal

below : (c : After-window_sum-squares) → pixels c.args.self.r * c.window_sum-squares.result < 2 ^ 53
below c =
    squares-below _ _ _ _ _ c.if-w-column.false c.if-h-row.false _ c.requires.held _ _ c.window_sum-sum.ensures c.window_sum-squares.ensures
    c.requires.frame.r-most

pub returns-then-w-column : goal.returns-then-w-column
returns-then-w-column c = elim c.then-w-column.branch [
  | then-w-column-via-then-w-column s ↦ λ pic t. (no-column _ _ _ (sum_in _ _ pic) _ s.if-w-column.true, no-column _ _ _ (root_in _ _ pic) _ s.if-w-column.true)
  | then-w-column-via-else-w-column+then-h-row s ↦ λ pic t. (
    no_row _ _ _ (sum_in _ _ pic) _ s.if-w-column.false s.if-h-row.true,
    no_row _ _ _ (root_in _ _ pic) _ s.if-w-column.false s.if-h-row.true,
  )
]

pub window_sum-sum-requires : goal.window_sum-sum-requires
window_sum-sum-requires c = levels-corners _ _ _ _ _ c.if-w-column.false c.if-h-row.false _ c.requires.held

pub window_sum-squares-requires : goal.window_sum-squares-requires
window_sum-squares-requires c = squares-corners _ _ _ _ _ c.if-w-column.false c.if-h-row.false _ c.requires.held

pub variance-requires : goal.variance-requires
variance-requires c = (below c, square-most _ _ _ _ _ c.if-w-column.false c.if-h-row.false _ c.requires.held _ _ c.window_sum-sum.ensures c.window_sum-squares.ensures)

pub root_bits-requires : goal.root_bits-requires
root_bits-requires c = rw c.variance.ensures (omega (arith, below (goal.at.root_bits-requires c).After-window_sum-squares))

pub returns : goal.returns
returns c = λ pic t. (
  sum-cell _ _ _ _ _ c.if-w-column.false c.if-h-row.false pic t _ c.window_sum-sum.ensures,
  c.root_bits.ensures
      ∙ ap root_bits c.variance.ensures
      ∙ root_is _ _ _ _ _ c.if-w-column.false c.if-h-row.false pic t _ _ c.window_sum-sum.ensures c.window_sum-squares.ensures,
)
