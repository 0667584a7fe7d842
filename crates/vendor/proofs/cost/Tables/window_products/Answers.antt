-- `Tables::window_products` meets its contract: after j turns `sum` is that of the windows' first j rows. Assumes nothing.
use Prim.Native.Nat.{ℕ, ◌+◌, ◌-◌, ◌*◌, ◌≤◌}
use mathlib.Core.Path.{◌≡◌, refl, ap, ◌∙◌}
use native.Mathlib.Nat.{le_antisymm}
use native.Mathlib.Omega.{arith}
use borrow.Author.Rules.{rules}
use Rattle.lists.specs.Sums.{sum_to}
use Rattle.windows.proofs.Parts.{sum-next}
use Rattle.windows.proofs.Tables.{Spots}
use Rattle.vendor.proofs.Products.{TwoWindows, row_sum, rows-sum, row-spots, row_made, row-most, rows-most}
use Rattle.vendor.proofs.cost.Tables.window_products.Goals.{After-row_products-sum, At-loop-j, In-loop-j, Start}
use Rattle.vendor.proofs.cost.Tables.window_products.Goals as goal

-- both windows lie within the pictures
two : (z : Start) →
    let t = z.args.self in
    TwoWindows t.left.now t.right.now t.check.frame.w t.check.frame.h t.check.frame.r z.args.x z.args.other z.args.y
two z =
    let t = z.args.self.stand in
    record { frame = t.sized.frame; a-bytes = t.first.bytes; b-bytes = t.second.bytes; first = z.requires.0; second = z.requires.1 }

-- the products of row j
abbrev row : Start → ℕ → ℕ
row z = let t = z.args.self in row_sum t.check.frame.w t.left.now t.right.now t.check.frame.r z.args.x z.args.other z.args.y

-- the row lies within the pictures
lies : (c : In-loop-j) → let t = c.args.self.check.frame in Spots t.w t.h (c.args.y - t.r + c.loop-j.j)
lies c = row-spots (two (goal.at.In-loop-j c).Start) c.loop-j.j c.loop-j-test.true

-- the sum so far is small, and so is that of the next row
sum-most : (c : At-loop-j) → c.loop-j.sum ≤ c.loop-j.j * (31 * 65025)
sum-most c =
    let t = c.args.self.stand in
    rw c.loop-j.invariant.1 (rows-most (two (goal.at.At-loop-j c).Start) t.first.small t.second.small c.loop-j.j)

next-most : (c : At-loop-j) → row (goal.at.At-loop-j c).Start c.loop-j.j ≤ 31 * 65025
next-most c =
    let t = c.args.self.stand in
    row-most (two (goal.at.At-loop-j c).Start) t.first.small t.second.small c.loop-j.j

-- what the row came to
row_is : (c : After-row_products-sum) → c.row_products-sum.result ≡ row (goal.at.After-row_products-sum c).Start c.loop-j.j
row_is c = row_made (two (goal.at.After-row_products-sum c).Start) _ c.loop-j-test.true _ c.row_products-sum.ensures

pub loop-j-init : goal.loop-j-init
unfolding sum_to
loop-j-init c = (search rules, refl)

pub slice_bounds-row_products-end : goal.slice_bounds-row_products-end
slice_bounds-row_products-end c = omega (arith, lies (goal.at.slice_bounds-row_products-end c).In-loop-j, c.requires.0, c.args.self.stand.first.bytes)

pub slice_bounds-row_products-end-in-loop-j : goal.slice_bounds-row_products-end-in-loop-j
slice_bounds-row_products-end-in-loop-j c = omega (arith, lies (goal.at.slice_bounds-row_products-end-in-loop-j c).In-loop-j, c.requires.1, c.args.self.stand.second.bytes)

pub overflow_add-sum : goal.overflow_add-sum
overflow_add-sum c = omega (arith, row_is (goal.at.overflow_add-sum c).After-row_products-sum, next-most (goal.at.overflow_add-sum c).At-loop-j, sum-most (goal.at.overflow_add-sum c).At-loop-j, c.loop-j.invariant.0, c.args.self.stand.sized.frame)

pub loop-j-preserved : goal.loop-j-preserved
loop-j-preserved c = (omega (arith, c.loop-j-test.true), sum-next _ _ _ _ c.loop-j.invariant.1 (row_is (goal.at.loop-j-preserved c).After-row_products-sum))

pub returns : goal.returns
returns c = λ s e.
    let z = (goal.at.returns c).Start in
    c.loop-j.invariant.1 ∙ ap (λ n. sum_to n (row z)) (le_antisymm c.loop-j.invariant.0 c.loop-j-test.false) ∙ rows-sum (two z) s e
