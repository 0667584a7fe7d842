-- `choices::semi_global::semi_cell` meets its contract: the test of the frame decides, and the part that is lent has the pixel's sums. Assumes nothing.
use Rattle.std.proofs.Common.{◌≡◌, ℕ, ◌+◌, ◌-◌, ◌*◌, ◌≤◌, List, length, take, drop, ◌∙◌, arith, length-drop, length-take-le, get_or-drop, get_or-take}
use lib.Ieee.{Float, nan}
use Rattle.lists.proofs.Lists.{list_of-same}
use Rattle.lists.proofs.Rows.{row_in}
use Rattle.choices.specs.SemiGlobal.{sums_of, semi_cell}
use Rattle.choices.proofs.Own.{list_of-own}
use Rattle.choices.proofs.semi_global.semi_cell.Goals as goal

run-is : (sums : List Float) (count p : ℕ) → p * count + count ≤ length sums → take (p * count + count - p * count) (drop (p * count) sums) ≡ sums_of sums count p
unfolding sums_of
run-is sums count p l =
    let long : p * count + count - p * count ≡ count = omega arith in
    rw long
    (list_of-own (take count (drop (p * count) sums)) count nan (length-take-le count _ (rw length-drop (omega arith)))
    ∙ list_of-same count _ _ (λ k m. get_or-take count (drop (p * count) sums) k nan m ∙ get_or-drop (p * count) sums k nan))

pub returns-then-is_inner : goal.returns-then-is_inner
unfolding semi_cell
returns-then-is_inner c =
    let a = c.args in
    rw (← c.is_inner.ensures, c.if-is_inner.true, c.choice.ensures, run-is a.sums.now a.search.count a.p (row_in _ _ _ _ c.requires.p_bound c.requires.count_in_bounds))
