-- `sheets::code::Kind::cell_of` meets its contract: 0 is the mark, and any other number is that of its kind. Assumes nothing.
use Rattle.std.proofs.Common.{◌≡◌, ℕ, suc, ◌-◌, arith}
use Rattle.sheets.specs.Code.{sheet_cell}
use Rattle.sheets.proofs.code.Kind.cell_of.Goals as goal

-- the code less 1 is what the callees are told
one-back : (n : ℕ) → (n ≡ 0 → ⊥) → suc (n - 1) ≡ n
one-back n h = omega arith

pub returns-then-code-eq0 : goal.returns-then-code-eq0
unfolding sheet_cell
returns-then-code-eq0 c = rw (c.if-code-eq0.true, c.from.ensures)

pub returns-in-Whole : goal.returns-in-Whole
returns-in-Whole c = rw c.in-Whole.is (rw (one-back c.args.code c.if-code-eq0.false) at c.whole_cell.ensures)

pub returns-in-Exact : goal.returns-in-Exact
returns-in-Exact c = rw c.in-Exact.is (rw (one-back c.args.code c.if-code-eq0.false) at c.exact_cell.ensures)
