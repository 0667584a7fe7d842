-- `Check::target_column` meets its contract: the inner frame, then the column in 64 bits, and its own test. Assumes nothing.
use mathlib.Core.Path.{◌≡◌, sym, ap, ◌∙◌}
use mathlib.Core.Bool.{true}
use lib.IntN.{ℤ, pos, nat_abs, ◌+ℤ◌}
use Rattle.std.specs.Bool.{then_some}
use mir.Syntax.{w64}
use mir.Val.{to_z, of_z}
use Rattle.options.specs.Frame.{is_in_frame}
use Rattle.vendor.specs.Tests.{shift_at, column_in, target_of}
use Rattle.vendor.proofs.Targets.{column-left, column-is, off-frame, on-frame, column-back}
use Rattle.vendor.proofs.Check.target_column.Goals.{After-shift_at, Else-not-is_inner}
use Rattle.vendor.proofs.Check.target_column.Goals as goal

-- the pixel lies in the inner frame
framed : (c : Else-not-is_inner) → let z = c.args in is_in_frame z.self.frame.w z.self.frame.h z.self.frame.r z.x z.y ≡ true
framed c = sym c.is_inner.ensures ∙ c.if-not-is_inner.false

-- the column as it was worked out, and what it is
abbrev column : After-shift_at → ℤ
column c = to_z w64 (of_z w64 (to_z w64 c.args.x +ℤ to_z w64 (of_z w64 c.shift_at.result)))

back : (c : After-shift_at) → column c ≡ pos c.args.x +ℤ shift_at c.args.self c.args.k
back c = column-back c.args.self c.requires.0 c.args.k c.requires.2 c.args.x c.requires.1 _ c.shift_at.ensures

-- the target column is the one that is found there
found : (c : After-shift_at) → column_in c.args.self.frame.w c.args.self.frame.r (column c) ≡ target_of c.args.self c.args.x c.args.y c.args.k
found c =
    let z = c.args in
    ap (column_in z.self.frame.w z.self.frame.r) (back c) ∙ on-frame z.self z.x z.y z.k (framed (goal.at.After-shift_at c).Else-not-is_inner)

pub returns-then-not-is_inner : goal.returns-then-not-is_inner
returns-then-not-is_inner c = off-frame _ _ _ _ (sym c.is_inner.ensures ∙ c.if-not-is_inner.true)

pub returns-then-column-lt0 : goal.returns-then-column-lt0
returns-then-column-lt0 c = column-left _ _ (column (goal.at.returns-then-column-lt0 c).After-shift_at) c.if-column-lt0.true ∙ found (goal.at.returns-then-column-lt0 c).After-shift_at

pub returns : goal.returns
returns c =
    c.then_some.ensures
    ∙ ap (λ t. then_some t (nat_abs (column (goal.at.returns c).After-shift_at))) c.is_within.ensures
    ∙ column-is _ _ (column (goal.at.returns c).After-shift_at) c.if-column-lt0.false
    ∙ found (goal.at.returns c).After-shift_at
