-- `sheets::number::read_number` meets its contract: at each turn the number is what the groups passed give, joined to what follows. Assumes nothing.
use Rattle.std.proofs.Common.{◌≡◌, cond, ◌+◌, ◌-◌, ◌*◌, ◌^◌, ◌<◌, ◌≤◌, sym, refl, ◌∙◌, arith}
use Rattle.refusals.specs.Steps.{is, refused}
use Rattle.sheets.specs.Number.{take_number}
use Rattle.sheets.proofs.Numbers.{read_none, read-cut, read_fits, read-last, read_next}
use Rattle.sheets.proofs.number.read_number.Goals.{Else-group-lt128, After-is_padding}
use Rattle.sheets.proofs.number.read_number.Goals as goal

pub loop-before-init : goal.loop-before-init
loop-before-init c = read_none c.args.s.now

pub returns-in_default : goal.returns-in_default
returns-in_default c = sym (read-cut c.loop-before.invariant c.in_default.ensures.cases)

-- a last group ends the number, or is a 0 behind others
last : (c : After-is_padding) → take_number c.args.s.now
    ≡ cond c.is_padding.result (refused 34) (is (record { number = c.loop-before.value + c.group_of-group.result * c.loop-before.unit; rest = c.in-Some.after.now }))
last c =
    let same = sym c.group_of-group.ensures.is in
    read-last c.loop-before.invariant c.loop-before-test.true c.in-Some.ensures.cases.0 (omega (arith, c.group_of-group.ensures.is, c.if-group-lt128.true)) ∙ rw (same, c.is_padding.ensures) refl

pub returns-then-is_padding : goal.returns-then-is_padding
returns-then-is_padding c = sym (last (goal.at.returns-then-is_padding c).After-is_padding ∙ rw c.if-is_padding.true refl)

pub overflow_mul-result : goal.overflow_mul-result
overflow_mul-result c = record { fits = omega (arith, read_fits c.loop-before.invariant c.loop-before-test.true _ c.if-group-lt128.true) }

pub overflow_add-result : goal.overflow_add-result
overflow_add-result c = record { fits = omega (arith, read_fits c.loop-before.invariant c.loop-before-test.true _ c.if-group-lt128.true) }

pub returns-then-group-lt128 : goal.returns-then-group-lt128
returns-then-group-lt128 c = sym (last (goal.at.returns-then-group-lt128 c).After-is_padding ∙ rw c.if-is_padding.false refl)

-- a group that others follow: what it adds fits, and so does the next unit
group-fits : (c : Else-group-lt128) → (c.loop-before.value + (c.group_of-group.result - 128) * c.loop-before.unit < 2 ^ 35) × (c.loop-before.unit * 128 ≤ 2 ^ 35)
group-fits c = read_fits c.loop-before.invariant c.loop-before-test.true _ (omega (arith, c.group_of-group.ensures.small))

pub overflow_mul-value : goal.overflow_mul-value
overflow_mul-value c = record { fits = omega (arith, group-fits c) }

pub overflow_add-value : goal.overflow_add-value
overflow_add-value c = record { fits = omega (arith, group-fits c) }

pub overflow_mul-unit : goal.overflow_mul-unit
overflow_mul-unit c = record { fits = omega (arith, group-fits c) }

pub loop-before-preserved : goal.loop-before-preserved
loop-before-preserved c =
    rw c.group_of-group.ensures.is
    (read_next c.loop-before.invariant c.loop-before-test.true c.in-Some.ensures.cases.0 (omega (arith, c.group_of-group.ensures.is, c.if-group-lt128.false))
    (omega (arith, c.group_of-group.ensures.is, c.group_of-group.ensures.small)))
