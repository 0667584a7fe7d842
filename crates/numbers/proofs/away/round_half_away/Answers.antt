-- `numbers::away::round_half_away` meets its contract: proofs/HalfAway.antt has the function by its tests. Assumes nothing.
use Rattle.std.proofs.Common.{◌≡◌, ◌+◌, ◌/◌, ◌^◌, ◌≤◌, T, arith, le→leb, rules}
use lib.Ieee.{binary32, fits, of_bits, in_float}
use Rattle.numbers.proofs.Plainly.{at_zero, above_zero}
use Rattle.numbers.proofs.HalfAway.{Halved, whole_of, halved, rounded-below, rounded-above, rounded-zero, rounded-large}
use Rattle.numbers.proofs.away.round_half_away.Goals.{After-truncating_f32_to_u64-halves, Start, Then-size}
use Rattle.numbers.proofs.away.round_half_away.Goals as goal

held : (c : Start) → T (fits binary32 c.args.x)
held c = search rules

-- what the test on the magnitude gives
parts : (c : Then-size) → Halved binary32 c.args.x c.magnitude-size.result
unfolding of_bits
parts c = halved binary32 c.args.x c.magnitude-size.result (held c.before.before) c.magnitude-size.ensures c.if-size.true

few : (c : After-truncating_f32_to_u64-halves) → c.truncating_f32_to_u64-halves.result + 1 ≤ 2 ^ 24
few c = rw c.truncating_f32_to_u64-halves.ensures (omega (arith, (parts c.before).few))

whole : (c : After-truncating_f32_to_u64-halves) → (c.truncating_f32_to_u64-halves.result + 1) / 2 ≡ whole_of c.args.x
whole c = rw c.truncating_f32_to_u64-halves.ensures (parts c.before).whole

pub truncating_f32_to_u64-halves-requires : goal.truncating_f32_to_u64-halves-requires
truncating_f32_to_u64-halves-requires c = record { lower_bound = (parts c).above; upper_bound = (parts c).below }

pub overflow_add-whole : goal.overflow_add-whole
overflow_add-whole c = omega (arith, few c)

pub int_to_float-whole : goal.int_to_float-whole
unfolding in_float
int_to_float-whole c = le→leb ((c.truncating_f32_to_u64-halves.result + 1) / 2) (2 ^ 24) (omega (arith, few c.before))

pub returns-then-x : goal.returns-then-x
unfolding of_bits
returns-then-x c =
    let made = c.before.before in
    let start = made.before.before.before in
    rw (whole made) (rounded-below binary32 start.args.x (parts made.before).number c.if-x.true)

pub returns-then-x-2 : goal.returns-then-x-2
unfolding of_bits
returns-then-x-2 c =
    let start = c.before.before.before.before.before.before in
    rounded-zero binary32 start.args.x (at_zero binary32 start.args.x (held start) c.if-x-2.true)

pub returns-then-size : goal.returns-then-size
unfolding of_bits
returns-then-size c =
    let made = c.before.before.before in
    let start = made.before.before.before in
    rw (whole made) (rounded-above binary32 start.args.x (parts made.before).number (above_zero start.args.x c.if-x.false c.if-x-2.false))

pub returns : goal.returns
unfolding of_bits
returns c =
    let start = c.before.before in
    rounded-large binary32 start.args.x (held start) (rw c.magnitude-size.ensures at c.if-size.false)
