-- `pictures::place_on_side` meets its contract: the clamped coordinate lies on the side, so its whole part fits, and each part is the definition's. Assumes nothing.
use Rattle.std.proofs.Common.{◌≡◌, ◌-◌, ◌≤◌, ◌∙◌, le_trans, arith, lit≤}
use lib.Ieee.{of_bits}
use Rattle.options.specs.Limits.{side_most}
use Rattle.options.proofs.Sides.{SideFits, side-fits}
use Rattle.numbers.specs.Operators.{◌⊖◌, float}
use Rattle.pictures.specs.Bilinear.{one, plus_zero, clamped, place_of}
use Rattle.pictures.proofs.Values.{Upto}
use Rattle.pictures.proofs.Places.{counted, in-order, clamp-is, side-upto, upto-low, upto-high, whole_part}
use Rattle.pictures.proofs.place_on_side.Goals.{After-clamp-along, After-truncating_f64_to_u64-first, Start}
use Rattle.pictures.proofs.place_on_side.Goals as goal

-- the side is in its range
sized : (c : Start) → SideFits c.args.n
sized c = side-fits c.args.n c.requires.side

pub clamp-along-requires : goal.clamp-along-requires
unfolding of_bits
clamp-along-requires c = in-order c.args.n (sized (goal.at.clamp-along-requires c).Start)

-- the clamped coordinate, as the definition has it
clamped-is : (c : After-clamp-along) → c.clamp-along.result ≡ clamped c.args.t plus_zero (float c.args.n ⊖ one)
unfolding of_bits
clamped-is c = c.clamp-along.ensures.value ∙ clamp-is c.args.n (sized (goal.at.After-clamp-along c).Start) c.args.t

within : (c : After-clamp-along) → Upto c.clamp-along.result (c.args.n - 1) 1
within c = rw (clamped-is c) (side-upto _ _ (sized (goal.at.After-clamp-along c).Start) c.requires.number)

-- its whole part is a pixel's
whole-part-in : (c : After-truncating_f64_to_u64-first) → c.truncating_f64_to_u64-first.result ≤ c.args.n - 1
whole-part-in c =
    let a = (goal.at.After-truncating_f64_to_u64-first c).After-clamp-along in
    rw c.truncating_f64_to_u64-first.ensures (whole_part (c.args.n - 1) _ (omega (arith, (sized (goal.at.After-clamp-along a).Start).most)) (within a))

pub truncating_f64_to_u64-first-requires : goal.truncating_f64_to_u64-first-requires
truncating_f64_to_u64-first-requires c =
    let s = sized (goal.at.truncating_f64_to_u64-first-requires c).Start in
    record { lower_bound = upto-low _ _ (within c); upper_bound = upto-high (c.args.n - 1) _ (omega (arith, s.most)) (within c) }

-- and a small number
small : (c : After-truncating_f64_to_u64-first) → c.truncating_f64_to_u64-first.result ≤ side_most
small c = omega (arith, whole-part-in c, (sized (goal.at.After-truncating_f64_to_u64-first c).Start).most)

pub overflow_add-first : goal.overflow_add-first
overflow_add-first c = record { fits = omega (arith, small c) }

pub int_to_float-result : goal.int_to_float-result
int_to_float-result c = counted _ (le_trans (small (goal.at.int_to_float-result c).After-truncating_f64_to_u64-first) (lit≤ tt))

pub returns-clause-place : goal.returns-clause-place
unfolding place_of
returns-clause-place c = rw (c.min.ensures, c.truncating_f64_to_u64-first.ensures, clamped-is (goal.at.returns-clause-place c).After-clamp-along)

pub returns-clause-inside : goal.returns-clause-inside
returns-clause-inside c =
    let a = (goal.at.returns-clause-inside c).After-truncating_f64_to_u64-first in
    let s = sized (goal.at.After-truncating_f64_to_u64-first a).Start in
    (omega (arith, s.least, whole-part-in a), omega (arith, s.least, c.min.ensures))
