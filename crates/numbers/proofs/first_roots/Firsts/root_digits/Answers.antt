-- `numbers::first_roots::Firsts::root_digits` meets its contract. The loop's invariant is `Part` of proofs/Squares.antt. Assumes nothing.
use Rattle.std.proofs.Common.{◌≡◌, ℕ, ◌+◌, ◌*◌, ◌/◌, ◌%◌, ◌^◌, ◌<◌, sym, subst, lt_of_lt_of_le, le_antisymm, arith, pow_mono, rules}
use Rattle.numbers.specs.Root.{RootWithRest}
use Rattle.numbers.proofs.Squares.{Part, after-eight, turn-0, turn-1, whole_part}
use Rattle.numbers.proofs.first_roots.Firsts.root_digits.Goals.{In-loop-taken, then-root-rest, else-root-rest}
use Rattle.numbers.proofs.first_roots.Firsts.root_digits.Goals as goal

-- in a turn the root found so far has at most 52 digits
small : (c : In-loop-taken) → c.loop-taken.root < 2 ^ 52
small c = lt_of_lt_of_le c.loop-taken.invariant.1.2 (pow_mono {j = 52} (let h = c.loop-taken-test.true in let l = c.requires in omega arith))

-- `Part` of the values that a turn leaves
moved : (m left k : ℕ) {root rest root' rest' : ℕ} → root' ≡ root → rest' ≡ rest → Part m left root rest k → Part m left root' rest' k
moved m left k {root} {rest} {root'} {rest'} p q h = subst (λ (r : ℕ). Part m left r rest' k) (sym p) (subst (λ (e : ℕ). Part m left root e k) (sym q) h)

pub loop-taken-init : goal.loop-taken-init
loop-taken-init c =
    let first = c.first_digits-first.result in
    (search rules, after-eight c.args.m first.root first.rest c.ranges.m.fits c.first_digits-first.ensures)

pub overflow_mul-rest : goal.overflow_mul-rest
overflow_mul-rest c = omega (arith, small c)

pub overflow_add-rest : goal.overflow_add-rest
overflow_add-rest c = omega (arith, small c)

pub overflow_mul-root : goal.overflow_mul-root
overflow_mul-root c = omega (arith, small c)

pub overflow_mul-root-in-loop-taken : goal.overflow_mul-root-in-loop-taken
overflow_mul-root-in-loop-taken c = omega (arith, small c)

pub overflow_mul-rest-then-root-rest : goal.overflow_mul-rest-then-root-rest
overflow_mul-rest-then-root-rest c = omega (arith, small c.before)

pub overflow_add-rest-then-root-rest : goal.overflow_add-rest-then-root-rest
overflow_add-rest-then-root-rest c = omega (arith, small c.before)

pub overflow_sub-rest : goal.overflow_sub-rest
overflow_sub-rest c = let h = c.if-root-rest.true in omega arith

pub overflow_add-root : goal.overflow_add-root
overflow_add-root c = omega (arith, small c.before)

pub loop-taken-preserved : goal.loop-taken-preserved
loop-taken-preserved c =
    let at-loop = c.before.before in
    let m = at-loop.args.m in
    let v = at-loop.loop-taken in (
      let h = c.loop-taken-test.true in omega arith,
      elim c.if-root-rest.branch [
        | then-root-rest w ↦ moved m (v.left * 2 ^ 2 % 2 ^ 64) (v._taken + 1) w.root-is w.rest-is (turn-1 m v.left v.root v.rest v._taken v.invariant.1 w.if-root-rest.true)
        | else-root-rest w ↦ moved m (v.left * 2 ^ 2 % 2 ^ 64) (v._taken + 1) w.root-is w.rest-is (turn-0 m v.left v.root v.rest v._taken v.invariant.1 w.if-root-rest.false)
      ],
    )

-- the loop ends with all digits taken
pub returns : goal.returns
returns c =
    let v = c.loop-taken in
    let start = c.before.before.before in
    subst (λ (k : ℕ). RootWithRest (start.args.m * 4 ^ k / 2 ^ 64) v.root v.rest) (le_antisymm v.invariant.0 c.loop-taken-test.false) (whole_part start.args.m v.left v.root v.rest v._taken v.invariant.1)
