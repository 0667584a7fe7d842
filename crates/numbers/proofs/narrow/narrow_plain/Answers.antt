-- `numbers::narrow::narrow_plain` meets its contract: proofs/Moderately.antt has what makes the size that it takes the right one. Assumes nothing.
use Rattle.std.proofs.Common.{◌≡◌, ℕ, ◌+◌, ◌^◌, ◌<◌, T, sym, subst, arith, rules}
use lib.Ieee.{binary32, binary64, fits, of_bits, to_bits}
use lib.Ieee.Bits.{to_bits-lt}
use Rattle.numbers.specs.Narrow.{narrowed}
use Rattle.numbers.proofs.Moderately.{Taken, taken-zero, taken-within, moderate-number}
use Rattle.numbers.proofs.Narrowing.{sign, sign-lt, narrowed-no-nan}
use Rattle.numbers.proofs.Patterns.{no-nan-bits}
use Rattle.numbers.proofs.narrow.narrow_plain.Goals.{After-rounded_off-normal, Joined-x, Start, then-x, else-x}
use Rattle.numbers.proofs.narrow.narrow_plain.Goals as goal

-- what owning an `f64` tells: the format holds it
held : (c : Start) → T (fits binary64 c.args.x)
held c = subst T (sym c.well_formed.0.1) tt

taken : (c : Joined-x) → Taken c.args.x c.if-x.size
unfolding of_bits
taken c =
    let start = c.before in
    elim c.if-x.branch [
      | then-x w ↦ rw w.size-is (taken-zero start.args.x (held start) w.if-x.true)
      | else-x w ↦ rw w.size-is (taken-within start.args.x (held start) start.requires w.if-x.false)
    ]

-- the pattern made, in two parts
abbrev sign_of : After-rounded_off-normal → ℕ
sign_of c = sign (to_bits binary64 c.args.x)

made-few : (c : After-rounded_off-normal) → sign_of c + c.rounded_off-normal.result < 2 ^ 32
made-few c =
    let start = c.before.before.before in
    rw c.rounded_off-normal.ensures (omega (arith, (taken c.before.before).few, sign-lt (to_bits binary64 start.args.x) (to_bits-lt binary64 start.args.x (held start))))

made-is : (c : After-rounded_off-normal) → of_bits binary32 (sign_of c + c.rounded_off-normal.result) ≡ narrowed c.args.x
made-is c = rw c.rounded_off-normal.ensures (taken c.before.before).read

pub float_to_bits-bits : goal.float_to_bits-bits
float_to_bits-bits c = moderate-number c.args.x c.requires

pub overflow_sub-size : goal.overflow_sub-size
overflow_sub-size c = (taken c.before.before).low

pub rounded_off-normal-requires : goal.rounded_off-normal-requires
rounded_off-normal-requires c = let h = (taken c.before.before).high in search rules

pub overflow_add-result : goal.overflow_add-result
overflow_add-result c = omega (arith, made-few c)

pub overflow_cast-result : goal.overflow_cast-result
overflow_cast-result c = omega (arith, made-few c)

pub float_from_bits-result : goal.float_from_bits-result
float_from_bits-result c =
    let x = c.args.x in
    no-nan-bits binary32 (sign_of c + c.rounded_off-normal.result) (narrowed x) (made-is c) (narrowed-no-nan x (moderate-number x c.requires))

pub returns : goal.returns
returns c = made-is c
