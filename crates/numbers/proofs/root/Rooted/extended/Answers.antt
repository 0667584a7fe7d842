-- `numbers::root::Rooted::extended` meets its contract, by the laws of proofs/Squares.antt on one more digit. Assumes nothing.
use Rattle.std.proofs.Common.{ℕ, ◌+◌, ◌*◌, ◌/◌, ◌%◌, ◌^◌, ◌<◌, ◌≤◌, le_trans, lt_of_lt_of_le, mod-lt, mul-le-mul, arith}
use Rattle.numbers.proofs.Squares.{digit-most, square-most, base-pos, kept, lowered}
use Rattle.numbers.proofs.root.Rooted.extended.Goals as goal

-- the products, each below a power of two that leaves room
record Sizes (s r h l b : ℕ) : Type 0 where
  rest-product : r * b ≤ 2 ^ 54
  over-product : (r * b + h) % (s * 2) * b ≤ 2 ^ 54
  root-product : s * b ≤ 2 ^ 53
  some-product : 0 < s * b
  digit-small : (r * b + h) / (s * 2) ≤ 2 ^ 26
  square-small : (r * b + h) / (s * 2) * ((r * b + h) / (s * 2)) ≤ s * b
  low_small : l < 2 ^ 26
  high_small : h < 2 ^ 26

sizes : (s r h l b : ℕ) → (b ≤ s) × (s < 2 * b) × (b ≤ 2 ^ 26) × (0 < b) × (r ≤ 2 * s) × (h < b) × (l < b) → Sizes s r h l b
sizes s r h l b p =
    let b-most : b ≤ 2 ^ 26 = p.2 in
    let r-most : r ≤ 2 ^ 28 = omega (arith, p.4, p.1) in
    let s-most : s ≤ 2 ^ 27 = omega (arith, p.1) in
    let twice : 0 < s * 2 = omega (arith, p.0, p.3) in
    let left-most : (r * b + h) % (s * 2) ≤ 2 ^ 28 = omega (arith, mod-lt (r * b + h) twice) in
    record {
      rest-product = mul-le-mul r-most b-most;
      over-product = mul-le-mul left-most b-most;
      root-product = mul-le-mul s-most b-most;
      some-product = base-pos s r h l b p.0 p.3 p.4 p.5 p.6;
      digit-small = le_trans (digit-most s r h l b p.0 p.3 p.4 p.5 p.6) b-most;
      square-small = square-most s r h l b p.0 p.3 p.4 p.5 p.6;
      low_small = lt_of_lt_of_le p.6 b-most;
      high_small = lt_of_lt_of_le p.5 b-most;
    }

pub overflow_mul-number : goal.overflow_mul-number
overflow_mul-number c = let z = sizes c.args.self.root c.args.self.rest c.args.high c.args.low c.args.base c.requires in omega arith

pub overflow_add-number : goal.overflow_add-number
overflow_add-number c = let z = sizes c.args.self.root c.args.self.rest c.args.high c.args.low c.args.base c.requires in omega arith

pub overflow_mul-over-2 : goal.overflow_mul-over-2
overflow_mul-over-2 c = let z = sizes c.args.self.root c.args.self.rest c.args.high c.args.low c.args.base c.requires in omega arith

pub overflow_add-over : goal.overflow_add-over
overflow_add-over c = let z = sizes c.args.self.root c.args.self.rest c.args.high c.args.low c.args.base c.requires in omega arith

pub overflow_mul-next : goal.overflow_mul-next
overflow_mul-next c = let z = sizes c.args.self.root c.args.self.rest c.args.high c.args.low c.args.base c.requires in omega arith

pub overflow_add-next : goal.overflow_add-next
overflow_add-next c = let z = sizes c.args.self.root c.args.self.rest c.args.high c.args.low c.args.base c.requires in omega arith

pub overflow_mul-square : goal.overflow_mul-square
overflow_mul-square c = let z = sizes c.args.self.root c.args.self.rest c.args.high c.args.low c.args.base c.requires in omega arith

pub overflow_sub-result-else-square-over : goal.overflow_sub-result-else-square-over
overflow_sub-result-else-square-over c = let z = sizes c.args.self.root c.args.self.rest c.args.high c.args.low c.args.base c.requires in omega arith

pub overflow_mul-result : goal.overflow_mul-result
overflow_mul-result c = let z = sizes c.args.self.root c.args.self.rest c.args.high c.args.low c.args.base c.requires in omega arith

pub overflow_sub-result-else-square-over-2 : goal.overflow_sub-result-else-square-over-2
overflow_sub-result-else-square-over-2 c = let z = sizes c.args.self.root c.args.self.rest c.args.high c.args.low c.args.base c.requires in omega arith

pub overflow_add-result : goal.overflow_add-result
overflow_add-result c = let z = sizes c.args.self.root c.args.self.rest c.args.high c.args.low c.args.base c.requires in omega arith

pub overflow_sub-result-else-square-over-3 : goal.overflow_sub-result-else-square-over-3
overflow_sub-result-else-square-over-3 c = let z = sizes c.args.self.root c.args.self.rest c.args.high c.args.low c.args.base c.requires in omega arith

pub returns-then-square-over : goal.returns-then-square-over
returns-then-square-over c =
    let p = c.requires in
    kept c.args.self.root c.args.self.rest c.args.high c.args.low c.args.base p.0 p.3 p.4 p.5 p.6 c.if-square-over.true

pub returns-else-square-over : goal.returns-else-square-over
returns-else-square-over c =
    let p = c.requires in
    lowered c.args.self.root c.args.self.rest c.args.high c.args.low c.args.base p.0 p.3 p.4 p.5 p.6 c.if-square-over.false
