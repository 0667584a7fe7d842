-- `numbers::first_roots::Firsts::rounded_root` meets its contract: what each call gives is the root, with the rest, of the first 28 digits of m, of 54, and of all 64 with 42 zeros after them. Assumes nothing.
use Rattle.std.proofs.Common.{◌≡◌, ℕ, ◌+◌, ◌*◌, ◌/◌, ◌%◌, ◌^◌, ◌<◌, Bool, cond, leb, sym, ap, ◌∙◌, subst, arith, lit<, lit≤, le-leb}
use borrow.Author.Tests.{lt-leb}
use Rattle.numbers.specs.Root.{RootWithRest, nearest_root}
use Rattle.numbers.proofs.Squares.{root-least, root_below, nearest-is}
use Rattle.numbers.proofs.first_roots.Firsts.rounded_root.Goals.{After-extended-all, After-extended-half, After-root_digits-first}
use Rattle.numbers.proofs.first_roots.Firsts.rounded_root.Goals as goal

-- ---- the digits of m, put together

28-digits : (m : ℕ) → m * 4 ^ 14 / 2 ^ 64 ≡ m / 2 ^ 36
28-digits m = omega arith

54-digits : (m : ℕ) → m / 2 ^ 36 * (2 ^ 13 * 2 ^ 13) + m / 2 ^ 23 % 2 ^ 13 * 2 ^ 13 + m / 2 ^ 10 % 2 ^ 13 ≡ m / 2 ^ 10
54-digits m = omega arith

all_digits : (m : ℕ) → m / 2 ^ 10 * (2 ^ 26 * 2 ^ 26) + m % 2 ^ 10 * 2 ^ 16 * 2 ^ 26 + 0 ≡ m * 4 ^ 21
all_digits m = omega arith

-- ---- what each call gives

first-is : (c : After-root_digits-first) → RootWithRest (c.args.m / 2 ^ 36) c.root_digits-first.result.root c.root_digits-first.result.rest
first-is c = subst (λ (n : ℕ). RootWithRest n c.root_digits-first.result.root c.root_digits-first.result.rest) (28-digits c.args.m) c.root_digits-first.ensures

half_is : (c : After-extended-half) → RootWithRest (c.args.m / 2 ^ 10) c.extended-half.result.root c.extended-half.result.rest
half_is c =
    let m = c.args.m in
    subst (λ (n : ℕ). RootWithRest n c.extended-half.result.root c.extended-half.result.rest)
    (ap (λ (n : ℕ). n * (2 ^ 13 * 2 ^ 13) + m / 2 ^ 23 % 2 ^ 13 * 2 ^ 13 + m / 2 ^ 10 % 2 ^ 13) (first-is c.before).sum ∙ 54-digits m)
    c.extended-half.ensures

all-is : (c : After-extended-all) → RootWithRest (c.args.m * 4 ^ 21) c.extended-all.result.root c.extended-all.result.rest
all-is c =
    let m = c.args.m in
    subst (λ (n : ℕ). RootWithRest n c.extended-all.result.root c.extended-all.result.rest)
    (ap (λ (n : ℕ). n * (2 ^ 26 * 2 ^ 26) + m % 2 ^ 10 * 2 ^ 16 * 2 ^ 26 + 0) (half_is c.before).sum ∙ all_digits m)
    c.extended-all.ensures

-- the number is below 4 ^ 53, so its root is below 2 ^ 53, and `nearest-is` speaks of it
number_lt : (m : ℕ) → m < 2 ^ 64 → m * 4 ^ 21 < 4 ^ 53
number_lt m h = omega arith

all-below : (c : After-extended-all) → c.extended-all.result.root < 2 ^ 53
all-below c = root_below (2 ^ 53) (all-is c) (number_lt c.args.m c.ranges.m.fits)

nearest-by : (c : After-extended-all)
    → nearest_root (c.args.m * 4 ^ 21) ≡ cond (leb c.extended-all.result.rest c.extended-all.result.root) c.extended-all.result.root (c.extended-all.result.root + 1)
nearest-by c =
    let m = c.args.m in
    nearest-is (m * 4 ^ 21) c.extended-all.result.root c.extended-all.result.rest (number_lt m c.ranges.m.fits) (all-is c).sum (all-is c).most

-- ---- the needs
pub root_digits-first-requires : goal.root_digits-first-requires
root_digits-first-requires c = (c.requires, lit≤ tt, lit≤ tt)

pub extended-half-requires : goal.extended-half-requires
extended-half-requires c =
    let w = first-is c in (
      root-least (2 ^ 13) w (omega arith),
      root_below (2 ^ 14) w (omega arith),
      lit≤ tt,
      lit< tt,
      w.most,
      omega arith,
      omega arith,
    )

pub extended-all-requires : goal.extended-all-requires
extended-all-requires c =
    let w = half_is c in (
      root-least (2 ^ 26) w (omega arith),
      root_below (2 ^ 27) w (omega arith),
      lit≤ tt,
      lit< tt,
      w.most,
      omega arith,
      lit< tt,
    )

pub overflow_add-result : goal.overflow_add-result
overflow_add-result c = omega (arith, all-below c.before.before.before)

pub returns-then-all : goal.returns-then-all
returns-then-all c =
    let all = c.before.before.before in
    let r = all.extended-all.result.root in
    sym (nearest-by all ∙ ap (λ (b : Bool). cond b r (r + 1)) (lt-leb all.extended-all.result.rest r c.if-all.true))

pub returns-else-all : goal.returns-else-all
returns-else-all c =
    let all = c.before.before in
    let r = all.extended-all.result.root in
    sym (nearest-by all ∙ ap (λ (b : Bool). cond b r (r + 1)) (le-leb all.extended-all.result.rest r c.if-all.false))
