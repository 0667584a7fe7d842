-- `numbers::first_roots::Firsts::first_digits` meets its contract: six digits add less than 64, and so the root is the table's number or one more. Assumes nothing.
use Rattle.std.proofs.Common.{ℕ, ◌+◌, ◌-◌, ◌*◌, ◌/◌, ◌^◌, ◌<◌, ◌≤◌, sym, subst, arith, rules}
use Rattle.numbers.specs.Root.{FirstRoot, RootWithRest}
use Rattle.numbers.proofs.Squares.{root-lt}
use Rattle.numbers.proofs.first_roots.Firsts.first_digits.Goals as goal

-- where the six digits that the table leaves out carry
one_more : (m r : ℕ) → 2 ^ 62 ≤ m → FirstRoot (m / 2 ^ 54) r → r * 2 < m / 2 ^ 48 - r * r → RootWithRest (m / 2 ^ 48) (r + 1) (m / 2 ^ 48 - r * r - (r * 2 + 1))
one_more m r top f over =
    let large : 128 < r + 1 = root-lt 128 (r + 1) (omega (arith, f.most)) in
    record { sum = omega (arith, f.fits); most = omega (arith, f.most) }

pub returns-then-twice-rest : goal.returns-then-twice-rest
returns-then-twice-rest c =
    let m = c.args.m in
    one_more m c.from-root.result c.requires (subst (λ (r : ℕ). FirstRoot (m / 2 ^ 54) r) (sym c.from-root.ensures) c.first_root.ensures) (search rules)
