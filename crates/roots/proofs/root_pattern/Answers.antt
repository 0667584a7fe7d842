-- `roots::root_pattern` meets its contract: a root is no NaN. Assumes nothing.
use Rattle.std.proofs.Common.{◌^◌, ◌≤◌, false, not, rules, sym, subst}
use lib.Dec.{T}
use lib.Ieee.{Float, is_nan}
use Rattle.numbers.specs.Root.{root_of, places}
use Rattle.numbers.proofs.Patterns.{no_nan}
use Rattle.numbers.proofs.Rooted.{digits, root-value}
use Rattle.roots.proofs.root_pattern.Goals as goal

pub float_to_bits-result : goal.float_to_bits-result
float_to_bits-result c =
    let n = c.args.n in
    let least : 1 ≤ n = search rules in
    let most : n ≤ 2 ^ 53 = search rules in
    subst (λ (x : Float). T (not (is_nan x))) (sym c.root.ensures) (no_nan (root_of n) false (digits n) (2 ^ places n) (root-value n least most))
