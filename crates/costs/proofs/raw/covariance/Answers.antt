-- `costs::raw::covariance` meets its contract: f64 counts the two products and their difference. Assumes nothing.
use Prim.Native.Nat.{◌*◌}
use native.Mathlib.Omega.{arith}
use Rattle.numbers.proofs.Whole.{whole-product, whole-difference}
use Rattle.costs.proofs.raw.covariance.Goals as goal

pub returns : goal.returns
returns c =
    rw (c.counted.ensures, c.counted-2.ensures, c.counted-3.ensures, c.counted-4.ensures, whole-product c.args.n c.args.products (omega (arith, c.requires)) (omega (arith, c.requires)), whole-product c.args.sum_a c.args.sum_b (omega (arith, c.requires)) (omega (arith, c.requires)))
    (whole-difference (c.args.n * c.args.products) (c.args.sum_a * c.args.sum_b) (omega (arith, c.requires.products)) (omega (arith, c.requires.levels)))
