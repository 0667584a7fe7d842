-- `volume::site::Plan::cell_area` meets its contract. Assumes nothing.
use Prim.Native.Nat.{◌*◌, ◌≤◌}
use native.Mathlib.Nat.{mul-le-mul}
use native.Mathlib.Omega.{arith}
use Rattle.volume.proofs.Cells.{cell-most}
use Rattle.volume.proofs.site.Plan.cell_area.Goals as goal

pub overflow_mul-result : goal.overflow_mul-result
overflow_mul-result c =
    let s = c.args.self.site in
    let most = cell-most s c.args.self.fits.cell in
    let small : s.cell * s.cell ≤ 10000 * 10000 = mul-le-mul most most in
    record { fits = omega arith }
