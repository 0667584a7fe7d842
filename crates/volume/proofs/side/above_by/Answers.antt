-- `volume::side::above_by` meets its contract: near numbers are read back from their bits. Assumes nothing.
use mathlib.Core.Path.{◌≡◌, ◌∙◌}
use native.Mathlib.Omega.{arith}
use lib.IntN.{pos, ◌-ℤ◌}
use mir.Syntax.{w64}
use mir.ValLaws.{to_z-of_z}
use Rattle.std.specs.Int.{int_max}
use Rattle.volume.specs.Rectangle.{above}
use Rattle.volume.proofs.Differences.{above-larger, difference-fits}
use Rattle.volume.proofs.Cells.{above_most}
use Rattle.volume.proofs.side.above_by.Goals as goal

pub returns : goal.returns
returns c =
    let a = c.args.a in
    let b = c.args.b in
    let back : c.max.result ≡ int_max (a -ℤ b) (pos 0) = rw (to_z-of_z w64 a c.ranges.a, to_z-of_z w64 b c.ranges.b, to_z-of_z w64 (a -ℤ b) (difference-fits a b c.requires.0 c.requires.1)) at c.max.ensures.value in
    let is : c.max.result ≡ pos (above a b) = back ∙ above-larger a b in
    rw (is, to_z-of_z w64 (pos (above a b)) record { sfits = omega (arith, above_most a b c.requires.0 c.requires.1) })
