-- `volume::metres::to_millimetres` meets its contract. Assumes nothing.
use mathlib.Core.Path.{◌≡◌, sym, ap}
use lib.Ieee.{of_bits, to_signed}
use Rattle.volume.specs.Metres.{millimetres}
use Rattle.volume.proofs.Coordinates.{rounded-casts, rounded-none, millimetres-back}
use Rattle.volume.proofs.metres.to_millimetres.Goals as goal

pub returns-then-whole : goal.returns-then-whole
unfolding of_bits
returns-then-whole c =
    sym (rounded-none c.args.x c.requires (rw c.round_half_away_wide-whole.ensures at c.if-whole.true))

pub float_to_int-result : goal.float_to_int-result
unfolding of_bits
float_to_int-result c =
    rw c.round_half_away_wide-whole.ensures
    (rounded-casts c.args.x c.requires (rw c.round_half_away_wide-whole.ensures at c.if-whole.false))

pub returns-else-whole : goal.returns-else-whole
unfolding of_bits
returns-else-whole c =
    let x = c.args.x in
    let is : to_signed 63 c.round_half_away_wide-whole.result ≡ millimetres x = unfold millimetres in ap (to_signed 63) c.round_half_away_wide-whole.ensures in
    rw is (millimetres-back x)
