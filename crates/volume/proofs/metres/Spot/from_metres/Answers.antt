-- `volume::metres::Spot::from_metres` meets its contract. Assumes nothing.
use Rattle.volume.specs.Metres.{spot_of}
use Rattle.volume.proofs.Coordinates.{millimetres-back}
use Rattle.volume.proofs.metres.Spot.from_metres.Goals as goal

pub returns : goal.returns
unfolding spot_of
returns c =
    rw (c.to_millimetres.ensures, c.to_millimetres-2.ensures, c.to_millimetres-3.ensures, millimetres-back c.args.x, millimetres-back c.args.y, millimetres-back c.args.z)
