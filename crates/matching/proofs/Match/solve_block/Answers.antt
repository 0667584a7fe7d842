-- `Match::solve_block` meets its contract: the raw volume, which stays, and the choices by it. Assumes nothing.
use mathlib.Core.Path.{◌≡◌, sym, ap, ◌∙◌, subst}
use mathlib.Core.List.{List}
use native.Mathlib.Omega.{arith}
use lib.Ieee.{Float}
use lib.ListN.{length, take}
use lib.Seq.{take_all}
use Rattle.matching.specs.Inner.{cells_in, VolumeRanged}
use Rattle.matching.proofs.Lengths.{volume-length}
use Rattle.matching.proofs.Turns.{sized, volume-ranged}
use Rattle.matching.proofs.Match.solve_block.Goals.{Start}
use Rattle.matching.proofs.Match.solve_block.Goals as goal

-- in block mode a side's cells are one volume
one-volume : (z : Start) → length z.args.room.now ≡ cells_in z.args.self.pictures.w z.args.self.pictures.h z.args.self.opts
one-volume z = z.requires.side_room.cells ∙ rw z.requires.mode_value

pub volume_of-requires : goal.volume_of-requires
volume_of-requires c = rw (one-volume (goal.at.volume_of-requires c).Start) c.requires.side_room.fits.volume

pub choose_block-requires : goal.choose_block-requires
choose_block-requires c =
    let v = c.volume_of in
    (sized c.requires.side_room.fits, subst (λ (l : List Float). VolumeRanged c.args.self.pictures.w c.args.self.pictures.h c.args.self.opts l) (sym v.ensures.0) (volume-ranged c.requires.side_room.fits c.requires.side_room.fits.first c.requires.side_room.fits.second c.args.side))

pub returns : goal.returns
returns c =
    let v = c.volume_of in
    let n = cells_in c.args.self.pictures.w c.args.self.pictures.h c.args.self.opts in
    let long = volume-length c.args.self.pictures.w c.args.self.pictures.h c.args.self.opts c.args.side c.args.self.pictures.left.now c.args.self.pictures.right.now in
    record {
      map = c.choose_block.ensures ∙ rw (v.ensures.0, c.requires.mode_value);
      wholes = v.ensures.1;
      kept = ap (take n) v.ensures.0 ∙ take_all n _ (omega (arith, long)) ∙ rw c.requires.mode_value;
    }
