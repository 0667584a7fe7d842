-- `Match::turn_direction` meets its contract: in block mode the right volume is read turned, along paths its costs are. Assumes nothing.
use mathlib.Core.Path.{sym, ap, ◌∙◌, subst}
use mathlib.Core.List.{List}
use lib.Ieee.{Float}
use Rattle.options.specs.Options.{uses_paths}
use Rattle.options.specs.declared.Side.TheVariants.{Right}
use Rattle.matching.specs.Inner.{VolumeRanged}
use Rattle.matching.proofs.Turns.{sized, volume-ranged, room-is, left-volume}
use Rattle.matching.proofs.Match.turn_direction.Goals as goal

-- In block mode no paths are used, and the room is one volume.
pub choose_block-requires : goal.choose_block-requires
choose_block-requires c =
    let t = c.requires.turning in
    let off = ap uses_paths c.in-Block.is in
    let long = c.requires.cells ∙ rw off in
    (sized t.fits, subst (λ (l : List Float). VolumeRanged c.args.self.pictures.w c.args.self.pictures.h c.args.self.opts l) (sym (room-is t.kept off long)) (volume-ranged t.fits t.kept.first t.kept.second Right))

pub returns-in-Block : goal.returns-in-Block
returns-in-Block c = λ left right k.
    let off = ap uses_paths c.in-Block.is in
    let long = c.requires.cells ∙ rw off in
    c.choose_block.ensures ∙ rw (c.in-Block.is, room-is k off long, left-volume k)
