-- `Match::solve_both` meets its contract. Assumes nothing.
use mathlib.Core.Path.{refl, ◌∙◌}
use lib.ListN.{length}
use Rattle.matching.specs.Inner.{RightKept}
use Rattle.matching.proofs.Fitting.{refit}
use Rattle.matching.proofs.Match.solve_both.Goals.{After-solve_direction}
use Rattle.matching.proofs.Match.solve_both.Goals as goal

-- what the right side leaves in the room
kept : (c : After-solve_direction) → RightKept c.args.self.pictures.left.now c.args.self.pictures.right.now c.args.self.pictures.w c.args.self.pictures.h c.args.self.opts c.solve_direction.new.room
kept c = record { first = c.requires.side_room.fits.first; second = c.requires.side_room.fits.second; held = c.solve_direction.ensures.kept }

pub turn_direction-requires : goal.turn_direction-requires
turn_direction-requires c =
    let d = c.solve_direction in
    record {
      turning = record {
        left = c.args.self.pictures.left.now;
        right = c.args.self.pictures.right.now;
        whole_length = length c.args.whole.now;
        fits = refit c.requires.side_room.fits d.auto.out refl;
        kept = kept (goal.at.turn_direction-requires c).After-solve_direction;
      };
      cells = d.auto.room ∙ c.requires.side_room.cells;
    }

pub returns-clause-made : goal.returns-clause-made
returns-clause-made c =
    c.left_right.ensures
    ∙ rw (c.turn_direction.ensures _ _ (kept (goal.at.returns-clause-made c).After-solve_direction), c.copy_cells.ensures, c.solve_direction.ensures.map)
