-- `paths::direction::Walk::visit` meets its contract. Assumes nothing.
use Prim.Native.Nat.{◌+◌, ◌*◌, ◌≤◌}
use mathlib.Core.Path.{◌≡◌, ap, ◌∙◌}
use native.Mathlib.Omega.{arith}
use lib.ListN.{length}
use Rattle.paths.specs.Room.{put}
use Rattle.paths.specs.Walk.{slot_of, slot_path}
use Rattle.paths.proofs.Parts.{length_run}
use Rattle.paths.proofs.Visits.{cost-is, pixel_inside, pixels_few, pixel_end, read_runs, visit-step, visit-start, visit-sum}
use Rattle.paths.proofs.direction.Walk.visit.Goals.{Start, After-slot_of, In-Some, Joined-previous, in-Some, in-None}
use Rattle.paths.proofs.direction.Walk.visit.Goals as goal

-- the pixels, and how far the cells of this one reach, of its slot and of the slot that is read
inside : (s : Start) → let a = s.args in a.y * a.self.w + a.x + 1 ≤ length a.costs.now
inside s =
    let a = s.args in
    omega (arith, pixel_inside a.self a.x a.y s.requires.inside.0 s.requires.inside.1, pixels_few a.self a.x a.y s.requires.inside.0 s.requires.inside.1 s.requires.some, s.requires.lengths)

cells : (s : Start) → let a = s.args in (a.y * a.self.w + a.x) * a.self.count + a.self.count ≤ length a.costs.now
cells s = let a = s.args in omega (arith, pixel_end a.self a.x a.y s.requires.inside.0 s.requires.inside.1, s.requires.lengths)

pub overflow_mul-here : goal.overflow_mul-here
overflow_mul-here c = omega (arith, inside (goal.at.overflow_mul-here c).Start, c.well_formed)

pub overflow_add-here : goal.overflow_add-here
overflow_add-here c = omega (arith, inside (goal.at.overflow_add-here c).Start, c.well_formed)

pub previous-requires : goal.previous-requires
previous-requires c =
    let a = c.args in
    (c.requires.direction, c.requires.inside.0, c.requires.inside.1, omega (arith, pixels_few a.self a.x a.y c.requires.inside.0 c.requires.inside.1 c.requires.some, c.requires.lengths, c.well_formed))

pub path_step-requires-clause-runs : goal.path_step-requires-clause-runs
path_step-requires-clause-runs c =
    let a = c.args in
    read_runs a.self a.x a.y c.requires.inside.0 c.requires.inside.1 c.requires.direction c.in-Some.slot c.in-Some.ensures a.paths.now c.requires.lengths.1 c.slot_of.result _ c.slot_of.ensures
    (ap length (cost-is a.self a.x a.y c.requires.inside.0 c.requires.inside.1 a.costs.now) ∙ length_run a.self.count ((a.y * a.self.w + a.x) * a.self.count) a.costs.now (cells (goal.at.path_step-requires-clause-runs c).Start))

-- the path costs are in the slot
stored : (c : Joined-previous) → let a = c.args in
    let p = a.y * a.self.w + a.x in c.match-previous.paths ≡ put a.paths.now (slot_of a.self.w p * a.self.count) (slot_path a.self a.paths.now a.costs.now p)
stored c =
    let a = c.args in
    elim c.match-previous.branch [
      | in-Some w ↦
          visit-step a.self a.x a.y c.requires.inside.0 c.requires.inside.1 c.requires.direction w.in-Some.slot w.in-Some.ensures a.paths.now a.costs.now c.requires.lengths.0 c.slot_of.result c.slot_of.ensures
          c.match-previous.paths (w.paths-is ∙ w.path_step.ensures)
      | in-None w ↦
          visit-start a.self a.x a.y c.requires.inside.0 c.requires.inside.1 w.in-None.ensures a.paths.now a.costs.now c.requires.lengths.0 c.slot_of.result c.slot_of.ensures
          _ w.copy_cells.ensures c.match-previous.paths w.paths-is
    ]

pub returns-clause-sum : goal.returns-clause-sum
returns-clause-sum c =
    let a = c.args in
    visit-sum a.self a.x a.y c.requires.inside.0 c.requires.inside.1 a.paths.now a.costs.now a.sums.now c.match-previous.paths c.add_path.new.sums c.slot_of.result
    c.requires.lengths.1 c.requires.lengths.0 c.requires.lengths.2 c.slot_of.ensures (stored (goal.at.returns-clause-sum c).Joined-previous) c.add_path.ensures
