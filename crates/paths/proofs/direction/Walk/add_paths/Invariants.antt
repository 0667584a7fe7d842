-- `paths::direction::Walk::add_paths` meets its contract: before the visit of turn i of line j the pixels of the turns before are done. Assumes nothing.
use Rattle.std.proofs.Common.{◌+◌, ◌*◌}
use Rattle.paths.proofs.Walks.{Visited}
use Rattle.paths.proofs.direction.Walk.add_paths.Given as goal

abbrev pub invariant-loop-j : goal.invariant-loop-j
invariant-loop-j l = Visited l.self l.costs l.fn.sums l.paths l.sums (l.j * l.self.w)

abbrev pub invariant-loop-i : goal.invariant-loop-i
invariant-loop-i l = Visited l.self l.costs l.fn.sums l.paths l.sums (l.j * l.self.w + l.i)
