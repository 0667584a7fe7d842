-- `Match::solve_semi_global` meets its contract: the raw volume is the third, its matching costs the first, their path sums the second. Assumes nothing.
use Prim.Native.Nat.{◌*◌}
use mathlib.Core.Path.{◌≡◌, sym, subst}
use mathlib.Core.Bool.{true}
use mathlib.Core.List.{List}
use lib.Ieee.{Float}
use Rattle.options.specs.Options.{uses_paths}
use Rattle.paths.specs.Bounds.{Bounded}
use Rattle.paths.specs.Cost.{matching_costs}
use Rattle.matching.specs.Maps.{count_of, volume_of}
use Rattle.matching.proofs.Turns.{bounded}
use Rattle.matching.proofs.Match.solve_semi_global.Goals as goal

pub aggregate_sgm-requires-clause-bounded : goal.aggregate_sgm-requires-clause-bounded
aggregate_sgm-requires-clause-bounded c =
    let p = c.args.self.pictures in
    let o = c.args.self.opts in
    let f = c.requires.side_room.fits in
    let on : uses_paths o.mode ≡ true = rw c.requires.mode_value in
    let made : c.fill_costs.new.costs ≡ matching_costs (p.w * p.h) (count_of o) (volume_of p.w p.h o c.args.side p.left.now p.right.now) =
    rw (c.volume_of.ensures.0, c.search_of-search.ensures) at c.fill_costs.ensures in
    subst (λ (l : List Float). Bounded o.sgm_p1 o.sgm_p2 l) (sym made) (bounded f f.first f.second c.args.side on)
