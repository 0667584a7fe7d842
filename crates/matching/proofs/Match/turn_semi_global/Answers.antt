-- `Match::turn_semi_global` meets its contract: the right picture's costs, turned, are the left one's. Assumes nothing.
use mathlib.Core.Path.{◌≡◌, sym, ap, ◌∙◌, subst}
use mathlib.Core.Bool.{true}
use mathlib.Core.List.{List}
use lib.Ieee.{Float}
use lib.ListN.{take}
use mir.Syntax.{w32}
use mir.Val.{to_z, of_z}
use mir.ValLaws.{to_z-of_z}
use Rattle.options.specs.Options.{uses_paths}
use Rattle.options.specs.declared.Side.TheVariants.{Left}
use Rattle.choices.specs.declared.subpixel.Search.{Search}
use Rattle.paths.specs.Bounds.{Bounded}
use Rattle.paths.specs.Cost.{turned_costs}
use Rattle.matching.specs.Maps.{count_of}
use Rattle.matching.specs.Inner.{cells_in}
use Rattle.matching.proofs.Turns.{bounded, left-costs, turned-done}
use borrow.Author.Rules.{rules}
use Rattle.matching.proofs.Match.turn_semi_global.Goals.{Start}
use Rattle.matching.proofs.Match.turn_semi_global.Goals as goal

-- the first disparity is read back from its bits
back : (z : Start) → to_z w32 (of_z w32 z.args.self.opts.min_disparity) ≡ z.args.self.opts.min_disparity
back z = to_z-of_z w32 z.args.self.opts.min_disparity (search (rules, z.well_formed))

-- along paths
paths : (z : Start) → uses_paths z.args.self.opts.mode ≡ true
paths z = rw z.requires.mode_value

pub aggregate_sgm-requires-clause-bounded : goal.aggregate_sgm-requires-clause-bounded
aggregate_sgm-requires-clause-bounded c =
    let z = (goal.at.aggregate_sgm-requires-clause-bounded c).Start in
    let p = c.args.self.pictures in
    let o = c.args.self.opts in
    let t = c.requires.turning_room.turning in
    let made : c.turn_costs.new.to ≡ turned_costs p.w p.h o.min_disparity (count_of o) (take (cells_in p.w p.h o) c.args.room.now) =
    rw (c.split_at_mut-sums.ensures.front, c.search_of-search.ensures, back z) at c.turn_costs.ensures in
    subst (λ (l : List Float). Bounded o.sgm_p1 o.sgm_p2 l) (sym (made ∙ left-costs t.kept (paths z) t.fits.volume.sizes.frame.r-most))
    (bounded t.fits t.fits.first t.fits.second Left (paths z))

pub returns : goal.returns
returns c = λ left right k.
    let z = (goal.at.returns c).Start in
    let s = c.search_of-search in
    let chosen = rw (c.aggregate_sgm.ensures, c.turn_costs.ensures, c.split_at_mut-sums.ensures.front) at c.select_sgm.ensures in
    turned-done k _ _ _ s.ensures (ap (λ (q : Search). to_z w32 (of_z w32 q.first)) s.ensures ∙ back z) (paths z) c.requires.turning_room.turning.fits.volume.sizes.frame.r-most chosen
    ∙ rw c.requires.mode_value
