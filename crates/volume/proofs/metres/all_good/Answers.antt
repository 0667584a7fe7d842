-- `volume::metres::all_good` meets its contract. Assumes nothing.
use mathlib.Core.Path.{refl, ◌∙◌}
use mathlib.Core.Bool.{◌&&◌}
use Rattle.std.proofs.Common.{rules, tests}
use Rattle.std.specs.List.{list_all}
use Rattle.std.proofs.lemmas.Iterator.{YieldsList-from_slice}
use Rattle.std.proofs.lemmas.Iterator.Search.{all_from_yields_List}
use Rattle.std.proofs.lemmas.List.Recursion.{same_from_clauses}
use Rattle.volume.specs.Metres.{good_coordinate, all_good}
use Rattle.volume.proofs.metres.all_good.Goals as goal

pub returns : goal.returns
unfolding all_good
returns c =
    all_from_yields_List good_coordinate _ _ _ c.all.ensures.ran (YieldsList-from_slice c.args.xs.now cc) (λ x b q k. search (rules, tests))
    ∙ same_from_clauses (list_all good_coordinate) all_good (λ x t. good_coordinate x && t) refl (λ _ _. refl) (λ _ _. refl) c.args.xs.now
