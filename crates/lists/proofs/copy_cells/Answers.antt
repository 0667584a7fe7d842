-- `lists::copy_cells` meets its contract. Assumes nothing.
use Rattle.std.proofs.Common.{◌≡◌, ◌++◌, ◌∷◌, [], sym, ap, ap₂, ◌∙◌, arith, add-one, length, take, take_all}
use Rattle.std.proofs.lemmas.List.{take_more_set}
use lib.Seq.{take-suc}
use Rattle.lists.proofs.copy_cells.Goals as goal

pub loop-i-preserved : goal.loop-i-preserved
loop-i-preserved g c =
    let l = c.loop-i in
    let y = c.index-from-i.result in
    take_more_set l.to l.i y (omega (arith, l.auto.to, c.loop-i-test.true))
    ∙ ap (λ t. t ++ (y ∷ [])) l.invariant
    ∙ ap (λ x. take l.i c.args.from.now ++ (x ∷ [])) c.index-from-i.is
    ∙ sym (rw add-one (take-suc c.args.from.now l.i y (omega (arith, c.requires, c.loop-i-test.true))))

pub returns : goal.returns
returns g c =
    let l = c.loop-i in
    sym (take_all l.i l.to (omega (arith, l.auto.to, c.loop-i-test.false)))
    ∙ l.invariant
    ∙ take_all l.i c.args.from.now (omega (arith, c.requires, c.loop-i-test.false))
