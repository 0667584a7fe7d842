-- `sheets::writing::put_cells` meets its contract: at each turn the bytes of the cells passed stand. Assumes nothing.
use Rattle.std.proofs.Common.{[], sym, refl, arith, length-append, rules}
use Rattle.lists.proofs.Stores.{wrote_then, wrote-length}
use Rattle.sheets.specs.Number.{number_bytes}
use Rattle.std.specs.Prelude.{◌≡◌, ℕ, Result, Ok, Err}
use Rattle.refusals.specs.declared.Refusal.{Refusal}
use Rattle.refusals.specs.Numbers.{number_of}
use Rattle.refusals.specs.Given.{given_back}
use Rattle.refusals.specs.Steps.{Or, refused}
use Rattle.refusals.proofs.Stepwise.{list-not-refused}
use Rattle.sheets.proofs.Writings.{passed_none, passed-all, passed-fits, passed-more, passed-refused}
use Rattle.sheets.proofs.writing.put_cells.Goals as goal

-- an answer that is no number is a refusal
no_code : (r : Result ℕ Refusal) → ((n : ℕ) → r ≡ Ok n → ⊥) → {o : Or ℕ} → given_back r ≡ o → (m : ℕ) × (o ≡ refused m)
no_code (Ok n) h e = absurd (h n refl)
no_code (Err d) h e = (number_of d, sym e)

pub loop-x-init : goal.loop-x-init
loop-x-init c = ([], passed_none _ _, record { bytes = refl; place = search rules })

pub put_number-next-requires : goal.put_number-next-requires
put_number-next-requires c =
    let p = c.loop-x.invariant in
    let more = passed-more _ _ _ _ p.1 _ c.loop-x-test.true (sym c.in-Ok.ensures.is) in
    let fits = passed-fits _ _ _ _ more c.requires.not_refused in
    record {
      n_bound = c.in-Ok.ensures.small;
      n_in_bounds = omega (arith, length-append p.0 (number_bytes c.in-Ok.code), wrote-length p.2);
    }

pub shape_of-out-in_default : goal.shape_of-out-in_default
shape_of-out-in_default c = wrote-length c.loop-x.invariant.2

pub returns-in_default : goal.returns-in_default
returns-in_default c =
    let coded = no_code c.code_of.result c.in_default.not-Ok c.code_of.ensures.is in
    let none = passed-refused _ _ _ _ c.loop-x.invariant.1 _ c.loop-x-test.true coded.1 in
    list-not-refused _ none c.requires.not_refused

pub loop-x-preserved : goal.loop-x-preserved
loop-x-preserved c =
    let p = c.loop-x.invariant in
    (_, passed-more _ _ _ _ p.1 _ c.loop-x-test.true (sym c.in-Ok.ensures.is), wrote_then p.2 c.put_number-next.ensures)

pub shape_of-out : goal.shape_of-out
shape_of-out c = wrote-length c.loop-x.invariant.2

pub returns : goal.returns
returns c =
    let p = c.loop-x.invariant in
    rw (passed-all _ _ _ _ p.1 c.loop-x-test.false) p.2
