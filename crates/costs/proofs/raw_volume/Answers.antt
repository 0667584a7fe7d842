-- `costs::raw_volume` meets its contract. Assumes nothing.
use mathlib.Core.Path.{◌≡◌, refl, sym, ap, ◌∙◌}
use lib.ListN.{length}
use Rattle.std.proofs.lemmas.Result.{err_from_is_err_and}
use Rattle.calls.specs.declared.Call.{Call}
use Rattle.calls.specs.Refusals.{refusal}
use Rattle.calls.proofs.Rows.{accepted}
use Rattle.costs.specs.Outcome.{raw_call}
use Rattle.costs.proofs.Outcomes.{sized, refused, made}
use Rattle.costs.proofs.raw_volume.Goals.{In_ok-check, Start}
use Rattle.costs.proofs.raw_volume.Goals as goal

abbrev call : Start → Call
call z = raw_call z.args.left.now z.args.left_w z.args.left_h z.args.right.now z.args.right_w z.args.right_h z.args.opts (length z.args.out.now) (length z.args.room.now)

-- past the test nothing is refused
fine : (c : In_ok-check) → 0 ≡ refusal (call (goal.at.In_ok-check c).Start)
fine c = c.in_ok-check.ensures ∙ ap refusal c.raw_call-call.ensures

pub returns-in_err-check : goal.returns-in_err-check
returns-in_err-check c =
    let p = err_from_is_err_and c.from_residual.result c.from_residual.ensures.1 in
    rw (p.1, p.2) (refused _ _ _ _ _ _ c.in_err-check.field-0.0 (c.in_err-check.ensures ∙ ap refusal c.raw_call-call.ensures))

pub volume_of-requires : goal.volume_of-requires
volume_of-requires c =
    let q = call (goal.at.volume_of-requires c).Start in
    let a = accepted q (sym (fine (goal.at.volume_of-requires c).In_ok-check)) in
    record { sizes = sized q a.sizes _ _ _ _ refl refl a.out-cells a.whole_cells; whole = a.sizes.whole }

pub returns : goal.returns
returns c =
    let v = c.volume_of in
    made _ _ _ _ _ v.new.out _ v.new.room (fine (goal.at.returns c).In_ok-check) v.ensures.0 v.ensures.1
