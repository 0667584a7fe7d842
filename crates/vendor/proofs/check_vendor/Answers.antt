-- `vendor::check_vendor` meets its contract. Assumes nothing.
use mathlib.Core.Path.{◌≡◌, sym, ap, ◌∙◌}
use lib.ListN.{length}
use Rattle.std.proofs.lemmas.Result.{err_from_is_err_and}
use Rattle.calls.specs.declared.Call.{Call}
use Rattle.vendor.specs.Outcome.{vendor_call, vendor_refusal}
use Rattle.vendor.proofs.Outcomes.{Taken, taken, lent, refusing, made}
use Rattle.vendor.proofs.check_vendor.Goals.{In_ok-check_call, Start}
use Rattle.vendor.proofs.check_vendor.Goals as goal

-- what is asked for and lent
abbrev call : Start → Call
call z = vendor_call z.args.left.now z.args.left_w z.args.left_h z.args.right.now z.args.right_w z.args.right_h z.args.opts (length z.args.room.now)

-- past the test nothing is refused
fine : (c : In_ok-check_call)
    → 0 ≡ vendor_refusal (call (goal.at.In_ok-check_call c).Start) c.args.map_w c.args.map_h (length c.args.map.now)
fine c = c.in_ok-check_call.ensures ∙ ap (λ q. vendor_refusal q c.args.map_w c.args.map_h (length c.args.map.now)) c.raw_call-call.ensures

-- what that leaves
left_over : (c : In_ok-check_call)
    → Taken (call (goal.at.In_ok-check_call c).Start) c.args.map_w c.args.map_h (length c.args.map.now)
left_over c = taken _ _ _ _ (sym (fine c))

pub returns-in_err-check_call : goal.returns-in_err-check_call
returns-in_err-check_call c =
    let p = err_from_is_err_and c.from_residual.result c.from_residual.ensures.1 in
    rw (p.1, p.2)
    (refusing _ _ _ _ _ _ _ _ c.in_err-check_call.field-0.0
    (c.in_err-check_call.ensures ∙ ap (λ q. vendor_refusal q c.args.map_w c.args.map_h (length c.args.map.now)) c.raw_call-call.ensures))

pub new-check-requires : goal.new-check-requires
new-check-requires c = let s = (left_over c).sizes in record { whole = s.whole; few = s.few }

pub verdict-requires : goal.verdict-requires
verdict-requires c =
    rw c.new-check.ensures
    (lent c.args.left.now c.args.left_w c.args.left_h c.args.right.now c.args.right_w c.args.right_h c.args.opts _ _ _ _ (left_over (goal.at.verdict-requires c).In_ok-check_call))

pub returns : goal.returns
returns c =
    let done = rw c.new-check.ensures at c.verdict.ensures in
    made _ _ _ _ _ _ _ _ _ _ (fine (goal.at.returns c).In_ok-check_call) done.0 done.1
