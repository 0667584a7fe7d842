-- `netpbm::header::past_blank` meets its contract. Assumes nothing.
use Rattle.std.proofs.Common.{sym, ◌∙◌}
use Rattle.netpbm.proofs.Headers.{past_other}
use Rattle.netpbm.proofs.header.past_blank.Goals as goal

pub returns : goal.returns
returns c = past_other c.in_ok-b.ensures.cases.0 (sym c.is_white.ensures ∙ c.if-is_white.false) c.if-b-eq35.false
