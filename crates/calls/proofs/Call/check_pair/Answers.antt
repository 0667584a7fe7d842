-- `Call::check_pair` meets its contract: the rows of the pictures, and then those of the search. Assumes nothing.
use Rattle.std.proofs.Common.{rules, arith}
use Rattle.calls.proofs.Rows.{pair_refused, pair_rest}
use Rattle.calls.proofs.Call.check_pair.Goals as goal

pub returns-in_err-check_pictures : goal.returns-in_err-check_pictures
returns-in_err-check_pictures c = search (rules, pair_refused)

pub returns : goal.returns
returns c = grind (arith, pair_rest)
