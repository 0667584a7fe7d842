-- `Call::check` meets its contract: the groups of rows, one after the other. Assumes nothing.
use Rattle.std.proofs.Common.{rules, sym, arith}
use Rattle.calls.proofs.Rows.{sizes, by_pair, by_penalty, by_output, by_rooms}
use Rattle.calls.proofs.Call.check.Goals as goal

pub returns-in_err-check_pair : goal.returns-in_err-check_pair
returns-in_err-check_pair c = search (rules, by_pair)

pub returns-in_err-check_penalties : goal.returns-in_err-check_penalties
returns-in_err-check_penalties c = search (rules, by_penalty)

pub check_output-requires : goal.check_output-requires
check_output-requires c = sizes c.args.self (sym c.in_ok-check_pair.ensures)

pub returns-in_err-check_output : goal.returns-in_err-check_output
returns-in_err-check_output c = search (rules, by_output)

pub check_rooms-requires : goal.check_rooms-requires
check_rooms-requires c = sizes c.args.self (sym c.in_ok-check_pair.ensures)

pub returns : goal.returns
returns c = grind (arith, by_rooms)
