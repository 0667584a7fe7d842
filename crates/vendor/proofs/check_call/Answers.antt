-- `vendor::check_call` meets its contract: rows 1 to 9, then the map's size, then the room. Assumes nothing.
use Rattle.std.proofs.Common.{rules, sym, arith}
use Rattle.calls.proofs.Rows.{sizes}
use Rattle.vendor.proofs.Outcomes.{by_pair, by_map}
use Rattle.vendor.proofs.check_call.Goals as goal

pub returns-in_err-check_pair : goal.returns-in_err-check_pair
returns-in_err-check_pair c = search (rules, by_pair)

pub check_map-requires : goal.check_map-requires
check_map-requires c = sizes c.args.call (sym c.in_ok-check_pair.ensures)

pub returns : goal.returns
returns c = grind (arith, by_map)
