-- `sheets::writing::head_length` meets its contract. Assumes nothing.
use Rattle.std.proofs.Common.{arith}
use Rattle.sheets.specs.Limits.{version}
use Rattle.sheets.proofs.Writings.{number_small, head-sum, four-most}
use Rattle.sheets.proofs.writing.head_length.Goals as goal

pub number_length-requires-2 : goal.number_length-requires-2
number_length-requires-2 c = number_small c.args.kind _ c.from.ensures

pub overflow_add-result : goal.overflow_add-result
overflow_add-result c = let s = c.args in omega (arith, four-most version c.from.result s.width s.height)

pub overflow_add-result-2 : goal.overflow_add-result-2
overflow_add-result-2 c = let s = c.args in omega (arith, four-most version c.from.result s.width s.height)

pub overflow_add-result-3 : goal.overflow_add-result-3
overflow_add-result-3 c = let s = c.args in omega (arith, four-most version c.from.result s.width s.height)

pub returns : goal.returns
returns c = let s = c.args in omega (arith, head-sum s.kind _ c.from.ensures s.width s.height)
