-- `heap_print::answer_reading` meets its contract: what lies beyond 801 bytes of an input changes no answer.
use Rattle.std.proofs.Common.{take, rules, arith}
use Rattle.lists.proofs.Stores.{printed}
use Rattle.heap_print.proofs.Prefix.{answer-most, reading-answered}
use Rattle.heap_print.proofs.answer_reading.Goals as goal

pub returns : goal.returns
returns c =
    let a = c.args in
    let short = answer-most (take a.n a.read.now) in
    reading-answered a.read.now a.n (search (rules, c.well_formed)) (printed (omega arith) c.answer.ensures)
