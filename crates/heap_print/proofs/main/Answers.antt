-- `heap_print::main` is safe: what is written lies within the text. Assumes nothing.
use mathlib.Core.Path.{sym}
use borrow.Author.Rules.{rules}
use lib.Seq.{length-take-le}
use Rattle.heap_print.proofs.Prefix.{reading-within}
use Rattle.heap_print.proofs.main.Goals as goal

pub slice_bounds-out-end : goal.slice_bounds-out-end
slice_bounds-out-end c = reading-within _ _ (search rules) c.answer_reading-m.ensures

pub slice_bounds-write_all-end : goal.slice_bounds-write_all-end
slice_bounds-write_all-end c =
    sym (length-take-le c.answer_reading-m.result c.answer_reading-m.new.out (reading-within _ _ (search rules) c.answer_reading-m.ensures))
