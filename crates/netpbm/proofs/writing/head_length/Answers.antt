-- `netpbm::writing::head_length` meets its contract. Assumes nothing.
use native.Mathlib.Omega.{arith}
use Rattle.texts.proofs.Digits.{places-most}
use Rattle.texts.proofs.Digits.{decimal-length}
use Rattle.netpbm.proofs.PfmWritings.{head_sum}
use Rattle.netpbm.proofs.writing.head_length.Goals as goal

pub overflow_add-result : goal.overflow_add-result
overflow_add-result c = let s = c.args in omega (arith, places-most s.width, places-most s.height)

pub overflow_add-result-2 : goal.overflow_add-result-2
overflow_add-result-2 c = let s = c.args in omega (arith, places-most s.width, places-most s.height)

pub returns : goal.returns
returns c = let s = c.args in omega (arith, head_sum s.width s.height, decimal-length s.width, decimal-length s.height)
