-- `heap_text::plan::plan_of` meets its contract: the pictures' size and the line are small.
use Rattle.std.proofs.Common.{◌≡◌, ◌≤◌, ◌*◌, Some, sym, ◌∙◌, arith}
use native.Mathlib.Nat.{mul-le-mul}
use Rattle.heap_text.proofs.Heads.{start-near}
use Rattle.heap_text.proofs.plan.plan_of.Goals as goal

pub overflow_add-q : goal.overflow_add-q
overflow_add-q c =
    let q = c.in_ok-q.q in
    let read : c.read_head.result ≡ Some q = grind arith in
    let few : q.width * q.height ≤ 24 * 16 = mul-le-mul {n₂ = 24} {m₂ = 16} c.if-q-gt24.false c.if-q-gt16.false in
    omega (arith, (start-near c.args.input.now q (sym c.read_head.ensures ∙ read)).0)
