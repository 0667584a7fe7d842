-- `replay::pattern` is safe: only a number's bits are taken. Assumes nothing.
use Rattle.numbers.proofs.Patterns.{is_number}
use Rattle.replay.proofs.pattern.Goals as goal

pub float_to_bits-result : goal.float_to_bits-result
float_to_bits-result c = is_number c.args.x c.if-x.false
