-- `texts::Pen::put_decimal` meets its contract.
use Rattle.texts.specs.Digits.{decimal_text}
use Rattle.texts.proofs.Pen.put_decimal.Goals as goal

pub returns : goal.returns
unfolding decimal_text
returns c = rw (← c.places.ensures) c.put_digits.ensures
