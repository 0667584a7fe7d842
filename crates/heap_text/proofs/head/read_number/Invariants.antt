-- `heap_text::head::read_number` meets its contract: at each turn the bytes passed are digits that write the value.
use Rattle.std.proofs.Common.{◌≡◌, ◌<◌, ◌^◌, drop}
use Rattle.texts.specs.Digits.{all_digits, decimal_from}
use Rattle.heap_text.proofs.head.read_number.Given as goal

abbrev pub invariant-loop-b : goal.invariant-loop-b
invariant-loop-b l = record {
  small : l.value < 10 ^ l.b-index;
  digits : all_digits (drop l.b-index l.word) ≡ all_digits l.word;
  value : decimal_from l.value (drop l.b-index l.word) ≡ decimal_from 0 l.word;
}
