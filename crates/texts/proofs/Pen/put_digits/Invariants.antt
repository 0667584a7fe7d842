-- `texts::Pen::put_digits` meets its contract: at each turn the digits that were taken stand behind the places of those that are left.
use Rattle.std.proofs.Common.{◌≡◌, ℕ, ◌+◌, List, ◌++◌, length}
use lib.Seq.{sets}
use Rattle.texts.specs.Digits.{digits}
use Rattle.texts.proofs.Pen.put_digits.Given as goal

abbrev pub invariant-loop-i : goal.invariant-loop-i
invariant-loop-i l = record {
  same_slice : l.self.out.ghost_name ≡ l.initial.self.out.ghost_name;
  same_place : l.self.at ≡ l.initial.self.at;
  long : length l.self.out.now ≡ length l.initial.self.out.now;
  stand : (t : List ℕ) × (digits l.base l.i l.rest ++ t ≡ digits l.base l.k l.n) × (l.self.out.now ≡ sets l.initial.self.out.now (l.initial.self.at + l.i) t);
}
