-- `texts::Pen::put_digits` meets its contract: a turn puts one digit in front of those that stand.
use Rattle.std.proofs.Common.{◌≡◌, ℕ, ◌+◌, ◌-◌, ◌/◌, List, [], ◌∷◌, ◌++◌, sym, ap, ◌∙◌, append_assoc, add-zero, arith}
use lib.ListN.{set, length-set}
use lib.Seq.{sets}
use Rattle.texts.specs.Digits.{digits}
use Rattle.texts.proofs.Digits.{length_digits, digits_last}
use Rattle.lists.proofs.Stores.{fill_more}
use Rattle.texts.proofs.Pen.put_digits.Goals as goal

pub loop-i-preserved : goal.loop-i-preserved
loop-i-preserved c =
    let a = c.args in
    let l = c.loop-i in
    let v = l.invariant in
    let g = c.digit_byte.result in
    let t = v.stand.0 in record {
      same_slice = v.same_slice;
      same_place = v.same_place;
      long = simp length-set v.long;
      stand = (
        g ∷ t,
        sym (append_assoc (digits a.base (l.i - 1) (l.rest / a.base)) (g ∷ []) t)
            ∙ ap (λ (d : ℕ). digits a.base (l.i - 1) (l.rest / a.base) ++ (d ∷ []) ++ t) c.digit_byte.ensures
            ∙ ap (λ (d : List ℕ). d ++ t) (sym (digits_last a.base l.i l.rest c.loop-i-test.true))
            ∙ v.stand.1,
        ap (λ (m : List ℕ). set m (l.self.at + (l.i - 1)) g) v.stand.2
            ∙ ap (λ (k : ℕ). set (sets a.self.now.out.now (a.self.now.at + l.i) t) (k + (l.i - 1)) g) v.same_place
            ∙ fill_more a.self.now.out.now t a.self.now.at l.i g c.loop-i-test.true,
      );
    }

pub returns : goal.returns
returns c =
    let a = c.args in
    let l = c.loop-i in
    let v = l.invariant in
    let none : l.i ≡ 0 = omega arith in
    let all : v.stand.0 ≡ digits a.base a.k a.n = ap (λ (i : ℕ). digits a.base i l.rest ++ v.stand.0) (sym none) ∙ v.stand.1 in
    record {
      same_slice = v.same_slice;
      wrote = record {
        bytes = v.stand.2 ∙ ap (λ (i : ℕ). sets a.self.now.out.now (a.self.now.at + i) v.stand.0) none ∙ rw (add-zero, all);
        place = omega (arith, length_digits a.base a.k a.n);
      };
    }
