-- `netpbm::header::digits_long` meets its contract: the bytes before the first that is no digit. Assumes nothing.
use Rattle.std.proofs.Common.{◌≡◌, ◌+◌, ℕ, true, false, cond, Bool, List, [], ◌∷◌, length, refl, ◌∙◌, rules, tests}
use Rattle.std.proofs.lemmas.Iterator.{YieldsList-from_slice}
use Rattle.std.proofs.lemmas.Iterator.Consumers.{count_from_yields_List}
use Rattle.std.proofs.lemmas.Iterator.Search.{YieldsList-from_take_while}
use Rattle.std.proofs.lemmas.List.Folds.{length-prefix_len}
use Rattle.std.specs.List.{prefix_len}
use native.Mathlib.Omega.{arith}
use Rattle.texts.specs.Digits.{is_digit}
use Rattle.netpbm.specs.Header.{digits_of}
use Rattle.netpbm.proofs.header.digits_long.Goals as goal

-- std's count of them is the definition's
counted : (s : List ℕ) → prefix_len is_digit s ≡ length (digits_of s)
unfolding digits_of
counted [] = refl
counted (b ∷ s) = go (is_digit b) (counted s)
  where
    go : (t : Bool) → prefix_len is_digit s ≡ length (digits_of s) → cond t (1 + prefix_len is_digit s) 0 ≡ length (cond t (b ∷ digits_of s) [])
    go true e = omega (arith, e)
    go false e = refl

pub returns : goal.returns
returns c =
    count_from_yields_List c.take_while.result _ c.count.ensures.ran
    (YieldsList-from_take_while _ is_digit (YieldsList-from_slice c.args.s.now cc) c.take_while.ensures.closure c.take_while.ensures.done (λ x b q k. search (rules, tests)))
    ∙ length-prefix_len is_digit c.args.s.now
    ∙ counted c.args.s.now
