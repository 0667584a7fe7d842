-- `choices::semi_global::Run::least` meets its contract: the rest of the walk goes on from the least so far. Assumes nothing.
use Rattle.std.proofs.Common.{◌≡◌, ℕ, ◌+◌, ◌<◌, ◌≤◌, List, length, get_or, drop, sym, refl, ◌∙◌, add-one, drop-cons}
use lib.Ieee.{Float, nan, div, of_bits}
use lib.ListN.{drop_of_length-le}
use Rattle.choices.specs.declared.semi_global.Least.{Least}
use Rattle.choices.specs.SemiGlobal.{lesser, least_of}
use Rattle.lists.specs.Lists.{walk}
use Rattle.choices.proofs.semi_global.Run.least.Goals as goal

-- one sum more
next : (sums : List Float) (k : ℕ) (s : Least) → k < length sums → walk lesser k s (drop k sums) ≡ walk lesser (k + 1) (lesser s k (get_or sums k nan)) (drop (k + 1) sums)
unfolding walk
next sums k s l = rw (add-one, drop-cons sums k nan)

-- no sum is left
end : (sums : List Float) (k : ℕ) (s : Least) → length sums ≤ k → walk lesser k s (drop k sums) ≡ s
unfolding walk
end sums k s l = rw drop_of_length-le

pub loop-k-init : goal.loop-k-init
unfolding least_of div of_bits
loop-k-init c = refl

pub loop-k-preserved : goal.loop-k-preserved
loop-k-preserved c = rw c.lesser_of-least.ensures (sym (next _ _ _ c.loop-k-test.true) ∙ c.loop-k.invariant)

pub returns : goal.returns
returns c = sym (end _ _ _ c.loop-k-test.false) ∙ c.loop-k.invariant
