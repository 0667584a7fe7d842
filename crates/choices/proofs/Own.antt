-- A list is made of its own cells. Assumes nothing.
use Rattle.std.proofs.Common.{◌≡◌, ℕ, List, length, get_or, sym, ◌∙◌, arith, ext_get_or}
use Rattle.lists.specs.Lists.{list_of}
use Rattle.lists.proofs.Lists.{list_of-length, list_of-at}

pub list_of-own : {A : Type 0} (l : List A) (n : ℕ) (d : A) → length l ≡ n → l ≡ list_of n (λ i. get_or l i d)
list_of-own l n d e = ext_get_or d l (list_of n (λ i. get_or l i d)) (e ∙ sym (list_of-length n _)) (λ i h. sym (list_of-at n (λ i. get_or l i d) i d (omega arith)))
