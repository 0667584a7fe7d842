-- Demand 3's hypotheses of small pictures, by a test of each pixel. Assumes nothing.
use Prim.Native.Nat.{ℕ, zero, suc, ◌*◌, ◌^◌, ◌≤◌, zero-le}
use mathlib.Core.Path.{◌≡◌, refl, sym, ap, ◌∙◌}
use mathlib.Core.Bool.{Bool, true, false, cond, ◌&&◌, true≢false}
use mathlib.Core.Logic.{inl, inr}
use mathlib.Core.List.{List, [], ◌∷◌}
use lib.Dec.{leb, eqb}
use lib.IntN.{ℤ, pos, negsuc, ◌+ℤ◌}
use borrow.Author.Tests.{leb-true, eqb-true, lt-leb, le-leb}
use Rattle.lists.specs.Lists.{all_below}
use Rattle.lists.specs.Rows.{level_at}
use Rattle.lists.proofs.Tests.{and_both, all_of}
use Rattle.matching.specs.Accepted.{Levels}
use Rattle.promises.specs.Changes.{Outside, Relevelled, OneLevel}

-- levels 0 to 255
unfoldable pub bytes : List ℕ → Bool
bytes [] = true
bytes (v ∷ l) = leb v 255 && bytes l

pub levels : (l : List ℕ) → bytes l ≡ true → Levels l
unfolding bytes
levels [] t i = zero-le
levels (v ∷ l) t zero = leb-true v 255 (and_both (leb v 255) (bytes l) t).0
levels (v ∷ l) t (suc i) = levels l (and_both (leb v 255) (bytes l) t).1 i

-- z is the number v
abbrev pub is : ℕ → ℤ → Bool
is v (pos n) = eqb v n
is v (negsuc n) = false

is_true : (v : ℕ) (z : ℤ) → is v z ≡ true → pos v ≡ z
is_true v (pos n) t = ap pos (eqb-true v n t)
is_true v (negsuc n) t = absurd (true≢false (sym t))

-- row y is one of rows p to q
abbrev pub among : ℕ → ℕ → ℕ → Bool
among p q y = leb p y && leb y q

and-false : (t : Bool) → t && false ≡ false
and-false true = refl
and-false false = refl

outside-is : (p q y : ℕ) → Outside p q y → among p q y ≡ false
outside-is p q y (inl l) = rw (lt-leb p y l)
outside-is p q y (inr l) = ap (λ t. leb p y && t) (lt-leb y q l) ∙ and-false (leb p y)

-- v becomes m·v + s at each pixel outside rows p to q
abbrev pub is_change : ℕ → ℕ → ℕ → ℕ → ℕ → ℤ → List ℕ → List ℕ → Bool
is_change w h p q j s first second =
    all_below h (λ y. cond (among p q y) true (all_below w (λ x. is (level_at w second x y) (pos (2 ^ j * level_at w first x y) +ℤ s))))

pub change : (w h p q j : ℕ) (s : ℤ) (first second : List ℕ) → j ≤ 7 → is_change w h p q j s first second ≡ true → Relevelled w h p q first second
change w h p q j s first second most t = record {
  j = j;
  m-most = most;
  s = s;
  levels = λ x y lx ly o.
      let row : all_below w (λ x. is (level_at w second x y) (pos (2 ^ j * level_at w first x y) +ℤ s)) ≡ true = rw (outside-is p q y o) at (all_of h _ t y ly) in
      is_true _ _ (all_of w _ row x lx);
}

-- each pixel of rows p to q has one level
abbrev pub is_one : ℕ → ℕ → ℕ → ℕ → ℕ → List ℕ → Bool
is_one w h p q level picture = all_below h (λ y. cond (among p q y) (all_below w (λ x. eqb (level_at w picture x y) level)) true)

pub one-level : (w h p q level : ℕ) (picture : List ℕ) → is_one w h p q level picture ≡ true → OneLevel w h p q picture
one-level w h p q level picture t = record {
  level = level;
  only = λ x y lx ly o.
      let row : all_below w (λ x. eqb (level_at w picture x y) level) ≡ true = rw (le-leb p y o.0, le-leb y q o.1) at (all_of h _ t y ly) in
      eqb-true _ _ (all_of w _ row x lx);
}
