-- The same points in another order. Definitions only.
use Rattle.std.specs.Prelude.{List, ◌∷◌}

-- one list holds what the other holds, each as often
pub data Rearranged {A : Type 0} : List A → List A → Type 0 where
  same : (xs : List A) → Rearranged xs xs
  behind : (x : A) (xs ys : List A) → Rearranged xs ys → Rearranged (x ∷ xs) (x ∷ ys)
  exchanged : (x y : A) (xs : List A) → Rearranged (x ∷ y ∷ xs) (y ∷ x ∷ xs)
  further : (xs ys zs : List A) → Rearranged xs ys → Rearranged ys zs → Rearranged xs zs
