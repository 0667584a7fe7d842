-- Lists that are made from a rule: what a loop over an index needs of them. Assumes nothing.
use Prim.Native.Nat.{ℕ, zero, suc, ◌+◌, ◌-◌, ◌<◌, ◌≤◌}
use mathlib.Core.Path.{◌≡◌, refl, sym, ap, ap₂, ◌∙◌}
use mathlib.Core.List.{List, [], ◌∷◌, ◌++◌, map, append-nil, append_assoc}
use native.Mathlib.Nat.{not-suc-le-zero, le_of_suc-le-suc, zero-add, suc-add, zero-lt-suc}
use native.Mathlib.Numerals.{add-one}
use native.Mathlib.Omega.{arith}
use borrow.Rule.Slice.PartMut.{put_mid}
use lib.ListN.{length, get_or, set, drop, replicate, drop_of_length-le}
use lib.Seq.{get_or-append-add, get_or-drop, take_at, drop_at, drop-drop}
use Rattle.lists.specs.Lists.{list_of}

module _ {A : Type 0} where
  pub list_of-length : (n : ℕ) (g : ℕ → A) → length (list_of n g) ≡ n
  unfolding list_of
  list_of-length zero g = refl
  list_of-length (suc n) g = ap suc (list_of-length n (λ k. g (suc k)))

  pub list_of-at : (n : ℕ) (g : ℕ → A) (k : ℕ) (d : A) → k < n → get_or (list_of n g) k d ≡ g k
  unfolding list_of
  list_of-at zero g k d h = absurd (not-suc-le-zero h)
  list_of-at (suc n) g zero d h = refl
  list_of-at (suc n) g (suc k) d h = list_of-at n (λ j. g (suc j)) k d (le_of_suc-le-suc h)

  -- equal on the numbers below n
  pub list_of-same : (n : ℕ) (f g : ℕ → A) → ((i : ℕ) → i < n → f i ≡ g i) → list_of n f ≡ list_of n g
  unfolding list_of
  list_of-same zero f g h = refl
  list_of-same (suc n) f g h = ap₂ (λ v l. v ∷ l) (h 0 (zero-lt-suc n)) (list_of-same n (λ k. f (suc k)) (λ k. g (suc k)) (λ i l. h (suc i) (omega arith)))

  pub list_of-split : (n m : ℕ) (g : ℕ → A) → list_of (n + m) g ≡ list_of n g ++ list_of m (λ i. g (n + i))
  unfolding list_of
  list_of-split zero m g = rw zero-add (list_of-same m g (λ i. g (0 + i)) (λ i _. ap g (sym (zero-add i))))
  list_of-split (suc n) m g =
      rw (suc-add n m)
      (ap (λ l. g 0 ∷ l)
      (list_of-split n m (λ k. g (suc k)) ∙ ap (λ l. list_of n (λ k. g (suc k)) ++ l) (list_of-same m _ _ (λ i _. ap g (sym (suc-add n i))))))

  -- n times the same
  pub list_of-const : (n : ℕ) (a : A) → list_of n (λ _. a) ≡ replicate n a
  unfolding list_of
  list_of-const zero a = refl
  list_of-const (suc n) a = ap (λ l. a ∷ l) (list_of-const n a)

  -- one element more, at the end
  pub list_of-snoc : (n : ℕ) (g : ℕ → A) → list_of (suc n) g ≡ list_of n g ++ (g n ∷ [])
  unfolding list_of
  list_of-snoc zero g = refl
  list_of-snoc (suc n) g = ap (λ l. g 0 ∷ l) (list_of-snoc n (λ k. g (suc k)))

  filled-suc : (n : ℕ) (g : ℕ → A) (d : List A) → n < length d → set (list_of n g ++ drop n d) n (g n) ≡ list_of (suc n) g ++ drop (suc n) d
  unfolding list_of
  filled-suc n g [] h = absurd (not-suc-le-zero h)
  filled-suc zero g (x ∷ d) h = refl
  filled-suc (suc n) g (x ∷ d) h = ap (λ (t : List A). g 0 ∷ t) (filled-suc n (λ k. g (suc k)) d (le_of_suc-le-suc h))

  -- one turn of a loop that fills a slice from the front
  pub filled_next : (n : ℕ) (g : ℕ → A) (d : List A) (v : A) → n < length d → v ≡ g n → set (list_of n g ++ drop n d) n v ≡ list_of (n + 1) g ++ drop (n + 1) d
  filled_next n g d v h e = rw (e, add-one n) (filled-suc n g d h)

  -- what that loop has not reached is as it was
  pub filled-rest : (n : ℕ) (g : ℕ → A) (d : List A) (j : ℕ) (x : A) → n ≤ j → get_or (list_of n g ++ drop n d) j x ≡ get_or d j x
  filled-rest n g d j x l =
      let far : j ≡ length (list_of n g) + (j - n) = rw list_of-length (omega arith) in
      let back : n + (j - n) ≡ j = omega arith in
      ap (λ k. get_or (list_of n g ++ drop n d) k x) far
      ∙ get_or-append-add (list_of n g) (drop n d) (j - n) x
      ∙ get_or-drop n d (j - n) x
      ∙ ap (λ k. get_or d k x) back

  -- that loop's end
  pub filled-end : (n m : ℕ) (g : ℕ → A) (d : List A) → n ≡ m → length d ≡ m → list_of n g ++ drop n d ≡ list_of m g
  filled-end n m g d e l =
      let past : length d ≤ n = omega arith in
      rw (drop_of_length-le, append-nil, e)

  -- one turn of a loop that fills a slice from the front part by part: the part from k to e is put in its place
  pub part-next : (k e : ℕ) (g : ℕ → A) (d now part : List A) → k ≤ e → now ≡ list_of k g ++ drop k d → part ≡ list_of (e - k) (λ i. g (k + i))
      → put_mid k (e - k) now part ≡ list_of e g ++ drop e d
  part-next k e g d now part l is made =
      let end : k + (e - k) ≡ e = omega arith in
      let long : length (list_of k g) ≡ k = list_of-length k g in
      rw (is, made, take_at (list_of k g) (drop k d) k long, drop_at (list_of k g) (drop k d) k long, drop-drop (e - k) k d, end)
      (sym (append_assoc (list_of k g) (list_of (e - k) (λ i. g (k + i))) (drop e d))
      ∙ ap (λ l. l ++ drop e d) (sym (list_of-split k (e - k) g) ∙ ap (λ n. list_of n g) end))

-- a part that is put back where the part before it ended
pub put_next : {A : Type 0} (done room now part : List A) (k e : ℕ) → k ≤ e → length done ≡ k → now ≡ done ++ drop k room
    → put_mid k (e - k) now part ≡ done ++ part ++ drop e room
put_next done room now part k e l long is =
    let end : k + (e - k) ≡ e = omega arith in
    rw (is, take_at done (drop k room) k long, drop_at done (drop k room) k long, drop-drop (e - k) k room, end)
    (sym (append_assoc done part (drop e room)))

pub map-list_of : {A B : Type 0} (f : A → B) (n : ℕ) (g : ℕ → A) → map f (list_of n g) ≡ list_of n (λ k. f (g k))
unfolding list_of
map-list_of f zero g = refl
map-list_of f (suc n) g = ap (λ t. f (g 0) ∷ t) (map-list_of f n (λ k. g (suc k)))

-- what stands past the end does not count within a list
pub any-default : {A : Type 0} (xs : List A) (i : ℕ) (d e : A) → i < length xs → get_or xs i d ≡ get_or xs i e
any-default [] i d e h = absurd (not-suc-le-zero h)
any-default (x ∷ xs) zero d e h = refl
any-default (x ∷ xs) (suc i) d e h = any-default xs i d e (le_of_suc-le-suc h)

-- one value of a rule changed: it is put in its place
pub list_of-set : {A : Type 0} (n : ℕ) (f g : ℕ → A) (k : ℕ) → ((i : ℕ) → i < n → (i ≡ k → ⊥) → f i ≡ g i) → set (list_of n f) k (g k) ≡ list_of n g
unfolding list_of
list_of-set zero f g k h = refl
list_of-set (suc n) f g zero h = ap (λ l. g 0 ∷ l) (list_of-same n (λ i. f (suc i)) (λ i. g (suc i)) (λ i l. h (suc i) (omega arith) (λ e. omega arith)))
list_of-set (suc n) f g (suc k) h =
    ap₂ (λ v l. v ∷ l)
    (h 0 (zero-lt-suc n) (λ e. omega arith))
    (list_of-set n (λ i. f (suc i)) (λ i. g (suc i)) k (λ i l other. h (suc i) (omega arith) (λ e. other (omega arith))))
