-- Runs of a list: read, and replaced. Assumes nothing.
use Prim.Native.Nat.{ℕ, ◌+◌, ◌-◌, ◌<◌, ◌≤◌}
use mathlib.Core.Path.{◌≡◌, refl, sym, ap, ◌∙◌}
use mathlib.Core.List.{List, ◌++◌, append_assoc}
use mathlib.Core.Logic.{◌⊎◌, ⊎_elim, inl, inr}
use native.Mathlib.Nat.{le_refl, add_assoc}
use native.Mathlib.Omega.{arith}
use lib.ListN.{length, get_or, take, drop, length-take, length-drop, get_or-append}
use lib.Seq.{paste, length-paste, length_paste_head, get_or-take, get_or-drop, get_or-append-add, take-length, length-take-le, ext_get_or, take-add, drop-drop, drop-paste, take-paste}
use lib.Ieee.{Float, nan}
use Rattle.lists.proofs.Tests.{lt-or-le}
use Rattle.paths.specs.Room.{run, put}

pub length_run : (n at : ℕ) (v : List Float) → at + n ≤ length v → length (run n at v) ≡ n
length_run n at v h = simp (length-take, length-drop) (omega arith)

pub get_d-run : (n at : ℕ) (v : List Float) (k : ℕ) (d : Float) → k < n → get_or (run n at v) k d ≡ get_or v (at + k) d
get_d-run n at v k d h = get_or-take n (drop at v) k d h ∙ get_or-drop at v k d

-- two runs of n cells are equal cell by cell
pub same-run : (n a b : ℕ) (u v : List Float) → a + n ≤ length u → b + n ≤ length v → ((k : ℕ) → k < n → get_or u (a + k) nan ≡ get_or v (b + k) nan)
    → run n a u ≡ run n b v
same-run n a b u v hu hv e =
    let lu = length_run n a u hu in
    ext_get_or nan (run n a u) (run n b v) (lu ∙ sym (length_run n b v hv))
    (λ k h. let hk : k < n = omega arith in get_d-run n a u k nan hk ∙ e k hk ∙ sym (get_d-run n b v k nan hk))

-- the cells from a on, the first n of which are replaced: in front of the run, in it and behind it
module _ (v : List Float) (at : ℕ) (s : List Float) (n : ℕ) (hv : at + n ≤ length v) (hs : n ≤ length s) where
  head-length : length (take at v ++ take n s) ≡ at + n
  head-length = length_paste_head v at s n (omega arith) hs

  before-paste : (i : ℕ) → i < at → get_or (paste v at s n) i nan ≡ get_or v i nan
  before-paste i h =
      get_or-append (take at v ++ take n s) (drop (at + n) v) nan i (omega (arith, head-length))
      ∙ get_or-append (take at v) (take n s) nan i (omega (arith, length-take-le at v (omega arith)))
      ∙ get_or-take at v i nan h

  pub in-paste : (k : ℕ) → k < n → get_or (paste v at s n) (at + k) nan ≡ get_or s k nan
  in-paste k h =
      get_or-append (take at v ++ take n s) (drop (at + n) v) nan (at + k) (omega (arith, head-length))
      ∙ ap (λ (i : ℕ). get_or (take at v ++ take n s) (i + k) nan) (sym (length-take-le at v (omega arith)))
      ∙ get_or-append-add (take at v) (take n s) k nan
      ∙ get_or-take n s k nan h

  after-paste : (i : ℕ) → at + n ≤ i → get_or (paste v at s n) i nan ≡ get_or v i nan
  after-paste i h =
      let p : i ≡ length (take at v ++ take n s) + (i - (at + n)) = omega (arith, head-length) in
      ap (λ (j : ℕ). get_or (paste v at s n) j nan) p
      ∙ get_or-append-add (take at v ++ take n s) (drop (at + n) v) (i - (at + n)) nan
      ∙ get_or-drop (at + n) v (i - (at + n)) nan
      ∙ ap (λ (j : ℕ). get_or v j nan) (omega arith)

  pub out-paste : (i : ℕ) → (i < at) ⊎ (at + n ≤ i) → get_or (paste v at s n) i nan ≡ get_or v i nan
  out-paste i o = ⊎_elim (before-paste i) (after-paste i) o

  -- a run elsewhere is as it was
  pub run-paste : (m b : ℕ) → b + m ≤ length v → (b + m ≤ at) ⊎ (at + n ≤ b) → run m b (paste v at s n) ≡ run m b v
  run-paste m b hb o =
      same-run m b b (paste v at s n) v (omega (arith, length-paste v at s n hv hs)) hb
      (λ k h. out-paste (b + k) (⊎_elim (λ (q : b + m ≤ at). inl (omega arith)) (λ (q : at + n ≤ b). inr (omega arith)) o))

  -- two neighbouring runs are one
  pub paste-paste : (m : ℕ) → n + m ≤ length s → at + (n + m) ≤ length v → paste (paste v at s n) (at + n) (drop n s) m ≡ paste v at s (n + m)
  paste-paste m h h' =
      ap (λ (p : List Float). p ++ take m (drop n s) ++ drop (at + n + m) (paste v at s n)) (take-paste v at s n (omega arith) hs)
      ∙ ap (λ (q : List Float). take at v ++ take n s ++ take m (drop n s) ++ q)
      (sym (drop-drop m (at + n) (paste v at s n)) ∙ ap (drop m) (drop-paste v at s n (omega arith) hs) ∙ drop-drop m (at + n) v)
      ∙ ap (λ (p : List Float). p ++ drop (at + n + m) v) (append_assoc (take at v) (take n s) (take m (drop n s)))
      ∙ ap (λ (p : List Float). take at v ++ p ++ drop (at + n + m) v) (sym (take-add n m s))
      ∙ ap (λ (i : ℕ). take at v ++ take (n + m) s ++ drop i v) (add_assoc at n m)

-- an index is in a run of n cells from a, or it is not
in-or-out : (P : ℕ → Type 0) (a n i : ℕ) → ((k : ℕ) → k < n → P (a + k)) → ((i < a) ⊎ (a + n ≤ i) → P i) → P i
in-or-out P a n i inside outside =
    ⊎_elim (λ (q : i < a). outside (inl q))
    (λ (q : a ≤ i). ⊎_elim (λ (z : i < a + n). let j : i ≡ a + (i - a) = omega arith in rw j (inside (i - a) (omega arith))) (λ (z : a + n ≤ i). outside (inr z)) (lt-or-le i (a + n)))
    (lt-or-le i a)

pub paste_all : (v : List Float) (at : ℕ) (s : List Float) (n : ℕ) → n ≡ length s → paste v at s n ≡ put v at s
paste_all v at s n e = rw (e, take-length)

-- ---- a run that is replaced whole

module _ (v : List Float) (a : ℕ) (r : List Float) (h : a + length r ≤ length v) where
  is-paste : put v a r ≡ paste v a r (length r)
  is-paste = sym (paste_all v a r (length r) refl)

  pub length-put : length (put v a r) ≡ length v
  length-put = ap length is-paste ∙ length-paste v a r (length r) h (le_refl (length r))

  pub in-put : (k : ℕ) → k < length r → get_or (put v a r) (a + k) nan ≡ get_or r k nan
  in-put k l = ap (λ (z : List Float). get_or z (a + k) nan) is-paste ∙ in-paste v a r (length r) h (le_refl (length r)) k l

  pub out-put : (i : ℕ) → (i < a) ⊎ (a + length r ≤ i) → get_or (put v a r) i nan ≡ get_or v i nan
  out-put i o = ap (λ (z : List Float). get_or z i nan) is-paste ∙ out-paste v a r (length r) h (le_refl (length r)) i o

  pub run-put : (n : ℕ) → n ≡ length r → run n a (put v a r) ≡ r
  run-put n e =
      let l = length_run n a (put v a r) (omega (arith, length-put)) in
      ext_get_or nan (run n a (put v a r)) r (l ∙ e) (λ k hk. get_d-run n a (put v a r) k nan (omega arith) ∙ in-put k (omega arith))

  -- a run elsewhere
  pub run_out : (n b : ℕ) → b + n ≤ length v → (b + n ≤ a) ⊎ (a + length r ≤ b) → run n b (put v a r) ≡ run n b v
  run_out n b hb o = ap (run n b) is-paste ∙ run-paste v a r (length r) h (le_refl (length r)) n b hb o

  -- a list that is the same outside the run, and has r in it
  pub same-put : (u : List Float) → length u ≡ length v → ((k : ℕ) → k < length r → get_or u (a + k) nan ≡ get_or r k nan)
      → ((i : ℕ) → (i < a) ⊎ (a + length r ≤ i) → get_or u i nan ≡ get_or v i nan) → u ≡ put v a r
  same-put u e f g =
      ext_get_or nan u (put v a r) (e ∙ sym length-put)
      (λ i _. in-or-out (λ x. get_or u x nan ≡ get_or (put v a r) x nan) a (length r) i (λ k l. f k l ∙ sym (in-put k l)) (λ o. g i o ∙ sym (out-put i o)))

-- a run that is replaced by itself
pub put-run : (v : List Float) (a n : ℕ) → a + n ≤ length v → put v a (run n a v) ≡ v
put-run v a n h =
    let l = length_run n a v h in
    sym (same-put v a (run n a v) (omega arith) v refl (λ k hk. sym (get_d-run n a v k nan (omega arith))) (λ i o. refl))

-- a part of a run that was replaced
pub put-inner : (v : List Float) (a : ℕ) (l : List Float) (i : ℕ) (r : List Float) → a + length l ≤ length v → i + length r ≤ length l
    → put (put v a l) (a + i) r ≡ put v a (put l i r)
put-inner v a l i r h h' =
    let e : length (put v a l) ≡ length v = length-put v a l h in
    let f : length (put l i r) ≡ length l = length-put l i r h' in
    let g : a + i + length r ≤ length (put v a l) = omega arith in
    same-put v a (put l i r) (omega arith) (put (put v a l) (a + i) r) (length-put (put v a l) (a + i) r g ∙ e)
    (λ k hk. in-or-out (λ x. x < length l → get_or (put (put v a l) (a + i) r) (a + x) nan ≡ get_or (put l i r) x nan) i (length r) k
    (λ j hj _. let s : a + (i + j) ≡ a + i + j = omega arith in
    ap (λ (x : ℕ). get_or (put (put v a l) (a + i) r) x nan) s ∙ in-put (put v a l) (a + i) r g j hj ∙ sym (in-put l i r h' j hj))
    (λ o hx. out-put (put v a l) (a + i) r g (a + k) (⊎_elim (λ (q : k < i). inl (omega arith)) (λ (q : i + length r ≤ k). inr (omega arith)) o)
    ∙ in-put v a l h k hx ∙ sym (out-put l i r h' k o))
    (omega arith))
    (λ x o. out-put (put v a l) (a + i) r g x (⊎_elim (λ (q : x < a). inl (omega arith)) (λ (q : a + length (put l i r) ≤ x). inr (omega arith)) o)
    ∙ out-put v a l h x (⊎_elim (λ (q : x < a). inl q) (λ (q : a + length (put l i r) ≤ x). inr (omega arith)) o))

-- two runs that have no cell in common
pub put-swap : (v : List Float) (a : ℕ) (l : List Float) (b : ℕ) (r : List Float) → a + length l ≤ length v → b + length r ≤ length v
    → (a + length l ≤ b) ⊎ (b + length r ≤ a) → put (put v a l) b r ≡ put (put v b r) a l
put-swap v a l b r ha hb d =
    let ea : length (put v a l) ≡ length v = length-put v a l ha in
    let eb : length (put v b r) ≡ length v = length-put v b r hb in
    let ga : a + length l ≤ length (put v b r) = omega arith in
    let gb : b + length r ≤ length (put v a l) = omega arith in
    same-put (put v b r) a l ga (put (put v a l) b r) (length-put (put v a l) b r gb ∙ ea ∙ sym eb)
    (λ k hk. out-put (put v a l) b r gb (a + k) (⊎_elim (λ (q : a + length l ≤ b). inl (omega arith)) (λ (q : b + length r ≤ a). inr (omega arith)) d) ∙ in-put v a l ha k hk)
    (λ i o. in-or-out (λ x. (x < a) ⊎ (a + length l ≤ x) → get_or (put (put v a l) b r) x nan ≡ get_or (put v b r) x nan) b (length r) i
    (λ j hj _. in-put (put v a l) b r gb j hj ∙ sym (in-put v b r hb j hj))
    (λ q o'. out-put (put v a l) b r gb i q ∙ out-put v a l ha i o' ∙ sym (out-put v b r hb i q))
    o)
