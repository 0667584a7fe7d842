-- Parts of a header that are there are taken, and what is taken is there. Assumes nothing.
use Prim.Native.Nat.{ℕ, ◌*◌, ◌≤◌}
use mathlib.Core.Path.{◌≡◌, refl, sym, ap, ap₂, ◌∙◌, subst}
use mathlib.Core.Bool.{Bool, true, false, cond, ◌&&◌, true≢false}
use mathlib.Core.List.{List, [], ◌∷◌, ◌++◌, append_assoc}
use borrow.Author.Tests.{le-leb, leb-true, eq-eqb, eqb-true}
use lib.Dec.{leb, eqb}
use lib.ListN.{length, drop, take-append-drop}
use lib.Seq.{drop-append_seam}
use Rattle.refusals.specs.Steps.{Or, is, refused, and_then, given, Taken}
use Rattle.refusals.proofs.Stepwise.{not-refused, same-result, then_is, given_is}
use Rattle.lists.proofs.Tests.{and_both}
use Rattle.options.specs.Limits.{side_most, is_side}
use Rattle.texts.specs.Digits.{is_digit, all_digits, Numeral}
use Rattle.netpbm.specs.Header.{starts_with, take_word, digits_of, take_number, take_ended}
use Rattle.netpbm.specs.Raster.{sized}
use Rattle.netpbm.proofs.Headers.{digits_all, digits-front}

-- a word begins what begins with it
starts : (word s : List ℕ) → starts_with word (word ++ s) ≡ true
unfolding starts_with
starts [] s = refl
starts (c ∷ word) s = rw (eq-eqb c c refl) (starts word s)

-- a word is taken
pub word-taken : (word s : List ℕ) → take_word word (word ++ s) ≡ is s
unfolding take_word
word-taken word s = rw (starts word s, drop-append_seam)

-- digits up to a byte that is none
pub digits-word : (word s : List ℕ) → all_digits word ≡ true → digits_of s ≡ [] → digits_of (word ++ s) ≡ word
unfolding digits_of
digits-word [] s all none = none
digits-word (b ∷ word) s all none =
    let both = and_both (is_digit b) (all_digits word) all in
    rw both.0 (ap (λ r. b ∷ r) (digits-word word s both.1 none))

-- a number up to a byte that is no digit
pub number-taken : {word : List ℕ} {n : ℕ} (s : List ℕ) → Numeral word n → digits_of s ≡ [] → take_number (word ++ s) ≡ is (record { number = n; rest = s })
unfolding take_number
number-taken {word} s w none = rw (digits-word word s w.digit none, le-leb 1 (length word) w.some, w.value, drop-append_seam)

-- it begins with a digit
pub first-digit : {b n : ℕ} {word : List ℕ} → Numeral (b ∷ word) n → 48 ≤ b
first-digit {b} {word = word} w = leb-true 48 b (and_both (leb 48 b) (leb b 57) (and_both (is_digit b) (all_digits word) w.digit).0).0

-- a number and the word that ends it
pub ended-taken : {word : List ℕ} {n : ℕ} (stop s : List ℕ) → Numeral word n → digits_of (stop ++ s) ≡ [] → take_ended stop (word ++ (stop ++ s)) ≡ is (record { number = n; rest = s })
unfolding take_ended
ended-taken stop s w none = rw (number-taken (stop ++ s) w none, word-taken stop s)

-- data of the right size
pub sized-taken : (each w h : ℕ) (bytes : List ℕ) → 1 ≤ w → w ≤ side_most → 1 ≤ h → h ≤ side_most → length bytes ≡ each * (w * h) → sized each w h bytes ≡ is bytes
unfolding sized
sized-taken each w h bytes wide narrow high low long = rw (le-leb 1 w wide, le-leb w side_most narrow, le-leb 1 h high, le-leb h side_most low, eq-eqb (length bytes) (each * (w * h)) long)

-- ---- parts that follow one another

-- four parts and what follows them
pub straight : (a b c d s : List ℕ) → a ++ b ++ c ++ d ++ s ≡ a ++ (b ++ (c ++ (d ++ s)))
straight a b c d s = simp append_assoc

-- the same, each part in what the one before it left
pub joined : {s p q r : List ℕ} (a b c d t : List ℕ) → s ≡ a ++ p → p ≡ b ++ q → q ≡ c ++ r → r ≡ d ++ t → s ≡ a ++ b ++ c ++ d ++ t
joined a b c d t e f g h = rw (e, f, g, h) (sym (straight a b c d t))

-- ---- what is taken is there

-- bytes that begin with a word are it and the bytes after it
pub front-word : (word s : List ℕ) → starts_with word s ≡ true → s ≡ word ++ drop (length word) s
unfolding starts_with
front-word [] s e = refl
front-word (c ∷ word) [] e = absurd (true≢false (sym e))
front-word (c ∷ word) (b ∷ s) e =
    let both = and_both (eqb b c) (starts_with word s) e in
    ap₂ (λ x r. x ∷ r) (eqb-true b c both.0) (front-word word s both.1)

-- a word that was taken
pub word-only : (word s r : List ℕ) → take_word word s ≡ is r → s ≡ word ++ r
unfolding take_word
word-only word s r e =
    let t = given_is (starts_with word s) 41 (drop (length word) s) r e in
    front-word word s t.0 ∙ ap (λ r. word ++ r) t.1

-- a number that was taken
pub number-only : (s : List ℕ) (t : Taken) → take_number s ≡ is t → (word : List ℕ) × (s ≡ word ++ t.rest) × Numeral word t.number
unfolding take_number
number-only s t e =
    let g = given_is (leb 1 (length (digits_of s))) 41 _ t e in
    subst (λ (t : Taken). (word : List ℕ) × (s ≡ word ++ t.rest) × Numeral word t.number) g.1
    (digits_of s, rw digits-front at (sym (take-append-drop (length (digits_of s)) s)), record { digit = digits_all s; some = leb-true 1 _ g.0; value = refl })

-- a number that was taken with the word that ends it
pub ended-only : (stop s : List ℕ) (t : Taken) → take_ended stop s ≡ is t → (word : List ℕ) × (s ≡ word ++ (stop ++ t.rest)) × Numeral word t.number
unfolding take_ended
ended-only stop s t e =
    let number = then_is (take_number s) _ t e in
    let end = then_is (take_word stop number.0.rest) _ t number.2 in
    let n = number-only s number.0 number.1 in
    subst (λ (t : Taken). (word : List ℕ) × (s ≡ word ++ (stop ++ t.rest)) × Numeral word t.number) (same-result end.2)
    (n.0, n.1 ∙ ap (λ r. n.0 ++ r) (word-only stop number.0.rest end.0 end.1), n.2)

-- data whose size was right for the next step
pub sized-then : {B : Type 0} (each w h : ℕ) (bytes : List ℕ) (next : List ℕ → Or B) (b : B) → and_then (sized each w h bytes) next ≡ is b
    → (is_side w ≡ true) × (is_side h ≡ true) × (length bytes ≡ each * (w * h)) × (next bytes ≡ is b)
unfolding sized
sized-then each w h bytes next b = go (is_side w) (is_side h) (eqb (length bytes) (each * (w * h))) refl refl refl
  where
    go : (t u v : Bool) → is_side w ≡ t → is_side h ≡ u → eqb (length bytes) (each * (w * h)) ≡ v → and_then (cond (t && u) (given v 44 bytes) (refused 43)) next ≡ is b
        → (is_side w ≡ true) × (is_side h ≡ true) × (length bytes ≡ each * (w * h)) × (next bytes ≡ is b)
    go true true true p q r e = (p, q, eqb-true _ _ r, e)
    go true true false p q r e = not-refused (sym e)
    go true false v p q r e = not-refused (sym e)
    go false u v p q r e = not-refused (sym e)
