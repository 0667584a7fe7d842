-- The laws of a number's bytes. Assumes nothing.
use Rattle.std.proofs.Common.{◌≡◌, ℕ, zero, suc, ◌+◌, ◌-◌, ◌*◌, ◌/◌, ◌%◌, ◌^◌, ◌<◌, ◌≤◌, Bool, true, false, cond, ◌&&◌, eqb, ltb, List, [], ◌∷◌, ◌++◌, length, sym, refl, ap, ◌∙◌, append_assoc, mul-le-mul_right, pow-suc, add-one, arith, length-append, ltb-false, ltb-true, le-ltb, lt-ltb, ne_eqb}
use native.Mathlib.Nat.{pow-le-pow_right}
use Rattle.refusals.specs.Steps.{Or, is, refused, Taken}
use Rattle.sheets.specs.Number.{groups, number_bytes, above, take_groups, take_number, AllBytes}
use Rattle.refusals.proofs.Stepwise.{not-refused}

-- at most one group more than may follow: at most five
groups-most : (more n : ℕ) → length (groups more n) ≤ suc more
unfolding groups
groups-most zero n = omega arith
groups-most (suc more) n = go (ltb n 128) (groups-most more (n / 128))
  where
    go : (t : Bool) → length (groups more (n / 128)) ≤ suc more → length (cond t (n ∷ []) ((128 + n % 128) ∷ groups more (n / 128))) ≤ suc (suc more)
    go true h = omega arith
    go false h = omega arith

pub number-most : (n : ℕ) → length (number_bytes n) ≤ 5
unfolding number_bytes
number-most n = groups-most 4 n

-- the last group, and a group that others follow
groups-last : (more n : ℕ) → n < 128 → groups more n ≡ n ∷ []
unfolding groups
groups-last zero n h = refl
groups-last (suc more) n h = rw (lt-ltb n 128 h)

groups-next : (more n : ℕ) → 128 ≤ n → groups (suc more) n ≡ (128 + n % 128) ∷ groups more (n / 128)
unfolding groups
groups-next more n h = rw (le-ltb n 128 h)

rest-small : (more n : ℕ) → n < 128 ^ suc (suc more) → n / 128 < 128 ^ suc more
rest-small more n h = omega (arith, pow-suc 128 (suc more))

-- what holds of a last group, and of a group that others follow where it holds of those, holds of a number's bytes
groups-each : (P : ℕ → ℕ → List ℕ → Type 0)
    → ((more n : ℕ) → n < 128 → P more n (n ∷ []))
    → ((more n : ℕ) (bytes : List ℕ) → 128 ≤ n → P more (n / 128) bytes → P (suc more) n ((128 + n % 128) ∷ bytes))
    → (more n : ℕ) → n < 128 ^ suc more → P more n (groups more n)
unfolding groups
groups-each P last next zero n h = last zero n (omega arith)
groups-each P last next (suc more) n h = go (ltb n 128) refl (groups-each P last next more (n / 128) (rest-small more n h))
  where
    go : (t : Bool) → ltb n 128 ≡ t → P more (n / 128) (groups more (n / 128)) → P (suc more) n (groups (suc more) n)
    go true e p = let small = ltb-true n 128 e in rw (groups-last (suc more) n small) (last (suc more) n small)
    go false e p = let large = ltb-false n 128 e in rw (groups-next more n large) (next more n (groups more (n / 128)) large p)

-- at least one group
groups-some : (more n : ℕ) → n < 128 ^ suc more → 0 < length (groups more n)
groups-some = groups-each (λ _ _ bytes. 0 < length bytes) (λ _ _ _. omega arith) (λ _ _ _ _ _. omega arith)

-- ---- a number that is being written: the groups that stand, and what is left of it

pub record Left (n : ℕ) (done : List ℕ) (rest : ℕ) : Type 0 where
  pub more : ℕ
  pub small : rest < 128 ^ suc more
  pub bytes : number_bytes n ≡ done ++ groups more rest

pub left-all : (n : ℕ) → n < 2 ^ 35 → Left n [] n
unfolding number_bytes
left-all n h = record { more = 4; small = h; bytes = refl }

pub left-next : {n rest : ℕ} {done : List ℕ} → Left n done rest → 128 ≤ rest → Left n (done ++ (128 + rest % 128) ∷ []) (rest / 128)
left-next {n} {rest} {done} l h = go l.more l.small l.bytes
  where
    go : (more : ℕ) → rest < 128 ^ suc more → number_bytes n ≡ done ++ groups more rest → Left n (done ++ (128 + rest % 128) ∷ []) (rest / 128)
    go zero small bytes = absurd (omega arith)
    go (suc more) small bytes = record {
      more = more;
      small = rest-small more rest small;
      bytes = bytes ∙ rw (groups-next more rest h, append_assoc);
    }

pub left-last : {n rest : ℕ} {done : List ℕ} → Left n done rest → rest < 128 → number_bytes n ≡ done ++ (rest ∷ [])
left-last {n} {rest} {done} l h = l.bytes ∙ rw (groups-last l.more rest h)

-- at least one group is left
pub left-some : {n rest : ℕ} {done : List ℕ} → Left n done rest → length done < length (number_bytes n)
left-some {n} {rest} {done} l = omega (arith, ap length l.bytes, length-append done (groups l.more rest), groups-some l.more rest l.small)

-- ---- a number that is being read: what the groups passed give, and how many more may follow

-- the number at the front of some bytes where it may have at most `most` groups
abbrev take_most : ℕ → List ℕ → Or Taken
take_most zero s = refused 34
take_most (suc more) s = take_groups more s

take_last : (more b : ℕ) (s : List ℕ) → b < 128 → take_groups more (b ∷ s) ≡ is (record { number = b; rest = s })
unfolding take_groups
take_last zero b s h = rw (lt-ltb b 128 h)
take_last (suc more) b s h = rw (lt-ltb b 128 h)

take_next : (most b : ℕ) (s : List ℕ) → 128 ≤ b → take_groups most (b ∷ s) ≡ above (b - 128) (take_most most s)
unfolding take_groups
take_next zero b s h = rw (le-ltb b 128 h)
take_next (suc more) b s h = rw (le-ltb b 128 h)

-- the groups that stand, and what follows them: i groups, which give `value` in front of groups of `unit`, and what was read after them
abbrev joined : ℕ → ℕ → ℕ → Or Taken → Or Taken
joined i value unit (refused n) = refused n
joined i value unit (is t) = cond (ltb 0 i && eqb t.number 0) (refused 34) (is (record { number = value + t.number * unit; rest = t.rest }))

take_none : (most : ℕ) → take_most most [] ≡ refused 34
unfolding take_groups
take_none zero = refl
take_none (suc zero) = refl
take_none (suc (suc more)) = refl

and-false : (t : Bool) → (t && false) ≡ false
and-false true = refl
and-false false = refl

joined-none : (t : Or Taken) → t ≡ joined 0 0 1 t
joined-none (refused n) = refl
joined-none (is t) = ap (λ (n : ℕ). is (record { number = n; rest = t.rest })) (omega arith)

joined-above : (i value unit low : ℕ) (t : Or Taken) → joined i value unit (above low t) ≡ joined (i + 1) (value + low * unit) (unit * 128) t
joined-above i value unit low (refused n) = refl
joined-above i value unit low (is t) = go t.number
  where
    go : (n : ℕ)
        → joined i value unit (cond (ltb 0 n) (is (record { number = low + 128 * n; rest = t.rest })) (refused 34))
        ≡ cond (ltb 0 (i + 1) && eqb n 0) (refused 34) (is (record { number = value + low * unit + n * (unit * 128); rest = t.rest }))
    go zero = rw (lt-ltb 0 (i + 1) (omega arith))
    go (suc n) =
        let same : value + (low + 128 * suc n) * unit ≡ value + low * unit + suc n * (unit * 128) = omega arith in
        rw (lt-ltb 0 (suc n) (omega arith), ne_eqb (low + 128 * suc n) 0 (λ e. omega arith), ne_eqb (suc n) 0 (λ e. omega arith), and-false (ltb 0 i), and-false (ltb 0 (i + 1)), same)

-- what stands after i groups of the number at the front of s, where `rest` is left
pub record Read (s rest : List ℕ) (value unit i : ℕ) : Type 0 where
  pub more : ℕ
  pub count : i + more ≡ 5
  pub power : unit ≡ 128 ^ i
  pub below : value < unit
  pub number : take_number s ≡ joined i value unit (take_most more rest)

pub read_none : (s : List ℕ) → Read s s 0 1 0
unfolding take_number
read_none s = record { more = 5; count = refl; power = refl; below = omega arith; number = joined-none (take_groups 4 s) }

module _ {s rest : List ℕ} {value unit i : ℕ} (r : Read s rest value unit i) where
  -- the bytes end, or five groups are passed
  pub read-cut : length rest ≡ 0 → take_number s ≡ refused 34
  read-cut h = go rest h r.number
    where
      go : (l : List ℕ) → length l ≡ 0 → take_number s ≡ joined i value unit (take_most r.more l) → take_number s ≡ refused 34
      go [] h e = e ∙ rw (take_none r.more)
      go (b ∷ l) h e = absurd (omega arith)

  pub read-over : 5 ≤ i → take_number s ≡ refused 34
  read-over h = let none : r.more ≡ 0 = omega (arith, r.count) in r.number ∙ rw none

  -- the sums fit
  unit-most : i < 5 → unit ≤ 2 ^ 28
  unit-most h = let four : i ≤ 4 = omega arith in omega (arith, r.power, pow-le-pow_right {n = 128} (omega arith) {i = i} {j = 4} four)

  group-below : (low : ℕ) → low < 128 → value + low * unit < unit * 128
  group-below low h = omega (arith, r.below, mul-le-mul_right {m = low} {n = 127} unit (omega arith))

  pub read_fits : i < 5 → (low : ℕ) → low < 128 → (value + low * unit < 2 ^ 35) × (unit * 128 ≤ 2 ^ 35)
  read_fits h low l = (omega (arith, unit-most h, group-below low l), omega (arith, unit-most h))

  -- one group more, where the bytes are not at their end
  module _ (h : i < 5) {b : ℕ} {after : List ℕ} (front : rest ≡ b ∷ after) where
    one_more : take_number s ≡ joined i value unit (take_groups (4 - i) (b ∷ after))
    one_more =
        let some : r.more ≡ suc (4 - i) = omega (arith, r.count) in
        r.number ∙ rw (front, some)

    pub read-last : b < 128 → take_number s ≡ joined i value unit (is (record { number = b; rest = after }))
    read-last l = one_more ∙ rw (take_last (4 - i) b after l)

    pub read_next : 128 ≤ b → b < 256 → Read s after (value + (b - 128) * unit) (unit * 128) (i + 1)
    read_next l small = record {
      more = 4 - i;
      count = omega arith;
      power = rw (add-one, pow-suc, r.power);
      below = group-below (b - 128) (omega arith);
      number = one_more ∙ rw (take_next (4 - i) b after l) (joined-above i value unit (b - 128) (take_most (4 - i) after));
    }

-- ---- a number that is taken group by group

-- where the bytes end there is none
pub cut-short : (more : ℕ) (s : List ℕ) → length s ≡ 0 → refused 34 ≡ take_groups more s
unfolding take_groups
cut-short zero [] h = refl
cut-short (suc more) [] h = refl
cut-short more (b ∷ s) h = absurd (omega arith)

module _ {s rest : List ℕ} {b : ℕ} (front : s ≡ b ∷ rest) where
  -- a group below 128 ends it
  pub ends-here : (more : ℕ) → b < 128 → is (record { number = b; rest = rest }) ≡ take_groups more s
  ends-here more l = rw (front, take_last more b rest l)

  -- another has to be followed, where one may
  pub over-long : (more : ℕ) → 128 ≤ b → more ≡ 0 → refused 34 ≡ take_groups more s
  over-long more l none = rw (none, front, take_next 0 b rest l)

  goes-on : (more : ℕ) → 128 ≤ b → (more ≡ 0 → ⊥) → take_groups more s ≡ above (b - 128) (take_groups (more - 1) rest)
  goes-on zero l some = absurd (some refl)
  goes-on (suc more) l some = rw (front, take_next (suc more) b rest l) (ap (λ (m : ℕ). above (b - 128) (take_groups m rest)) (omega arith))

  module _ (more : ℕ) (l : 128 ≤ b) (some : more ≡ 0 → ⊥) where
    pub none_follows : (n : ℕ) → refused n ≡ take_groups (more - 1) rest → refused n ≡ take_groups more s
    none_follows n e = rw (goes-on more l some, ← e)

    pub zero_follows : (high : ℕ) (after : List ℕ) → is (record { number = high; rest = after }) ≡ take_groups (more - 1) rest → high ≡ 0 → refused 34 ≡ take_groups more s
    zero_follows high after e z = rw (goes-on more l some, ← e, z)

    pub one_follows : (high : ℕ) (after : List ℕ) → is (record { number = high; rest = after }) ≡ take_groups (more - 1) rest → (high ≡ 0 → ⊥)
        → is (record { number = b - 128 + 128 * high; rest = after }) ≡ take_groups more s
    one_follows high after e z = rw (goes-on more l some, ← e, lt-ltb 0 high (omega arith))

-- ---- a number's bytes and the number read from them are each other's inverses

groups-back : (rest : List ℕ) (more n : ℕ) → n < 128 ^ suc more → take_groups more (groups more n ++ rest) ≡ is (record { number = n; rest = rest })
groups-back rest =
    groups-each (λ more n bytes. take_groups more (bytes ++ rest) ≡ is (record { number = n; rest = rest })) (λ more n small. take_last more n rest small)
    λ more n bytes large p.
    let whole : 128 + n % 128 - 128 + 128 * (n / 128) ≡ n = omega arith in
    rw (take_next (suc more) (128 + n % 128) (bytes ++ rest) (omega arith), p, lt-ltb 0 (n / 128) (omega arith), whole)

pub take_back : (n : ℕ) (rest : List ℕ) → n < 2 ^ 35 → take_number (number_bytes n ++ rest) ≡ is (record { number = n; rest = rest })
unfolding take_number number_bytes
take_back n rest h = groups-back rest 4 n h

pub number-bytes : (n : ℕ) → n < 2 ^ 35 → AllBytes (number_bytes n)
unfolding number_bytes
number-bytes = groups-each (λ _ _ bytes. AllBytes bytes) (λ _ n small. (omega arith, tt)) (λ _ n _ _ p. (omega arith, p)) 4

-- the bytes that a number was read from are its own
abbrev From : ℕ → List ℕ → Taken → Type 0
From more s t = (s ≡ groups more t.number ++ t.rest) × AllBytes t.rest

from_last : (more b : ℕ) (s : List ℕ) (t : Taken) → b < 128 → AllBytes s → is (record { number = b; rest = s }) ≡ is t → From more (b ∷ s) t
from_last more b s t h all e =
    let number : t.number ≡ b = cc in
    let rest : t.rest ≡ s = cc in
    rw (number, rest, groups-last more b h) (refl, all)

-- the same of the bytes after a group
abbrev FromMost : ℕ → List ℕ → Taken → Type 0
FromMost zero s t = ⊥
FromMost (suc more) s t = From more s t

from_next : (most b : ℕ) (s : List ℕ) (u t : Taken) → 128 ≤ b → b < 256 → FromMost most s u → above (b - 128) (is u) ≡ is t → From most (b ∷ s) t
from_next zero b s u t large byte from = elim from [ ]
from_next (suc more) b s u t large byte from = go (ltb 0 u.number) refl
  where
    go : (some : Bool) → ltb 0 u.number ≡ some → cond some (is (record { number = b - 128 + 128 * u.number; rest = u.rest })) (refused 34) ≡ is t → From (suc more) (b ∷ s) t
    go true some e =
        let positive = ltb-true 0 u.number some in
        let number : t.number ≡ b - 128 + 128 * u.number = cc in
        let rest : t.rest ≡ u.rest = cc in
        let low : 128 + t.number % 128 ≡ b = omega arith in
        let high : t.number / 128 ≡ u.number = omega arith in
        (rw (groups-next more t.number (omega arith), low, high, rest) (ap (λ (l : List ℕ). b ∷ l) from.0), rw rest from.1)
    go false some e = not-refused (sym e)

from-group : (most b : ℕ) (s : List ℕ) (t : Taken) → AllBytes (b ∷ s) → ((u : Taken) → take_most most s ≡ is u → FromMost most s u) → take_groups most (b ∷ s) ≡ is t → From most (b ∷ s) t
from-group most b s t all after e = go (ltb b 128) refl
  where
    above_from : 128 ≤ b → (o : Or Taken) → take_most most s ≡ o → above (b - 128) o ≡ is t → From most (b ∷ s) t
    above_from large (is u) read q = from_next most b s u t large all.0 (after u read) q
    above_from large (refused n) read q = not-refused (sym q)

    go : (small : Bool) → ltb b 128 ≡ small → From most (b ∷ s) t
    go true small = let h = ltb-true b 128 small in from_last most b s t h all.1 (sym (take_last most b s h) ∙ e)
    go false small = let h = ltb-false b 128 small in above_from h (take_most most s) refl (sym (take_next most b s h) ∙ e)

groups-from : (more : ℕ) (s : List ℕ) (t : Taken) → AllBytes s → take_groups more s ≡ is t → From more s t
groups-from more [] t all e = not-refused (sym e ∙ take_none (suc more))
groups-from zero (b ∷ s) t all e = from-group zero b s t all (λ u q. not-refused (sym q)) e
groups-from (suc more) (b ∷ s) t all e = from-group (suc more) b s t all (λ u. groups-from more s u all.1) e

pub bytes_back : (s : List ℕ) (t : Taken) → AllBytes s → take_number s ≡ is t → (s ≡ number_bytes t.number ++ t.rest) × AllBytes t.rest
unfolding take_number number_bytes
bytes_back s t all e = groups-from 4 s t all e
