-- Loops that make a list from its first cell on, cell by cell or part by part, and one cell of each of several runs at a time. Assumes nothing.
use Prim.Native.Nat.{ℕ, zero, suc, ◌+◌, ◌-◌, ◌*◌, ◌/◌, ◌%◌, ◌<◌, ◌≤◌}
use mathlib.Core.Path.{◌≡◌, refl, sym, ap, ◌∙◌, subst}
use mathlib.Core.List.{List, ◌++◌, append_assoc}
use mathlib.Core.Logic.{⊎_elim, inl}
use native.Mathlib.Nat.{not-suc-le-zero, suc-mul, mul_comm, mod-lt, div-add-mod', le_refl}
use native.Mathlib.Omega.{arith}
use lib.ListN.{length, get_or, take, drop, set, length-set}
use lib.Seq.{drop-drop, ext_get_or, get_or-set_same, get_or-set_other}
use lib.Ieee.{Float, nan}
use Rattle.lists.specs.Lists.{list_of}
use Rattle.lists.proofs.Lists.{list_of-length, list_of-at}
use Rattle.lists.proofs.Rows.{in-column, mul-pos-left, row_below}
use Rattle.lists.proofs.Tests.{lt-or-le}
use Rattle.paths.specs.Room.{put, spread}
use Rattle.paths.proofs.Parts.{length-put, in-put, out-put}
use Rattle.paths.proofs.Walks.{cells-end}

-- cell k of run x is among the cells of w runs
pub row-cell : (w count x k : ℕ) → x < w → k < count → x * count + k < w * count
row-cell w count x k hx hk = omega (arith, cells-end w count x hx)

-- a part of k cells that was lent and came back as x
pub lent : (a k : ℕ) (v x : List Float) → length x ≡ k → take a v ++ (x ++ drop k (drop a v)) ≡ put v a x
lent a k v x e =
    ap (λ (z : List Float). take a v ++ (x ++ z)) (drop-drop k a v ∙ ap (λ (j : ℕ). drop (a + j) v) (sym e))
    ∙ sym (append_assoc (take a v) x (drop (a + length x) v))

pub same-part : (a n : ℕ) (v : List Float) → take (a + n - a) (drop a v) ≡ take n (drop a v)
same-part a n v = let e : a + n - a ≡ n = omega arith in rw e

-- ---- a list that is made from its first cell on: v is as long as `all`, and has its first n cells

pub record Begun (all v : List Float) (n : ℕ) : Type 0 where
  pub long : length v ≡ length all
  pub same : (i : ℕ) → i < n → i < length all → get_or v i nan ≡ get_or all i nan

module _ {all v : List Float} where
  pub begun_none : length v ≡ length all → Begun all v 0
  begun_none e = record { long = e; same = λ i h _. absurd (not-suc-le-zero h) }

  pub begun_all : {n : ℕ} → Begun all v n → length all ≤ n → v ≡ all
  begun_all {n} b h = ext_get_or nan v all b.long (λ i hi. let l = b.long in let inside : i < length all = omega arith in b.same i (omega arith) inside)

  -- the next cell
  pub begun_cell : {n : ℕ} → Begun all v n → (k : ℕ) → k ≤ n → k < length all → (r : Float) → r ≡ get_or all k nan → Begun all (set v k r) (k + 1)
  begun_cell {n} b k hk inside r e =
      record {
        long = length-set v k r ∙ b.long;
        same = λ i h hi.
            ⊎_elim (λ (q : i < k). get_or-set_other v k i r nan (λ z. omega arith) ∙ b.same i (omega arith) hi)
            (λ (q : k ≤ i). let z : i ≡ k = omega arith in rw z (get_or-set_same v k r nan (omega (arith, b.long)) ∙ e))
            (lt-or-le i k);
      }

  -- the next m cells
  pub begun_part : {n : ℕ} → Begun all v n → (m : ℕ) → n + m ≤ length all → (part : List Float) → length part ≡ m
      → ((j : ℕ) → j < m → get_or part j nan ≡ get_or all (n + j) nan) → Begun all (put v n part) (n + m)
  begun_part {n} b m inside part e cells =
      let fits : n + length part ≤ length v = omega (arith, b.long) in
      record {
        long = length-put v n part fits ∙ b.long;
        same = λ i h hi.
            ⊎_elim (λ (q : i < n). out-put v n part fits i (inl q) ∙ b.same i q hi)
            (λ (q : n ≤ i). let j : ℕ = i - n in
            let z : i ≡ n + (i - n) = omega arith in
            let hj : i - n < m = omega arith in
            ap (λ (x : ℕ). get_or (put v n part) x nan) z ∙ in-put v n part fits (i - n) (omega arith) ∙ cells (i - n) hj ∙ ap (λ (x : ℕ). get_or all x nan) (sym z))
            (lt-or-le i n);
      }

-- a list that is made whole
pub begun_full : {all v : List Float} {n : ℕ} → Begun all v n → length all ≤ n → (m : ℕ) → Begun all v m
begun_full b h m = record { long = b.long; same = λ i _ hi. b.same i (omega arith) hi }

-- a part that was lent came back as y
pub begun_lent : {all : List Float} (n a k : ℕ) (v x y : List Float) → x ≡ y → length y ≡ k → Begun all (put v a y) n → Begun all (take a v ++ (x ++ drop k (drop a v))) n
begun_lent {all} n a k v x y e l b = subst (λ (z : List Float). Begun all z n) (sym (ap (λ (z : List Float). take a v ++ (z ++ drop k (drop a v))) e ∙ lent a k v y l)) b

-- ---- one cell of each of n runs of m cells

module _ (m k : ℕ) (hk : k < m) (g : ℕ → Float) (v : List Float) where
  pub spread-length : (n : ℕ) → length (spread n m k g v) ≡ length v
  unfolding spread
  spread-length zero = refl
  spread-length (suc n) = length-set (spread n m k g v) (n * m + k) (g n) ∙ spread-length n

  spread-kept : (n i : ℕ) → ((d : ℕ) → d < n → i ≡ d * m + k → ⊥) → get_or (spread n m k g v) i nan ≡ get_or v i nan
  unfolding spread
  spread-kept zero i o = refl
  spread-kept (suc n) i o = get_or-set_other (spread n m k g v) (n * m + k) i (g n) nan (o n (le_refl (suc n))) ∙ spread-kept n i (λ d l. o d (omega arith))

  spread_at : (n : ℕ) → n * m ≤ length v → (d : ℕ) → d < n → get_or (spread n m k g v) (d * m + k) nan ≡ g d
  unfolding spread
  spread_at zero h d l = absurd (not-suc-le-zero l)
  spread_at (suc n) h d l =
      let end = suc-mul n m in
      ⊎_elim
      (λ (b : d < n). let far = cells-end n m d b in
      get_or-set_other (spread n m k g v) (n * m + k) (d * m + k) (g n) nan (λ e. omega arith) ∙ spread_at n (omega arith) d b)
      (λ (b : n ≤ d). let same : d ≡ n = omega arith in
      rw same (get_or-set_same (spread n m k g v) (n * m + k) (g n) nan (omega (arith, spread-length n))))
      (lt-or-le d n)

-- ---- the cells of n runs of m cells, made index by index

pub record Made (v : List Float) (n m : ℕ) (g : ℕ → ℕ → Float) (k : ℕ) : Type 0 where
  pub long : length v ≡ n * m
  pub made : (d j : ℕ) → d < n → j < m → j < k → get_or v (d * m + j) nan ≡ g d j

module _ {v : List Float} {n m : ℕ} {g : ℕ → ℕ → Float} {k : ℕ} (done : Made v n m g k) where
  pub made-next : k < m → (f : ℕ → Float) → ((d : ℕ) → d < n → f d ≡ g d k) → (v' : List Float) → v' ≡ spread n m k f v → Made v' n m g (k + 1)
  made-next hk f same v' e =
      record {
        long = ap length e ∙ spread-length m k hk f v n ∙ done.long;
        made = λ d j hd hj l. ap (λ (z : List Float). get_or z (d * m + j) nan) e ∙ now-made d j hd hj l;
      }
    where
      now-made : (d j : ℕ) → d < n → j < m → j < k + 1 → get_or (spread n m k f v) (d * m + j) nan ≡ g d j
      now-made d j hd hj l =
          ⊎_elim
          (λ (b : j < k). spread-kept m k hk f v n (d * m + j)
          (λ c hc q. let i : d * m + j ≡ c * m + k = omega arith in
          let z : j ≡ k = sym (in-column m j d hj) ∙ ap (λ (x : ℕ). x % m) i ∙ in-column m k c hk in
          omega arith)
          ∙ done.made d j hd hj b)
          (λ (b : k ≤ j). let z : j ≡ k = omega arith in rw z (spread_at m k hk f v n (omega (arith, done.long)) d hd ∙ same d hd))
          (lt-or-le j k)

  pub made_all : k ≡ m → v ≡ list_of (n * m) (λ i. g (i / m) (i % m))
  made_all all =
      let r = list_of (n * m) (λ i. g (i / m) (i % m)) in
      let l : length r ≡ n * m = list_of-length (n * m) (λ i. g (i / m) (i % m)) in
      ext_get_or nan v r (done.long ∙ sym l)
      (λ j h. let hj : j < n * m = omega (arith, done.long) in cell j hj ∙ sym (list_of-at (n * m) (λ i. g (i / m) (i % m)) j nan hj))
    where
      cell : (j : ℕ) → j < n * m → get_or v j nan ≡ g (j / m) (j % m)
      cell j h =
          let hm : j % m < m = mod-lt j (mul-pos-left j m n (omega (arith, mul_comm n m))) in
          let whole : j / m * m + j % m ≡ j = div-add-mod' j m in
          ap (λ (i : ℕ). get_or v i nan) (sym whole) ∙ done.made (j / m) (j % m) (row_below m n j (omega (arith, mul_comm n m))) hm (omega arith)
