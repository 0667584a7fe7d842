-- What was found at a place, step by step, makes what the definitions take from the bytes there. Assumes nothing.
use Rattle.std.proofs.Common.{◌≡◌, ℕ, suc, ◌+◌, ◌-◌, ◌*◌, ◌<◌, ◌≤◌, Bool, true, leb, List, [], ◌∷◌, ◌++◌, length, take, set, sym, refl, ap, ◌∙◌, subst, append_assoc, append-nil, zero-le, mul-le-mul, add-one, arith, length-set, take-suc-set, eq-eqb, ne_eqb, leb-true}
use native.Mathlib.Nat.{sub-zero}
use lib.Seq.{take-length}
use lib.Ieee.{Float}
use Rattle.sheets.specs.declared.code.Kind.{Kind}
use Rattle.lists.proofs.Tests.{and_both}
use Rattle.sheets.specs.Limits.{sheet_side_most, is_sheet_side}
use Rattle.refusals.specs.Steps.{Or, is, refused, and_then, given, NotRefused, list_in, Taken}
use Rattle.sheets.specs.Number.{take_number}
use Rattle.sheets.specs.Code.{kind_of}
use Rattle.sheets.specs.Sheet.{Head, take_version, take_side, take_head, take_cell, take_cells, cells_after_head, sheet_with, read_sheet}
use Rattle.sheets.specs.Outcome.{ReadOutcome}
use Rattle.std.specs.Prelude.{Ok, Err}
use Rattle.refusals.specs.declared.Refusal.{Refusal}
use Rattle.refusals.specs.declared.Refusal.TheVariants as refusal
use Rattle.refusals.specs.Numbers.{number_of}
use Rattle.sheets.specs.Inner.{looked_at, checked_head}
use Rattle.refusals.proofs.Stepwise.{not-refused, list-not-refused, same-result, same-refusal, then_is, given_is}

-- a number that has to pass a test: the version, and a width or a height
abbrev pub tested : (ℕ → Bool) → ℕ → Or Taken → Or Taken
tested test refusal t = and_then t (λ t. given (test t.number) refusal t)

-- ---- looking at the cells one by one: there are as many as are left, and they are refused as all are
pub record Checking (k : Kind) (count : ℕ) (s rest : List ℕ) (i : ℕ) : Type 0 where
  pub within : i ≤ count
  pub same : looked_at (take_cells k count s) ≡ looked_at (take_cells k (count - i) rest)

pub checking-none : (k : Kind) (count : ℕ) (s : List ℕ) → Checking k count s s 0
checking-none k count s = record { within = zero-le; same = rw sub-zero }

-- one cell before others changes nothing of their refusal
one_more : (x : Float) (others : Or (List Float)) → looked_at (and_then others (λ cells. is (x ∷ cells))) ≡ looked_at others
one_more x (is cells) = refl
one_more x (refused n) = refl

-- behind the last cell there is a byte, or none
left_over : (k : Kind) (rest : List ℕ) → (length rest ≡ 0 → ⊥) → looked_at (take_cells k 0 rest) ≡ refused 38
unfolding take_cells
left_over k [] h = absurd (h refl)
left_over k (b ∷ rest) h = refl

all_read : (k : Kind) (rest : List ℕ) → length rest ≡ 0 → looked_at (take_cells k 0 rest) ≡ is tt
unfolding take_cells
all_read k [] h = refl
all_read k (b ∷ rest) h = absurd (omega arith)

module _ (k : Kind) (count : ℕ) (s rest : List ℕ) (i : ℕ) (c : Checking k count s rest i) where
  -- the cell at the front
  module _ (l : i < count) where
    left : count - i ≡ suc (count - (i + 1))
    left = omega arith

    pub checking-next : (x : Float) (past : List ℕ) → is (record { cell = x; rest = past }) ≡ take_cell k rest → Checking k count s past (i + 1)
    unfolding take_cells
    checking-next x past e = record { within = omega arith; same = c.same ∙ rw (left, ← e) (one_more x (take_cells k (count - (i + 1)) past)) }

    pub checking-refused : (n : ℕ) → refused n ≡ take_cell k rest → refused n ≡ looked_at (take_cells k count s)
    unfolding take_cells
    checking-refused n e = sym (c.same ∙ rw (left, ← e))

  -- no cell is left
  module _ (l : count ≤ i) where
    none_left : count - i ≡ 0
    none_left = omega arith

    pub checking-more : (length rest ≡ 0 → ⊥) → refused 38 ≡ looked_at (take_cells k count s)
    checking-more h = sym (c.same ∙ rw none_left (left_over k rest h))

    pub checking-done : length rest ≡ 0 → is tt ≡ looked_at (take_cells k count s)
    checking-done h = sym (c.same ∙ rw none_left (all_read k rest h))

-- ---- reading the cells one by one: those read and those left make all
pub record Filling (k : Kind) (s : List ℕ) (count : ℕ) (out : List Float) (rest : List ℕ) (i : ℕ) : Type 0 where
  pub within : i ≤ count
  pub long : length out ≡ count
  pub fine : NotRefused (take_cells k (count - i) rest)
  pub all : take_cells k count s ≡ is (take i out ++ list_in (take_cells k (count - i) rest))

pub filling-none : (k : Kind) (s : List ℕ) (out : List Float) → NotRefused (take_cells k (length out) s) → Filling k s (length out) out s 0
filling-none k s out h = record { within = zero-le; long = refl; fine = rw sub-zero h; all = rw sub-zero h }

-- others that are accepted with a cell before them are accepted, and stand behind it
others-fine : (x : Float) (others : Or (List Float)) → NotRefused (and_then others (λ cells. is (x ∷ cells)))
    → NotRefused others × (list_in (and_then others (λ cells. is (x ∷ cells))) ≡ x ∷ list_in others)
others-fine x (is cells) h = (refl, refl)
others-fine x (refused n) h = not-refused (sym h)

none-listed : (k : Kind) (s : List ℕ) → list_in (take_cells k 0 s) ≡ []
unfolding take_cells
none-listed k [] = refl
none-listed k (b ∷ s) = refl

module _ (k : Kind) (s : List ℕ) (count : ℕ) (out : List Float) (rest : List ℕ) (i : ℕ) (f : Filling k s count out rest i) where
  module _ (l : i < count) where
    to_read : count - i ≡ suc (count - (i + 1))
    to_read = omega (arith, f.long)

    one-read : (x : Float) (others : List Float) → take i out ++ x ∷ others ≡ take (i + 1) (set out i x) ++ others
    one-read x others = rw (add-one, take-suc-set out i x (omega (arith, f.long))) (sym (append_assoc (take i out) (x ∷ []) others))

    pub filling-next : (x : Float) (past : List ℕ) → is (record { cell = x; rest = past }) ≡ take_cell k rest → Filling k s count (set out i x) past (i + 1)
    unfolding take_cells
    filling-next x past e =
        let others = take_cells k (count - (i + 1)) past in
        let split : take_cells k (count - i) rest ≡ and_then others (λ cells. is (x ∷ cells)) = rw (to_read, ← e) in
        let o = others-fine x others (subst (λ (c : Or (List Float)). NotRefused c) split f.fine) in
        record {
          within = omega (arith, f.long);
          long = simp length-set f.long;
          fine = o.0;
          all = f.all ∙ rw (split, o.1) (ap is (one-read x (list_in others)));
        }

    pub filling-refused : {A : Type 0} (n : ℕ) → refused n ≡ take_cell k rest → A
    unfolding take_cells
    filling-refused n e =
        let bad : take_cells k (count - i) rest ≡ refused n = rw (to_read, ← e) in
        list-not-refused (take_cells k (count - i) rest) bad f.fine

  pub filling-done : count ≤ i → take_cells k count s ≡ is out
  filling-done l =
      let last : i ≡ length out = omega (arith, f.long, f.within) in
      let none : count - i ≡ 0 = omega (arith, f.long) in
      f.all ∙ rw (none, none-listed, last, take-length, append-nil)

-- ---- the whole sheet

-- a number that passed its test was taken, and passed it
pub tested-is : (test : ℕ → Bool) (refusal : ℕ) (o : Or Taken) (t : Taken) → tested test refusal o ≡ is t → (o ≡ is t) × (test t.number ≡ true)
tested-is test refusal o t e =
    let a = then_is o _ t e in
    let b = given_is (test a.0.number) refusal a.0 t a.2 in
    (a.1 ∙ ap is b.1, ap (λ (u : Taken). test u.number) (sym b.1) ∙ b.0)

-- the numbers that make a head
pub record HeadParts (s : List ℕ) (head : Head) : Type 0 where
  pub version : Taken
  pub kind : Taken
  pub width : Taken
  pub height : Taken
  pub version-is : take_version s ≡ is version
  pub kind-is : take_number version.rest ≡ is kind
  pub kind-known : kind_of kind.number ≡ is head.kind
  pub width_is : take_side kind.rest ≡ is width
  pub height-is : take_side width.rest ≡ is height
  pub wide : width.number ≡ head.width
  pub high : height.number ≡ head.height
  pub rest : height.rest ≡ head.rest

pub head-parts : (s : List ℕ) (head : Head) → take_head s ≡ is head → HeadParts s head
unfolding take_head
head-parts s head e =
    let version = then_is (take_version s) _ head e in
    let kind = then_is (take_number version.0.rest) _ head version.2 in
    let k = then_is (kind_of kind.0.number) _ head kind.2 in
    let width = then_is (take_side kind.0.rest) _ head k.2 in
    let height = then_is (take_side width.0.rest) _ head width.2 in
    let same = same-result height.2 in
    record {
      version = version.0;
      kind = kind.0;
      width = width.0;
      height = height.0;
      version-is = version.1;
      kind-is = kind.1;
      kind-known = k.1 ∙ ap is (ap (λ (d : Head). d.kind) same);
      width_is = width.1;
      height-is = height.1;
      wide = ap (λ (d : Head). d.width) same;
      high = ap (λ (d : Head). d.height) same;
      rest = ap (λ (d : Head). d.rest) same;
    }

-- its sides are in their range
pub record Sides (w h : ℕ) : Type 0 where
  pub width : is_sheet_side w ≡ true
  pub height : is_sheet_side h ≡ true

pub head-sides : (s : List ℕ) (head : Head) → take_head s ≡ is head → Sides head.width head.height
unfolding take_side
head-sides s head e =
    let p = head-parts s head e in
    record {
      width = ap is_sheet_side (sym p.wide) ∙ (tested-is is_sheet_side 36 (take_number p.kind.rest) p.width p.width_is).1;
      height = ap is_sheet_side (sym p.high) ∙ (tested-is is_sheet_side 36 (take_number p.width.rest) p.height p.height-is).1;
    }

pub side-most : (n : ℕ) → is_sheet_side n ≡ true → n ≤ sheet_side_most
side-most n e = leb-true n sheet_side_most (and_both (leb 1 n) (leb n sheet_side_most) e).1

-- so that the number of cells fits
pub sides-fit : (w h : ℕ) → Sides w h → w * h ≤ sheet_side_most * sheet_side_most
sides-fit w h z = mul-le-mul (side-most w z.width) (side-most h z.height)

-- ---- its cells were looked at: they are refused, or fine
module _ (s : List ℕ) (h : Head) (e : is h ≡ take_head s) where
  pub cells-refused : (n : ℕ) → refused n ≡ looked_at (cells_after_head h) → refused n ≡ checked_head s
  cells-refused n q = rw (← e) (go (cells_after_head h) q)
    where
      go : (cells : Or (List Float)) → refused n ≡ looked_at cells → refused n ≡ and_then cells (λ _. is h)
      go (is cells) q = cc
      go (refused m) q = cc

  pub cells-fine : (u : Unit) → is u ≡ looked_at (cells_after_head h) → is h ≡ checked_head s
  cells-fine u q = rw (← e) (go (cells_after_head h) q)
    where
      go : (cells : Or (List Float)) → is u ≡ looked_at cells → is h ≡ and_then cells (λ _. is h)
      go (is cells) q = refl
      go (refused m) q = cc

-- what a head says whose cells were looked at
pub record Looked (s : List ℕ) (head : Head) : Type 0 where
  pub taken : take_head s ≡ is head
  pub fine : NotRefused (cells_after_head head)
  pub says : read_sheet s ≡ is (sheet_with head (list_in (cells_after_head head)))

pub looked : (s : List ℕ) (head : Head) → checked_head s ≡ is head → Looked s head
unfolding read_sheet
looked s head e =
    let a = then_is (take_head s) _ head e in
    let b = then_is (cells_after_head a.0) _ head a.2 in
    let same : a.0 ≡ head = same-result b.2 in
    let taken : take_head s ≡ is head = a.1 ∙ ap is same in
    let fine : cells_after_head head ≡ is b.0 = ap cells_after_head (sym same) ∙ b.1 in
    record { taken = taken; fine = rw fine; says = rw (taken, fine) }

-- and what is refused
pub looked-refused : (s : List ℕ) (n : ℕ) → checked_head s ≡ refused n → read_sheet s ≡ refused n
unfolding read_sheet
looked-refused s n = by-head (take_head s)
  where
    by-cells : (head : Head) (cells : Or (List Float)) → and_then cells (λ _. is head) ≡ refused n → and_then cells (λ cells. is (sheet_with head cells)) ≡ refused n
    by-cells head (is cells) e = not-refused e
    by-cells head (refused m) e = rw (same-refusal e)

    by-head : (o : Or Head) → and_then o (λ head. and_then (cells_after_head head) (λ cells. is head)) ≡ refused n
        → and_then o (λ head. and_then (cells_after_head head) (λ cells. is (sheet_with head cells))) ≡ refused n
    by-head (is head) e = by-cells head (cells_after_head head) e
    by-head (refused m) e = rw (same-refusal e)

-- ---- what `read_sheet` does, by its tests

pub read-refused : (s : List ℕ) (d : Refusal) (out : List Float) → checked_head s ≡ refused (number_of d) → ReadOutcome (Err d) (read_sheet s) out out
read-refused s d out e = let r = looked-refused s (number_of d) e in record { answers = rw r; outs = rw r }

module _ (s : List ℕ) (h : Head) (e : checked_head s ≡ is h) (out : List Float) where
  pub read-unfit : (length out ≡ h.width * h.height → ⊥) → ReadOutcome (Err refusal.OutputLength) (read_sheet s) out out
  read-unfit far =
      let l = looked s h e in
      let t = ne_eqb (length out) (h.width * h.height) far in
      record { answers = rw (l.says, t); outs = rw (l.says, t) }

  pub read-fine : length out ≡ h.width * h.height → NotRefused (take_cells h.kind (length out) h.rest)
  read-fine fit = rw fit (looked s h e).fine

  pub read_done : length out ≡ h.width * h.height → (out' : List Float) → take_cells h.kind (length out) h.rest ≡ is out'
      → ReadOutcome (Ok (record { kind = h.kind; width = h.width; height = h.height })) (read_sheet s) out out'
  read_done fit out' f =
      let l = looked s h e in
      let t = eq-eqb (length out) (h.width * h.height) fit in
      let cells : cells_after_head h ≡ is out' = ap (λ (n : ℕ). take_cells h.kind n h.rest) (sym fit) ∙ f in
      record { answers = rw (l.says, t); outs = rw (l.says, t, cells) }
