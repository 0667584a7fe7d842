-- The list while it is filled: the records of the cells seen so far, and beyond them what was there. Assumes nothing.
use Rattle.std.proofs.Common.{◌≡◌, ℕ, zero, suc, Bool, ◌+◌, ◌*◌, ◌≤◌, ◌<◌, true, false, cond, List, [], ◌∷◌, ◌++◌, length, get_or, take, drop, set, add-zero, refl, sym, ap, ◌∙◌, arith, append_assoc, drop-cons, add-one, zero-add, append-nil, ltb-false, lit<}
use Rattle.std.proofs.lemmas.List.{take-append-drop, nil_from_length}
use Rattle.std.proofs.lemmas.List.Sums.{count_by_more_yes, count_by_more_no, sum_by-take-le, sum_by-take-drop}
use borrow.Author.Tests.{not-false}
use lib.Seq.{take-suc, take-length, set_at, length-take-le}
use lib.Ieee.{Float, nan}
use Rattle.options.specs.Limits.{side_most}
use Rattle.refusals.specs.Answered.{first_of}
use Rattle.refusals.specs.Steps.{is}
use Rattle.refusals.specs.Outcome.{answer_for}
use Rattle.refusals.proofs.Answering.{none_of}
use Rattle.maps.specs.Map.{good_size}
use Rattle.maps.proofs.Facts.{good, pixels-small}
use Rattle.points.specs.declared.Intrinsics.{Intrinsics}
use Rattle.points.specs.declared.PointRecord.{PointRecord}
use Rattle.points.specs.Point.{is_positive}
use Rattle.points.specs.Records.{points_in, point_record, records_from, point_rows, filled_for}
use Rattle.points.proofs.Laws.{records-length}

-- what a map and a list for its points have that are not refused
pub record Asked (w h : ℕ) (cells : List Float) (k : Intrinsics) (m count : ℕ) : Type 0 where
  pub none : first_of (point_rows w h cells k m) ≡ 0
  pub counted : count ≡ points_in cells
  pub room : count ≤ m
  pub wide : 0 < w
  pub few : length cells ≤ side_most * side_most

accepted : {A : Type 0} (n : ℕ) {v made : A} → is v ≡ answer_for n made → (n ≡ 0) × (v ≡ made)
accepted zero e = (refl, cc)
accepted (suc n) e = cc

pub asked : (w h : ℕ) (cells : List Float) (k : Intrinsics) (m count : ℕ) → is count ≡ filled_for w h cells k m → Asked w h cells k m count
unfolding filled_for
asked w h cells k m count e =
    let a = accepted (first_of (point_rows w h cells k m)) e in
    let tests = none_of (point_rows w h cells k m) (lit< tt, (lit< tt, (lit< tt, (lit< tt, tt)))) a.0 in
    let g = good w h (length cells) (not-false (good_size w h (length cells)) tests.1.1.0) in
    record {
      none = a.0;
      counted = a.1;
      room = rw a.1 (ltb-false m (points_in cells) tests.1.1.1.0);
      wide = g.wide;
      few = omega (arith, g.long, pixels-small w h g.narrow g.low);
    }

records-append : (w : ℕ) (k : Intrinsics) (i : ℕ) (cs ds : List Float) → records_from w k i (cs ++ ds) ≡ records_from w k i cs ++ records_from w k (i + length cs) ds
unfolding records_from
records-append w k i [] ds = rw add-zero
records-append w k i (c ∷ cs) ds = rw (← moved i (length cs)) (one (is_positive c) (point_record w k i c) _ _ _ (records-append w k (suc i) cs ds))
  where
    moved : (i m : ℕ) → suc i + m ≡ i + suc m
    moved i m = omega arith

    one : (t : Bool) (r : PointRecord) (a b d : List PointRecord) → a ≡ b ++ d → cond t (r ∷ a) a ≡ cond t (r ∷ b) b ++ d
    one true r a b d e = ap (λ (l : List PointRecord). r ∷ l) e
    one false r a b d e = e

module _ (w : ℕ) (k : Intrinsics) (cells : List Float) (list : List PointRecord) where
  -- the records of the first i cells
  abbrev seen : ℕ → List PointRecord
  seen i = records_from w k 0 (take i cells)

  -- so far: n of them are written
  pub record Filling (n i : ℕ) (now : List PointRecord) : Type 0 where
    pub counted : n ≡ points_in (take i cells)
    pub done : now ≡ seen i ++ drop n list

  pub begins : Filling 0 0 list
  unfolding records_from
  begins = record { counted = refl; done = refl }

  module _ (i : ℕ) (b : i < length cells) where
    abbrev cell : Float
    cell = get_or cells i nan

    one-more : seen (i + 1) ≡ seen i ++ records_from w k i (cell ∷ [])
    one-more =
        rw (add-one, take-suc cells i nan b, records-append w k 0 (take i cells) (cell ∷ []), length-take-le i cells (omega arith), zero-add i) refl

    -- a cell that gives no point is passed over
    pub skips : (n : ℕ) (now : List PointRecord) → is_positive cell ≡ false → Filling n i now → Filling n (i + 1) now
    unfolding records_from
    skips n now none f =
        let e : seen (i + 1) ≡ seen i = rw none at one-more ∙ append-nil (seen i) in
        record { counted = f.counted ∙ sym (count_by_more_no is_positive cells i nan b none); done = rw e f.done }

    module _ (some : is_positive cell ≡ true) (n : ℕ) (now : List PointRecord) (f : Filling n i now) where
      more : points_in (take (i + 1) cells) ≡ n + 1
      more = count_by_more_yes is_positive cells i nan b some ∙ ap (λ (m : ℕ). m + 1) (sym f.counted)

      -- there is a further record
      pub within : n < points_in cells
      within = omega (arith, more, sum_by-take-le (λ x. cond (is_positive x) 1 0) cells (i + 1))

      -- and it is written, where there is room for it
      pub writes : points_in cells ≤ length list → Filling (n + 1) (i + 1) (set now n (point_record w k i cell))
      unfolding records_from
      writes room =
          let p = point_record w k i cell in
          let e : seen (i + 1) ≡ seen i ++ (p ∷ []) = rw some at one-more in
          let l : length (seen i) ≡ n = records-length w k 0 (take i cells) ∙ sym f.counted in
          record {
            counted = sym more;
            done =
                rw (f.done, drop-cons list n p (omega (arith, within, room)), set_at (seen i) (get_or list n p) (drop (suc n) list) p n l, e, add-one, append_assoc) refl;
          }

  -- no cell behind the last point has a record
  pub ends-early : (n i : ℕ) (now : List PointRecord) → n ≡ points_in cells → Filling n i now → now ≡ records_from w k 0 cells ++ drop (points_in cells) list
  ends-early n i now e f =
      let rest = records_from w k (0 + length (take i cells)) (drop i cells) in
      let left : points_in (drop i cells) ≡ 0 = omega (arith, sum_by-take-drop (λ x. cond (is_positive x) 1 0) cells i, f.counted, e) in
      let none : rest ≡ [] = nil_from_length rest (records-length w k (0 + length (take i cells)) (drop i cells) ∙ left) in
      let all : records_from w k 0 cells ≡ seen i = ap (records_from w k 0) (sym (take-append-drop i cells)) ∙ records-append w k 0 (take i cells) (drop i cells) ∙ ap (λ (l : List PointRecord). seen i ++ l) none ∙ append-nil (seen i) in
      f.done ∙ rw (all, e) refl

  -- all cells are seen
  pub ends : (n i : ℕ) (now : List PointRecord) → length cells ≡ i → Filling n i now → now ≡ records_from w k 0 cells ++ drop (points_in cells) list
  ends n i now e f = f.done ∙ rw (f.counted, ← e, take-length) refl
