-- A row of products, in three parts: before, within and after the columns that both rows have. Assumes nothing.
use Prim.Native.Nat.{ℕ, ◌+◌, ◌*◌, ◌^◌, ◌-◌, ◌≤◌, ◌<◌}
use mathlib.Core.Path.{◌≡◌, refl, sym, ap, ap₂, ◌∙◌}
use mathlib.Core.List.{List, [], ◌++◌, append-nil, append_assoc}
use native.Mathlib.Nat.{mul-zero, add-zero, zero-add, add-sub_cancel_left}
use native.Mathlib.Omega.{arith}
use borrow.Rule.Slice.PartMut.{put_mid}
use lib.IntN.{ℤ}
use lib.ListN.{length, take, drop, length-drop, length-append, drop_of_length-le}
use lib.Seq.{length-take-le, take-length, take_at, drop-drop, get_or-drop}
use Rattle.windows.specs.declared.Overlap.{Overlap}
use Rattle.lists.specs.Sums.{sum_to}
use Rattle.windows.specs.Table.{RowReady, next_row, level_in, cross_in}
use Rattle.windows.specs.Parts.{Beside, sums_below}
use Rattle.lists.proofs.Sums.{sum_to-same, sum_to-split, sum_to-bound, sum_to-none}
use Rattle.windows.proofs.Rows.{below-length, below-same, below_join, row-is}
use Rattle.windows.proofs.Shifts.{Meets}

-- the part of a row that the code lends
abbrev pub lent : ℕ → ℕ → List ℕ → List ℕ
lent first count row = take (first + count - first) (drop first row)

module _ (a b : List ℕ) (s : ℤ) (o : Overlap) (m : Meets (length a) (length b) s o) where
  abbrev end : ℕ
  end = o.first + o.count

  abbrev sums : ℕ → ℕ
  sums x = sum_to x (cross_in a b s)

  -- the products in the columns that both have
  abbrev pub both : ℕ → ℕ
  both i = level_in a (o.first + i) * level_in b (o.other + i)

  -- the row's sums before those columns, among them and after them
  before : (x : ℕ) → x ≤ o.first → sums x ≡ 0
  before x l = sum_to-none x _ (λ i h. ap (λ v. level_in a i * v) (m.left b i (omega arith)) ∙ mul-zero (level_in a i))

  among : (i : ℕ) → i ≤ o.count → sums (o.first + i) ≡ sum_to i both
  among i l =
      sum_to-split o.first i (cross_in a b s)
      ∙ ap₂ (λ p q. p + q) (before o.first (omega arith)) (sum_to-same i _ _ (λ k h. ap (λ v. level_in a (o.first + k) * v) (m.both b k (omega arith))))
      ∙ zero-add (sum_to i both)

  after : (i : ℕ) → end + i ≤ length a → sums (end + i) ≡ sum_to o.count both
  after i l =
      sum_to-split end i (cross_in a b s)
      ∙ ap₂ (λ p q. p + q)
      (among o.count (omega arith))
      (sum_to-none i _ (λ k h. ap (λ v. level_in a (end + k) * v) (m.right b refl (end + k) (omega arith) (omega arith)) ∙ mul-zero (level_in a (end + k))))
      ∙ add-zero (sum_to o.count both)

  module _ (above : List ℕ) (ready : RowReady (length a) above) where
    long : end ≤ length above
    long = omega (arith, ready.size, m.end)

    pub lent-count : length (lent o.first o.count above) ≡ o.count
    lent-count = rw add-sub_cancel_left (length-take-le o.count (drop o.first above) (rw length-drop (omega (arith, long))))

    module _ (run : ℕ) (sum : run ≡ sum_to (length (lent o.first o.count above)) both) where
      whole : run ≡ sum_to o.count both
      whole = rw lent-count at sum

      pub run_small : ((x : ℕ) → cross_in a b s x ≤ 65025) → run < 2 ^ 52
      run_small small =
          omega (arith, whole, among o.count (omega arith), sum_to-bound 65025 end (cross_in a b s) (λ x _. small x), m.end, ready.width)

      -- the three parts make the row
      parts : sums_below (λ _. 0) (take o.first above) ++ (sums_below (λ i. sum_to i both) (lent o.first o.count above) ++ sums_below (λ _. run) (drop end above)) ≡ next_row (length a) (cross_in a b s) above
      parts =
          let rest = drop o.first above in
          let room : o.count ≤ length rest = rw length-drop (omega (arith, long)) in
          let first : sums_below (λ _. 0) (take o.first above) ≡ sums_below sums (take o.first above) =
          below-same _ _ _ (λ i l. sym (before i (omega (arith, l, length-take-le o.first above (omega (arith, long)))))) in
          let second : sums_below (λ i. sum_to i both) (lent o.first o.count above) ≡ sums_below (λ i. sums (o.first + i)) (take o.count rest) =
          below-same _ _ _ (λ i l. sym (among i (omega (arith, l, lent-count)))) ∙ ap (λ k. sums_below (λ i. sums (o.first + i)) (take k rest)) (add-sub_cancel_left o.first o.count) in
          let third : sums_below (λ _. run) (drop end above) ≡ sums_below (λ i. sums (o.first + (o.count + i))) (drop o.count rest) =
          rw drop-drop (below-same _ _ _ (λ i l. whole ∙ sym (after i (omega (arith, l, length-drop end above, ready.size))) ∙ ap sums (omega arith))) in
          ap₂ (λ p q. p ++ q) first
          (ap₂ (λ p q. p ++ q) second third ∙ sym (below_join o.count (λ i. sums (o.first + i)) rest room))
          ∙ sym (below_join o.first sums above (omega (arith, long)))
          ∙ sym (row-is (length a) (cross_in a b s) above ready.size)

      -- and so does what the code leaves of the row, each part in its place
      module _ (first second below : List ℕ) (same : length below ≡ length above) (e₁ : first ≡ sums_below (λ _. 0) (take o.first above)) (e₂ : second ≡ sums_below (λ i. sum_to i both) (lent o.first o.count above)) where
        abbrev two : List ℕ
        two = put_mid o.first (end - o.first) (first ++ drop o.first below) second

        abbrev tail : List ℕ
        tail = drop (end - o.first) (drop o.first (first ++ drop o.first below))

        one-long : length first ≡ o.first
        one-long = ap length e₁ ∙ below-length _ (take o.first above) ∙ length-take-le o.first above (omega (arith, long))

        more-long : length second ≡ o.count
        more-long = ap length e₂ ∙ below-length _ (lent o.first o.count above) ∙ lent-count

        two-is : two ≡ first ++ second ++ tail
        two-is = rw (take_at first (drop o.first below) o.first one-long) (sym (append_assoc first second tail))

        two-long : length two ≡ length above
        two-long = rw two-is (simp (length-append, length-drop, one-long, more-long) (omega (arith, long, same)))

        pub third-ready : Beside (take (length above - end) (drop end above)) (take (length two - end) (drop end two))
        third-ready =
            rw (← length-drop end above, ← length-drop end two, take-length, take-length)
            record {
              same = rw (length-drop, length-drop) (ap (λ n. n - end) two-long);
              room = λ x. rw get_or-drop (ready.room (end + x));
            }

        pub row_made : (third : List ℕ) → third ≡ sums_below (λ _. run) (take (length above - end) (drop end above)) → put_mid end (length two - end) two third ≡ next_row (length a) (cross_in a b s) above
        row_made third e₃ =
            let kept : take end two ≡ first ++ second =
            ap (take end) two-is ∙ take_at (first ++ second) tail end (length-append first second ∙ omega (arith, one-long, more-long)) in
            let none : drop (length two - end) (drop end two) ≡ [] =
            drop_of_length-le (drop end two) {i = length two - end} (omega (arith, length-drop end two)) in
            let rest : take (length above - end) (drop end above) ≡ drop end above =
            ap (λ n. take n (drop end above)) (sym (length-drop end above)) ∙ take-length (drop end above) in
            rw (kept, none, append-nil)
            (append_assoc first second third ∙ ap₂ (λ p q. p ++ q) e₁ (ap₂ (λ p q. p ++ q) e₂ (e₃ ∙ ap (sums_below (λ _. run)) rest)) ∙ parts)
