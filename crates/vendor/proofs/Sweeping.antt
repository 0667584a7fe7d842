-- The room while a map is swept, and the first pixel for which the questions so far do not hold. Assumes nothing.
use Prim.Native.Nat.{ℕ, ◌+◌, ◌*◌, ◌-◌, ◌≤◌, ◌<◌}
use mathlib.Core.Path.{◌≡◌, refl, sym, ap, ◌∙◌}
use mathlib.Core.Bool.{Bool, ◌&&◌, and-true, and_assoc}
use mathlib.Core.List.{List, ◌++◌, append_assoc}
use native.Mathlib.Nat.{le_antisymm}
use native.Mathlib.Numerals.{add-one}
use native.Mathlib.Omega.{arith}
use borrow.Rule.Slice.PartMut.{put_mid, mid_of, post_of, mid_len, same_len_mid, drop_put}
use lib.IntN.{ℤ}
use lib.Ieee.{Float}
use lib.ListN.{length, take, drop, length-append}
use lib.Seq.{take_at}
use Rattle.lists.specs.Lists.{all_below, first_not}
use Rattle.windows.specs.Table.{table_of, cross_at}
use Rattle.windows.specs.Window.{cells}
use Rattle.windows.proofs.Tables.{length-table}
use Rattle.costs.specs.Roots.{picture_tables}
use Rattle.costs.specs.Rooms.{Picture, TablesOf, five_parts, RoomOf}
use Rattle.costs.proofs.Readings.{tables-of}
use Rattle.costs.proofs.Volumes.{length-picture}
use Rattle.vendor.specs.declared.Check.{Check}
use Rattle.vendor.specs.declared.cells.Question.TheVariants.{Fit, Unbeaten}
use Rattle.vendor.specs.Verdict.{first_bad}
use Rattle.vendor.specs.Tests.{holds_at}
use Rattle.vendor.specs.Inner.{CheckSizes}
use Rattle.lists.proofs.Firsts.{first-both, first-same, first-most}
use Rattle.vendor.proofs.Passing.{passes-holds}

-- ---- the room
module _ {room : List ℕ} {w h r : ℕ} {a b : List ℕ} (t : TablesOf room w h r a b) where
  -- the pictures' tables take four parts of five
  tables-size : length (picture_tables w h r a ++ picture_tables w h r b) ≡ 4 * cells w h
  tables-size = length-append (picture_tables w h r a) (picture_tables w h r b) ∙ omega (arith, length-picture w h r a, length-picture w h r b)

  -- and are what the room begins with
  tables-are : take (4 * cells w h) room ≡ picture_tables w h r a ++ picture_tables w h r b
  tables-are = ap (take (4 * cells w h)) t.is ∙ take_at (picture_tables w h r a ++ picture_tables w h r b) t.rest (4 * cells w h) tables-size

module _ {room : List ℕ} {w h r : ℕ} {a b : List ℕ} (t : TablesOf room w h r a b) (fits : 5 * cells w h ≤ length room) where
  -- the room with another table of products
  abbrev refilled : List ℕ → List ℕ
  refilled part = put_mid (4 * cells w h) (5 * cells w h - 4 * cells w h) room part

  -- the products' table as it is lent
  pub lent-size : length (mid_of (4 * cells w h) (5 * cells w h - 4 * cells w h) room) ≡ cells w h
  lent-size = mid_len (4 * cells w h) (5 * cells w h) room fits ∙ size (cells w h)
    where
      size : (c : ℕ) → 5 * c - 4 * c ≡ c
      size c = omega arith

  module _ (s : ℤ) (part : List ℕ) (made : part ≡ table_of w h (cross_at w a b s)) where
    -- the table that is put there has its size
    part-size : length part ≡ cells w h
    part-size = ap length made ∙ length-table w h _

    -- with the products filled the room has its five parts
    pub five-parts : RoomOf (refilled part) w h r s a b
    unfolding five_parts
    five-parts = record {
      rest = post_of (4 * cells w h) (5 * cells w h - 4 * cells w h) room;
      frame = t.frame;
      first = t.first;
      second = t.second;
      is = rw (tables-are t, made) (sym (append_assoc (picture_tables w h r a ++ picture_tables w h r b) (table_of w h (cross_at w a b s)) (post_of (4 * cells w h) (5 * cells w h - 4 * cells w h) room)));
    }

    -- the room is as long as it was
    refilled-size : length (refilled part) ≡ length room
    refilled-size = same_len_mid (4 * cells w h) (5 * cells w h - 4 * cells w h) room part (part-size ∙ sym lent-size)

    -- the cells behind are as they were
    refilled_rest : drop (5 * cells w h) (refilled part) ≡ drop (5 * cells w h) room
    refilled_rest = drop_put (4 * cells w h) (5 * cells w h) room part (omega arith) fits (omega (arith, part-size))

-- ---- the loop over the indices
-- what is asked of pixel p before index k: whether its own raw cost is fit, and not beaten by that of any index below k
abbrev pub asked : Check → List ℕ → List ℕ → List Float → ℕ → ℕ → Bool
asked q left right map k p = holds_at q left right Fit map p && all_below k (λ j. holds_at q left right (Unbeaten j) map p)

-- the limit is the first pixel for which that does not hold, and the pictures' tables stand in the room
pub record SweepInv (q : Check) (left right : List ℕ) (map : List Float) (room₀ room : List ℕ) (limit k : ℕ) : Type 0 where
  pub within : k ≤ q.search.count
  pub room-size : length room ≡ length room₀
  pub tables : TablesOf room q.frame.w q.frame.h q.frame.r left right
  pub rest : drop (5 * cells q.frame.w q.frame.h) room ≡ drop (5 * cells q.frame.w q.frame.h) room₀
  pub first : limit ≡ first_not (q.frame.w * q.frame.h) (asked q left right map k)

-- before the first index: the pixels are asked for their own raw cost only
pub sweep-start : (q : Check) (left right : List ℕ) (map : List Float) (room : List ℕ) (limit : ℕ) → TablesOf room q.frame.w q.frame.h q.frame.r left right
    → limit ≡ first_not (q.frame.w * q.frame.h) (holds_at q left right Fit map) → SweepInv q left right map room room limit 0
unfolding all_below
sweep-start q left right map room limit t e = record {
  within = omega arith;
  room-size = refl;
  tables = t;
  rest = refl;
  first = e ∙ first-same (q.frame.w * q.frame.h) _ _ (λ p _. sym (and-true (holds_at q left right Fit map p)));
}

module _ {q : Check} {left right : List ℕ} {map : List Float} {room₀ room : List ℕ} {limit k : ℕ} (i : SweepInv q left right map room₀ room limit k) where
  -- the limit is no further than the last pixel's end
  pub limit-most : limit ≤ q.frame.w * q.frame.h
  limit-most = rw i.first (first-most (q.frame.w * q.frame.h) (asked q left right map k))

  -- the limit after one index more
  next-first : (next : ℕ) → next ≡ first_not limit (holds_at q left right (Unbeaten k) map) → next ≡ first_not (q.frame.w * q.frame.h) (asked q left right map (k + 1))
  unfolding all_below
  next-first next e =
      e
      ∙ ap (λ n. first_not n (holds_at q left right (Unbeaten k) map)) i.first
      ∙ first-both (q.frame.w * q.frame.h) (asked q left right map k) (holds_at q left right (Unbeaten k) map)
      ∙ first-same (q.frame.w * q.frame.h) _ _ (λ p _. rw (add-one k) (and_assoc (holds_at q left right Fit map p) (all_below k (λ j. holds_at q left right (Unbeaten j) map p)) (holds_at q left right (Unbeaten k) map p)))

  -- one index more: the products' table is filled for it, and the limit moved
  pub sweep-again : (fits : 5 * cells q.frame.w q.frame.h ≤ length room) (s : ℤ) (part : List ℕ) → part ≡ table_of q.frame.w q.frame.h (cross_at q.frame.w left right s) → k < q.search.count
      → (next : ℕ) → next ≡ first_not limit (holds_at q left right (Unbeaten k) map) → SweepInv q left right map room₀ (refilled i.tables fits part) next (k + 1)
  sweep-again fits s part made more next e = record {
    within = omega arith;
    room-size = refilled-size i.tables fits s part made ∙ i.room-size;
    tables = tables-of (five-parts i.tables fits s part made);
    rest = refilled_rest i.tables fits s part made ∙ i.rest;
    first = next-first next e;
  }

  -- after the last index every pixel before the limit passes
  pub sweep-done : CheckSizes q → Picture q.frame.w q.frame.h left → Picture q.frame.w q.frame.h right → q.search.count ≤ k → limit ≡ first_bad q left right map
  sweep-done z pl pr l =
      i.first
      ∙ ap (λ n. first_not (q.frame.w * q.frame.h) (asked q left right map n)) (le_antisymm i.within l)
      ∙ first-same (q.frame.w * q.frame.h) _ _ (λ p _. passes-holds q left right z pl pr map p)
