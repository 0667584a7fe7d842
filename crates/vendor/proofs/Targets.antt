-- The target column of a pixel, and the raw cost there. Assumes nothing.
use Prim.Native.Nat.{ℕ, ◌+◌, ◌*◌, ◌≤◌, ◌<◌}
use mathlib.Core.Path.{◌≡◌, refl, sym, ap, ap₂, ◌∙◌, subst}
use mathlib.Core.Bool.{Bool, true, false, true≢false}
use mathlib.Core.List.{List, ◌++◌}
use lib.ListN.{drop, take-append-drop}
use native.Mathlib.Omega.{arith}
use borrow.Author.Tests.{ltb-true}
use Rattle.std.specs.Prelude.{Some, None}
use Rattle.std.specs.Bool.{then_some}
use lib.IntN.{ℤ, pos, negsuc, nat_abs, ◌+ℤ◌}
use lib.Signed.{lt_z}
use mir.Syntax.{w32, w64}
use mir.Val.{SFits, to_z, of_z}
use mir.ValLaws.{to_z-of_z, to_z_pos}
use Rattle.lists.proofs.Sizes.{sum-size, small-fits}
use Rattle.lists.proofs.Tests.{and_both}
use Rattle.options.proofs.Frames.{says-within, within-says}
use Rattle.options.specs.Limits.{first_most, shift_most}
use Rattle.options.specs.declared.RawCost.TheVariants.{Blank}
use Rattle.options.specs.declared.Side.TheVariants.{Left}
use Rattle.windows.specs.Table.{cross_at}
use Rattle.windows.specs.Window.{Inside, cells, window_sum}
use Rattle.options.specs.Frame.{within, is_in_frame}
use Rattle.costs.specs.Raw.{shift_of, pair_cost, raw_cost}
use Rattle.costs.specs.Rooms.{TablesOf, RoomOf, Pair, WindowsSummed}
use Rattle.costs.proofs.Frames.{Found, target_found, blank-unless}
use Rattle.costs.proofs.Signed.{shift-most}
use Rattle.vendor.specs.declared.Check.{Check}
use Rattle.vendor.specs.Verdict.{cost_at}
use Rattle.vendor.specs.Tests.{shift_at, column_in, target_of}
use Rattle.vendor.specs.Inner.{CheckSizes, Tabled}

-- ---- the tests, one after the other

-- a column left of the picture, and one that is not, where a window may lie within it
module _ (w r : ℕ) where
  pub column-left : (z : ℤ) → lt_z z (pos 0) ≡ true → None ≡ column_in w r z
  unfolding column_in
  column-left (pos n) e = absurd (omega (arith, ltb-true n 0 e))
  column-left (negsuc n) e = refl

  pub column-is : (z : ℤ) → lt_z z (pos 0) ≡ false → then_some (within w r (nat_abs z)) (nat_abs z) ≡ column_in w r z
  unfolding column_in
  column-is (pos n) e = refl
  column-is (negsuc n) e = absurd (true≢false e)

-- a pixel outside the inner frame, and one within it
module _ (q : Check) (x y k : ℕ) where
  pub off-frame : is_in_frame q.frame.w q.frame.h q.frame.r x y ≡ false → None ≡ target_of q x y k
  unfolding target_of
  off-frame e = rw e

  pub on-frame : is_in_frame q.frame.w q.frame.h q.frame.r x y ≡ true → column_in q.frame.w q.frame.r (pos x +ℤ shift_at q k) ≡ target_of q x y k
  unfolding target_of
  on-frame e = rw e

-- ---- the column as it is worked out, in 64 bits

-- a first disparity fits 32 bits
first_fits : (z : ℤ) → nat_abs z ≤ first_most → SFits w32 z
first_fits (pos n) l = record { sfits = omega arith }
first_fits (negsuc n) l = record { sfits = omega arith }

module _ (q : Check) (z : CheckSizes q) where
  -- the first disparity is read back from its bits
  first_read : to_z w32 (of_z w32 q.search.first) ≡ q.search.first
  first_read = to_z-of_z w32 q.search.first (first_fits q.search.first z.searched.close)

  pub first-cast : SFits w64 (to_z w32 (of_z w32 q.search.first))
  first-cast = rw first_read (small-fits q.search.first (omega (arith, z.searched.close)))

  first_back : to_z w64 (of_z w64 (to_z w32 (of_z w32 q.search.first))) ≡ q.search.first
  first_back = to_z-of_z w64 (to_z w32 (of_z w32 q.search.first)) first-cast ∙ first_read

  module _ (k : ℕ) (lk : k < q.search.count) where
    module _ (x : ℕ) (lx : x < q.frame.w) (s : ℤ) (e : s ≡ shift_of Left (to_z w64 (of_z w64 (to_z w32 (of_z w32 q.search.first)))) k) where
      -- the column is the pixel's plus the shift, and small
      shift_is : s ≡ shift_at q k
      shift_is = e ∙ ap (λ f. shift_of Left f k) first_back

      shift_small : nat_abs (shift_at q k) ≤ shift_most
      shift_small = shift-most q.search.first k z.searched.close (omega (arith, z.searched.few)) Left

      operands : to_z w64 x +ℤ to_z w64 (of_z w64 s) ≡ pos x +ℤ shift_at q k
      operands =
          ap₂ (λ a b. a +ℤ b) (to_z_pos w64 x (omega (arith, z.frame.w-most)))
          (ap (λ t. to_z w64 (of_z w64 t)) shift_is ∙ to_z-of_z w64 (shift_at q k) (small-fits (shift_at q k) (omega (arith, shift_small))))

      pub column-most : nat_abs (pos x +ℤ shift_at q k) ≤ x + shift_most
      column-most = omega (arith, sum-size (pos x) (shift_at q k), shift_small)

      column-small : SFits w64 (pos x +ℤ shift_at q k)
      column-small = small-fits (pos x +ℤ shift_at q k) (omega (arith, column-most, z.frame.w-most))

      pub column-back : to_z w64 (of_z w64 (to_z w64 x +ℤ to_z w64 (of_z w64 s))) ≡ pos x +ℤ shift_at q k
      column-back = rw operands (to_z-of_z w64 (pos x +ℤ shift_at q k) column-small)

-- ---- the raw cost, by the target column

-- a target column that is found: both windows lie within the pictures
pub record Aimed (q : Check) (x y k t : ℕ) : Type 0 where
  pub first : Inside q.frame.w q.frame.h x y q.frame.r
  pub second : Inside q.frame.w q.frame.h t y q.frame.r
  pub apart : pos x +ℤ shift_at q k ≡ pos t

-- no column is one
no-column : (t : ℕ) → None ≡ Some t → ⊥
no-column t e = let z : ◌≡◌ {A = ℕ} 0 1 = cc in omega arith

-- a column that is one, as it is found
module _ (w r : ℕ) where
  found_in : (z : ℤ) (t : ℕ) → column_in w r z ≡ Some t → Found w r z t
  unfolding column_in
  found_in (negsuc n) t e = absurd (no-column t e)
  found_in (pos n) t e = go (within w r n) refl e
    where
      go : (b : Bool) → within w r n ≡ b → then_some b n ≡ Some t → Found w r (pos n) t
      go true i e =
          let same : n ≡ t = cc in
          let s = within-says w r n i in
          subst (Found w r (pos n)) same (record { column = refl; left = s.0; right = s.1 })
      go false i e = absurd (no-column t e)

  in-found : (z : ℤ) (t : ℕ) → Found w r z t → column_in w r z ≡ Some t
  unfolding column_in
  in-found z t f = rw (f.column, says-within w r t f.left f.right)

module _ (q : Check) (x y k : ℕ) where
  -- a target column is found
  pub aimed : (t : ℕ) → Some t ≡ target_of q x y k → Aimed q x y k t
  aimed t e = go (is_in_frame q.frame.w q.frame.h q.frame.r x y) refl
    where
      go : (b : Bool) → is_in_frame q.frame.w q.frame.h q.frame.r x y ≡ b → Aimed q x y k t
      go false i = absurd (no-column t (off-frame q x y k i ∙ sym e))
      go true i =
          let f = found_in q.frame.w q.frame.r (pos x +ℤ shift_at q k) t (on-frame q x y k i ∙ sym e) in
          let both = and_both (within q.frame.w q.frame.r x) (within q.frame.h q.frame.r y) i in
          let here = within-says q.frame.w q.frame.r x both.0 in
          let row = within-says q.frame.h q.frame.r y both.1 in
          record {
            first = record { left = here.0; right = here.1; top = row.0; bottom = row.1 };
            second = record { left = f.left; right = f.right; top = row.0; bottom = row.1 };
            apart = f.column;
          }

  -- and where there is none the raw cost is blank
  pub missed : None ≡ target_of q x y k → (left right : List ℕ) → Blank ≡ cost_at q left right x y k
  unfolding raw_cost
  missed none left right =
      blank-unless q.frame.w q.frame.h q.frame.r left right (shift_at q k) x y
      (λ i x' f.
      no-column x'
      (none
      ∙ sym (on-frame q x y k (rw (says-within q.frame.w q.frame.r x i.left i.right, says-within q.frame.h q.frame.r y i.top i.bottom)))
      ∙ in-found q.frame.w q.frame.r (pos x +ℤ shift_at q k) x' f))

-- the raw cost is that of the two windows
pub aimed-cost : {q : Check} {x y k t : ℕ} → Aimed q x y k t → (left right : List ℕ) → pair_cost q.frame.w q.frame.r left right (shift_at q k) x t y ≡ cost_at q left right x y k
unfolding raw_cost
aimed-cost {q} {x} {y} {k} {t} a left right =
    target_found q.frame.w q.frame.h q.frame.r left right (shift_at q k) x y a.first t
    (record { column = a.apart; left = a.second.left; right = a.second.right })

-- ---- what the functions ask that work the raw cost out
-- the room's first cells are the two pictures' tables
pub standing : {q : Check} {room left right : List ℕ} → Tabled room q left right → TablesOf room q.frame.w q.frame.h q.frame.r left right
standing {q} {room} t = record {
  rest = drop (4 * cells q.frame.w q.frame.h) room;
  frame = t.sized.frame;
  first = t.first;
  second = t.second;
  is = sym (take-append-drop (4 * cells q.frame.w q.frame.h) room) ∙ ap (λ l. l ++ drop (4 * cells q.frame.w q.frame.h) room) t.held;
}

module _ {q : Check} {x y k t : ℕ} (a : Aimed q x y k t) {room left right : List ℕ} where
  -- the cost from their sum
  pub aimed-summed : Tabled room q left right → (products : ℕ) → products ≡ window_sum (cross_at q.frame.w left right (shift_at q k)) x y q.frame.r → WindowsSummed room q.frame.w q.frame.h q.frame.r x t y products
  aimed-summed z products e = record {
    s = shift_at q k;
    a = left;
    b = right;
    held = standing z;
    first = a.first;
    second = a.second;
    apart = a.apart;
    sum = e;
  }

-- the cost from the products' table
pub aimed-pair : {q : Check} {x y k t : ℕ} {room left right : List ℕ} → Aimed q x y k t → RoomOf room q.frame.w q.frame.h q.frame.r (shift_at q k) left right → Pair room q.frame.w q.frame.h q.frame.r x t y
aimed-pair {q} {k = k} {left = left} {right = right} a held = record {
  s = shift_at q k;
  a = left;
  b = right;
  held = held;
  first = a.first;
  second = a.second;
  apart = a.apart;
}
