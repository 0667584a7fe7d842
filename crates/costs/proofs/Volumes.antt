-- The volume from its planes, and the room meanwhile. Assumes nothing.
use Prim.Native.Nat.{ℕ, ◌+◌, ◌*◌, ◌-◌, ◌≤◌, ◌<◌}
use mathlib.Core.Path.{◌≡◌, refl, sym, ap, ap₂, ◌∙◌}
use mathlib.Core.List.{List, [], ◌++◌, append_assoc}
use native.Mathlib.Nat.{zero-mul, le_antisymm, sub-zero}
use native.Mathlib.Omega.{arith}
use borrow.Rule.Slice.PartMut.{put_mid, mid_of, post_of, mid_len, same_len_mid, take_put, drop_put}
use lib.IntN.{ℤ}
use lib.Ieee.{Float}
use lib.ListN.{length, take, drop, replicate, length-append, length-drop}
use lib.Seq.{take_at, drop-append-add, drop-drop}
use Rattle.options.specs.declared.Side.{Side}
use Rattle.windows.specs.Table.{table_of, cross_at}
use Rattle.windows.proofs.Tables.{length-table}
use Rattle.lists.proofs.Lists.{put_next, list_of-same, filled-end}
use Rattle.lists.specs.Lists.{list_of, cleared}
use Rattle.costs.specs.Raw.{shift_of}
use Rattle.costs.specs.Roots.{window_table, sum_in, root_in, picture_tables}
use Rattle.windows.specs.Window.{cells}
use Rattle.costs.specs.Rooms.{WindowFits, Picture, five_parts, RoomOf}
use Rattle.costs.specs.Volume.{plane_cell, plane_cells, planes_cell, planes_of}
use Rattle.lists.proofs.Rows.{in-column, in-row}
use Rattle.costs.proofs.Readings.{length-windows}
use Rattle.costs.proofs.Planes.{next-part}

-- plane k is part k of the volume
pub plane-part : (side : Side) (w h r : ℕ) (first : ℤ) (a b : List ℕ) (k : ℕ) (s : ℤ) → s ≡ shift_of side first k
    → plane_cells w h r a b s ≡ list_of (w * h) (λ i. planes_cell side w h r first a b (k * (w * h) + i))
unfolding plane_cells
plane-part side w h r first a b k s e =
    list_of-same (w * h) _ _
    (λ p l.
    ap (λ z. plane_cell w h r a b z p) e
    ∙ sym (ap₂ (λ j q. plane_cell w h r a b (shift_of side first j) q) (in-row (w * h) p k l) (in-column (w * h) p k l)))

-- the loop over the indices: k planes are filled, and the pictures' tables stand in the room
pub record PlanesInv (side : Side) (w h r : ℕ) (first : ℤ) (count : ℕ) (a b : List ℕ) (out₀ : List Float) (room₀ : List ℕ) (out : List Float) (room : List ℕ) (k : ℕ) : Type 0 where
  pub within : k ≤ count
  pub out-size : length out ≡ count * (w * h)
  pub room-size : length room ≡ length room₀
  pub tables : take (4 * cells w h) room ≡ picture_tables w h r a ++ picture_tables w h r b
  pub rest : drop (5 * cells w h) room ≡ drop (5 * cells w h) room₀
  pub filled : out ≡ list_of (k * (w * h)) (planes_cell side w h r first a b) ++ drop (k * (w * h)) out₀

pub planes-start : (side : Side) (w h r : ℕ) (first : ℤ) (count : ℕ) (a b : List ℕ) (out : List Float) (room : List ℕ)
    → length out ≡ count * (w * h) → take (4 * cells w h) room ≡ picture_tables w h r a ++ picture_tables w h r b
    → PlanesInv side w h r first count a b out room out room 0
unfolding list_of
planes-start side w h r first count a b out room long is = record {
  within = omega arith;
  out-size = long;
  room-size = refl;
  tables = is;
  rest = refl;
  filled = rw zero-mul refl;
}

module _ {side : Side} {w h r : ℕ} {first : ℤ} {count : ℕ} {a b : List ℕ} {out₀ : List Float} {room₀ : List ℕ} {out : List Float} {room : List ℕ} {k : ℕ}
    (i : PlanesInv side w h r first count a b out₀ room₀ out room k) (fits : 5 * cells w h ≤ length room₀) where
  abbrev filled_room : List ℕ → List ℕ
  filled_room part = put_mid (4 * cells w h) (5 * cells w h - 4 * cells w h) room part

  -- the products' table as it is lent
  pub lent-size : length (mid_of (4 * cells w h) (5 * cells w h - 4 * cells w h) room) ≡ cells w h
  lent-size = mid_len (4 * cells w h) (5 * cells w h) room (omega (arith, i.room-size)) ∙ size (cells w h)
    where
      size : (c : ℕ) → 5 * c - 4 * c ≡ c
      size c = omega arith

  module _ (s : ℤ) (part : List ℕ) (made : part ≡ table_of w h (cross_at w a b s)) where
    part-size : length part ≡ cells w h
    part-size = ap length made ∙ length-table w h _

    -- with the products filled the room has its five parts
    pub five-parts : WindowFits w h r → Picture w h a → Picture w h b → RoomOf (filled_room part) w h r s a b
    unfolding five_parts
    five-parts f pa pb = record {
      rest = post_of (4 * cells w h) (5 * cells w h - 4 * cells w h) room;
      frame = f;
      first = pa;
      second = pb;
      is = rw (i.tables, made) (sym (append_assoc (picture_tables w h r a ++ picture_tables w h r b) (table_of w h (cross_at w a b s)) (post_of (4 * cells w h) (5 * cells w h - 4 * cells w h) room)));
    }

    pub filled-size : length (filled_room part) ≡ length room₀
    filled-size = same_len_mid (4 * cells w h) (5 * cells w h - 4 * cells w h) room part (part-size ∙ sym lent-size) ∙ i.room-size

    pub planes-again : k < count → s ≡ shift_of side first k → (plane : List Float) → length plane ≡ length (mid_of (k * (w * h)) (k * (w * h) + w * h - k * (w * h)) out) → plane ≡ plane_cells w h r a b s
        → PlanesInv side w h r first count a b out₀ room₀ (put_mid (k * (w * h)) (k * (w * h) + w * h - k * (w * h)) out plane) (filled_room part) (k + 1)
    planes-again more e plane long is = record {
      within = omega arith;
      out-size = same_len_mid (k * (w * h)) (k * (w * h) + w * h - k * (w * h)) out plane long ∙ i.out-size;
      room-size = filled-size;
      tables = take_put (4 * cells w h) (5 * cells w h - 4 * cells w h) room part (omega (arith, i.room-size)) ∙ i.tables;
      rest = drop_put (4 * cells w h) (5 * cells w h) room part (omega arith) (omega (arith, i.room-size)) (omega (arith, part-size)) ∙ i.rest;
      filled = next-part (w * h) k _ out₀ out plane i.filled (is ∙ plane-part side w h r first a b k s e);
    }

pub planes-done : {side : Side} {w h r : ℕ} {first : ℤ} {count : ℕ} {a b : List ℕ} {out₀ : List Float} {room₀ : List ℕ} {out : List Float} {room : List ℕ} {k : ℕ}
    → PlanesInv side w h r first count a b out₀ room₀ out room k → length out₀ ≡ count * (w * h) → count ≤ k → out ≡ planes_of side w h r first count a b
unfolding planes_of
planes-done {w = w} {h = h} i long l = i.filled ∙ filled-end _ _ _ _ (ap (λ n. n * (w * h)) (le_antisymm i.within l)) long

pub length-picture : (w h r : ℕ) (pic : List ℕ) → length (picture_tables w h r pic) ≡ 2 * cells w h
unfolding picture_tables
length-picture w h r pic = length-append (window_table w h r (sum_in w r pic)) (window_table w h r (root_in w r pic)) ∙ omega (arith, length-windows w h r (sum_in w r pic), length-windows w h r (root_in w r pic))

-- both pictures' tables are put into the room
module _ (w h r : ℕ) (a b room P Q : List ℕ) (p : P ≡ picture_tables w h r a) (q : Q ≡ picture_tables w h r b) where
  abbrev both : List ℕ
  both = put_mid (2 * cells w h) (4 * cells w h - 2 * cells w h) (put_mid 0 (2 * cells w h - 0) room P) Q

  both-are : both ≡ picture_tables w h r a ++ picture_tables w h r b ++ drop (4 * cells w h) room
  both-are =
      let c = cells w h in
      let A = picture_tables w h r a in
      let B = picture_tables w h r b in
      let r₁ = put_mid 0 (2 * c - 0) room A in
      let s₁ : r₁ ≡ A ++ drop (2 * c) room = put_next [] room room A 0 (2 * c) (omega arith) refl refl in
      rw (p, q) (put_next A room r₁ B (2 * c) (4 * c) (omega arith) (length-picture w h r a) s₁)

  both-length : length (picture_tables w h r a ++ picture_tables w h r b) ≡ 4 * cells w h
  both-length = length-append (picture_tables w h r a) (picture_tables w h r b) ∙ omega (arith, length-picture w h r a, length-picture w h r b)

  pub both-tables : take (4 * cells w h) both ≡ picture_tables w h r a ++ picture_tables w h r b
  both-tables = rw both-are (take_at (picture_tables w h r a ++ picture_tables w h r b) (drop (4 * cells w h) room) (4 * cells w h) both-length)

  pub both-size : 4 * cells w h ≤ length room → length both ≡ length room
  both-size l = ap length both-are ∙ length-append (picture_tables w h r a ++ picture_tables w h r b) (drop (4 * cells w h) room) ∙ omega (arith, both-length, length-drop (4 * cells w h) room)

  pub both_rest : drop (5 * cells w h) both ≡ drop (5 * cells w h) room
  both_rest =
      let c = cells w h in
      let five : 5 * c ≡ length (picture_tables w h r a ++ picture_tables w h r b) + c = omega (arith, both-length) in
      let end : 4 * c + c ≡ 5 * c = omega arith in
      ap₂ (λ n l. drop n l) five both-are
      ∙ drop-append-add (picture_tables w h r a ++ picture_tables w h r b) (drop (4 * c) room) c
      ∙ drop-drop c (4 * c) room
      ∙ ap (λ n. drop n room) end

-- the first n cells are set to zero
pub cleared-is : (n : ℕ) (before room zeros : List ℕ) → zeros ≡ replicate (length (mid_of 0 (n - 0) room)) 0 → n ≤ length room → drop n room ≡ drop n before
    → put_mid 0 (n - 0) room zeros ≡ cleared 0 n before
cleared-is n before room zeros made fits same =
    let size : length (mid_of 0 (n - 0) room) ≡ n = mid_len 0 n room fits ∙ sub-zero n in
    ap₂ (λ z l. z ++ l) (made ∙ ap (λ k. replicate k 0) size) (ap (λ k. drop k room) (sub-zero n) ∙ same)
