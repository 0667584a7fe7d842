-- What it means that no row applies. Assumes nothing.
use Prim.Native.Nat.{◌+◌, ◌*◌, ◌≤◌}
use mathlib.Core.Path.{◌≡◌, sym, ap₂, ◌∙◌}
use mathlib.Core.List.{List, ◌++◌}
use native.Mathlib.Nat.{mul-le-mul}
use native.Mathlib.Omega.{arith}
use borrow.Author.Tests.{ltb-false, eqb-true, not-false}
use lib.Dec.{eqb, ltb, lit<}
use lib.IntN.{nat_abs}
use Rattle.lists.proofs.Tests.{and_both, or-false}
use Rattle.options.specs.Limits.{side_most, block_most, most_count}
use Rattle.options.proofs.Frames.{leaves}
use Rattle.calls.specs.declared.Call.{Call}
use Rattle.refusals.specs.Answered.{Row, first_of, Numbered}
use Rattle.refusals.specs.declared.Refusal.{Refusal}
use Rattle.refusals.specs.Numbers.{number_of}
use Rattle.refusals.proofs.Groups.{by_first, by-rest, none-of-both, both-numbered, passed}
use Rattle.refusals.proofs.Numbers.{some}
use Rattle.calls.specs.Refusals.{in_range, picture_rows, search_rows, pair_rows, penalty_rows, whole_cells_of, float_cells, out_rows, room_rows, table, refusal}
use Rattle.calls.specs.Accepted.{Sizes, Accepted}
use Rattle.calls.proofs.Tests.{ranged, positive, at_most, near}

pub pictures-numbered : (q : Call) → Numbered (picture_rows q)
unfolding picture_rows
pictures-numbered q = (lit< tt, (lit< tt, (lit< tt, tt)))

pub search-numbered : (q : Call) → Numbered (search_rows q)
unfolding search_rows
search-numbered q = (lit< tt, (lit< tt, (lit< tt, (lit< tt, (lit< tt, (lit< tt, tt))))))

pub pair-numbered : (q : Call) → Numbered (pair_rows q)
pair-numbered q = both-numbered (picture_rows q) (search_rows q) (pictures-numbered q) (search-numbered q)

penalty-numbered : (q : Call) → Numbered (penalty_rows q)
unfolding penalty_rows
penalty-numbered q = (lit< tt, (lit< tt, tt))

out-numbered : (q : Call) → Numbered (out_rows q)
unfolding out_rows
out-numbered q = (lit< tt, tt)

room-numbered : (q : Call) → Numbered (room_rows q)
unfolding room_rows
room-numbered q = (lit< tt, tt)

-- ---- the groups of the table, one after the other
abbrev to_penalties : Call → List Row
to_penalties q = pair_rows q ++ penalty_rows q

abbrev to_output : Call → List Row
to_output q = to_penalties q ++ out_rows q

to-penalties : (q : Call) → Numbered (to_penalties q)
to-penalties q = both-numbered (pair_rows q) (penalty_rows q) (pair-numbered q) (penalty-numbered q)

to-output : (q : Call) → Numbered (to_output q)
to-output q = both-numbered (to_penalties q) (out_rows q) (to-penalties q) (out-numbered q)

pub table-numbered : (q : Call) → Numbered (table q)
unfolding table
table-numbered q = both-numbered (to_output q) (room_rows q) (to-output q) (room-numbered q)

-- rows after rows: what the first refuse all refuse, and where they refuse nothing the rest decide
module _ (a b : List Row) (n : Numbered a) where
  refused_by : (e : Refusal) → number_of e ≡ first_of a → number_of e ≡ first_of (a ++ b)
  refused_by e same = by_first a b n (number_of e) same (λ none. omega (arith, some e))

  rest_of : 0 ≡ first_of a → first_of b ≡ first_of (a ++ b)
  rest_of none = sym (by-rest a b n (sym none))

-- rows 1 to 9: two groups
module _ (q : Call) where
  pub pair_refused : (e : Refusal) → number_of e ≡ first_of (picture_rows q) → number_of e ≡ first_of (pair_rows q)
  pair_refused = refused_by (picture_rows q) (search_rows q) (pictures-numbered q)

  pub pair_rest : 0 ≡ first_of (picture_rows q) → first_of (search_rows q) ≡ first_of (pair_rows q)
  pair_rest = rest_of (picture_rows q) (search_rows q) (pictures-numbered q)

-- all rows: those, and three groups more
module _ (q : Call) where
  pub refused_output : (e : Refusal) → number_of e ≡ first_of (to_output q) → number_of e ≡ refusal q
  unfolding refusal table
  refused_output = refused_by (to_output q) (room_rows q) (to-output q)

  refused_penalties : (e : Refusal) → number_of e ≡ first_of (to_penalties q) → number_of e ≡ refusal q
  refused_penalties e same = refused_output e (refused_by (to_penalties q) (out_rows q) (to-penalties q) e same)

  pub by_pair : (e : Refusal) → number_of e ≡ first_of (pair_rows q) → number_of e ≡ refusal q
  by_pair e same = refused_penalties e (refused_by (pair_rows q) (penalty_rows q) (pair-numbered q) e same)

  module _ (p : 0 ≡ first_of (pair_rows q)) where
    to_penalties_rest : first_of (penalty_rows q) ≡ first_of (to_penalties q)
    to_penalties_rest = rest_of (pair_rows q) (penalty_rows q) (pair-numbered q) p

    pub by_penalty : (e : Refusal) → number_of e ≡ first_of (penalty_rows q) → number_of e ≡ refusal q
    by_penalty e same = refused_penalties e (same ∙ to_penalties_rest)

    module _ (t : 0 ≡ first_of (penalty_rows q)) where
      to_output_rest : first_of (out_rows q) ≡ first_of (to_output q)
      to_output_rest = rest_of (to_penalties q) (out_rows q) (to-penalties q) (t ∙ to_penalties_rest)

      pub by_output : (e : Refusal) → number_of e ≡ first_of (out_rows q) → number_of e ≡ refusal q
      by_output e same = refused_output e (same ∙ to_output_rest)

      pub by_rooms : 0 ≡ first_of (out_rows q) → first_of (room_rows q) ≡ refusal q
      unfolding refusal table
      by_rooms o = rest_of (to_output q) (room_rows q) (to-output q) (o ∙ to_output_rest)

  -- no row of any group applies
  pub record None : Type 0 where
    pub pair : first_of (pair_rows q) ≡ 0
    pub penalty : first_of (penalty_rows q) ≡ 0
    pub output : first_of (out_rows q) ≡ 0
    pub rooms : first_of (room_rows q) ≡ 0

  pub none : refusal q ≡ 0 → None
  unfolding refusal table
  none e =
      let three = none-of-both (to_output q) (room_rows q) (to-output q) e in
      let two = none-of-both (to_penalties q) (out_rows q) (to-penalties q) three.0 in
      let one = none-of-both (pair_rows q) (penalty_rows q) (pair-numbered q) two.0 in
      record { pair = one.0; penalty = one.1; output = two.1; rooms = three.1 }

-- rows 1 to 9 do not apply
pub sizes : (q : Call) → first_of (pair_rows q) ≡ 0 → Sizes q
unfolding first_of picture_rows search_rows
sizes q none =
    let groups = none-of-both (picture_rows q) (search_rows q) (pictures-numbered q) none in
    let one = passed 1 (lit< tt) _ _ groups.0 in
    let two = passed 2 (lit< tt) _ _ one.1 in
    let three = passed 3 (lit< tt) _ _ two.1 in
    let four = passed 4 (lit< tt) _ _ groups.1 in
    let five = passed 5 (lit< tt) _ _ four.1 in
    let six = passed 6 (lit< tt) _ _ five.1 in
    let seven = passed 7 (lit< tt) _ _ six.1 in
    let eight = passed 8 (lit< tt) _ _ seven.1 in
    let nine = passed 9 (lit< tt) _ _ eight.1 in
    let range = ranged q.left_w q.left_h (and_both (in_range q.left_w q.left_h) (in_range q.right_w q.right_h) (not-false _ one.0)).0 in
    let bytes = and_both (eqb q.left_bytes (q.left_w * q.left_h)) (eqb q.right_bytes (q.right_w * q.right_h)) (not-false _ two.0) in
    let same = and_both (eqb q.left_w q.right_w) (eqb q.left_h q.right_h) (not-false _ three.0) in
    let count = positive q.count six.0 in
    let frame = leaves q.left_w q.left_h q.block four.0 eight.0 in
    record {
      w-least = range.w-least;
      w-most = range.w-most;
      h-least = range.h-least;
      h-most = range.h-most;
      left-bytes = eqb-true _ _ bytes.0;
      right-bytes = eqb-true _ _ bytes.1 ∙ sym (ap₂ (λ w h. w * h) (eqb-true q.left_w q.right_w same.0) (eqb-true q.left_h q.right_h same.1));
      r-most = omega (arith, ltb-false block_most q.block five.0);
      across = frame.across;
      down = frame.down;
      whole = count.0;
      some = count.1;
      few = at_most most_count q.count count.0 seven.0;
      close = near q.first nine.0;
    }

-- what the sizes' products are at most
pub record Products (q : Call) : Type 0 where
  pub area-most : q.left_w * q.left_h ≤ side_most * side_most
  pub volume-most : nat_abs q.count * (q.left_w * q.left_h) ≤ most_count * (side_most * side_most)
  pub table-most : (q.left_w + 1) * (q.left_h + 1) ≤ (side_most + 1) * (side_most + 1)

pub products : (q : Call) → Sizes q → Products q
products q z =
    let area = mul-le-mul z.w-most z.h-most in
    let w1 : q.left_w + 1 ≤ side_most + 1 = omega (arith, z.w-most) in
    let h1 : q.left_h + 1 ≤ side_most + 1 = omega (arith, z.h-most) in
    record { area-most = area; volume-most = mul-le-mul z.few area; table-most = mul-le-mul w1 h1 }

-- ---- a call that is not refused
pub accepted : (q : Call) → refusal q ≡ 0 → Accepted q
unfolding first_of penalty_rows out_rows room_rows
accepted q e =
    let n = none q e in
    let ten = passed 10 (lit< tt) _ _ n.penalty in
    let thirteen = passed 13 (lit< tt) _ _ ten.1 in
    let eleven = passed 11 (lit< tt) _ _ n.output in
    let twelve = passed 12 (lit< tt) _ _ n.rooms in
    let rooms = or-false (ltb q.whole_len (whole_cells_of q)) (ltb q.float_len (float_cells q q.output)) twelve.0 in
    record {
      sizes = sizes q n.pair;
      penalties = ten.0;
      ordered = thirteen.0;
      out-cells = eqb-true _ _ (not-false _ eleven.0);
      whole_cells = ltb-false _ _ rooms.0;
      float-cells = ltb-false _ _ rooms.1;
    }
