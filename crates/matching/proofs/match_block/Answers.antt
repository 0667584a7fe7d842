-- `matching::match_block` meets its contract. Assumes nothing.
use mathlib.Core.Path.{◌≡◌, sym, ap, ◌∙◌}
use native.Mathlib.Nat.{sub-zero}
use native.Mathlib.Omega.{arith}
use Prim.Native.Nat.{◌-◌}
use lib.ListN.{length, take, replicate}
use lib.Seq.{length-take-le}
use mathlib.Core.Bool.{false}
use lib.IntN.{pos}
use lib.Ieee.{fin}
use mir.Syntax.{w32}
use mir.Val.{to_z, of_z}
use mir.ValLaws.{to_z-of_z}
use Rattle.std.proofs.lemmas.Result.{err_from_is_err_and}
use Rattle.calls.specs.declared.Call.{Call}
use Rattle.calls.specs.declared.Output.TheVariants.{Map}
use Rattle.calls.specs.Refusals.{refusal, float_cells}
use Rattle.calls.specs.Accepted.{Accepted}
use Rattle.calls.proofs.Rows.{accepted}
use Rattle.matching.specs.Outcome.{match_call}
use Rattle.matching.proofs.Outcomes.{fitted, needed, refused, made}
use borrow.Author.Rules.{rules}
use Rattle.matching.proofs.match_block.Goals.{After-float_cells-needed, In_ok-check, Start}
use Rattle.matching.proofs.match_block.Goals as goal

-- the two signed numbers, as the machine reads them back from their bits
back-first : (z : Start) → to_z w32 (of_z w32 z.args.opts.min_disparity) ≡ z.args.opts.min_disparity
back-first z = to_z-of_z w32 z.args.opts.min_disparity (search (rules, z.well_formed))

back_count : (z : Start) → to_z w32 (of_z w32 z.args.opts.num_disparities) ≡ z.args.opts.num_disparities
back_count z = to_z-of_z w32 z.args.opts.num_disparities (search (rules, z.well_formed))

abbrev call : Start → Call
call z = match_call z.args.left.now z.args.left_w z.args.left_h z.args.right.now z.args.right_w z.args.right_h z.args.opts (length z.args.out.now) (length z.args.whole_room.now) (length z.args.float_room.now)

-- past the test nothing is refused
fine : (c : In_ok-check) → 0 ≡ refusal (call (goal.at.In_ok-check c).Start)
fine c = rw (back-first (goal.at.In_ok-check c).Start, back_count (goal.at.In_ok-check c).Start) at c.in_ok-check.ensures

taken : (c : In_ok-check) → Accepted (call (goal.at.In_ok-check c).Start)
taken c = accepted (call (goal.at.In_ok-check c).Start) (sym (fine c))

cells_is : (c : After-float_cells-needed) → c.float_cells-needed.result ≡ float_cells (call (goal.at.After-float_cells-needed c).Start) Map
cells_is c =
    rw (back_count (goal.at.After-float_cells-needed c).Start) at c.float_cells-needed.ensures

pub returns-in_err-check : goal.returns-in_err-check
returns-in_err-check c =
    let p = err_from_is_err_and c.from_residual.result c.from_residual.ensures.1 in
    let z = (goal.at.returns-in_err-check c).Start in
    rw (p.1, p.2) (refused _ _ _ _ _ _ _ c.in_err-check.field-0.0 (rw (back-first z, back_count z) at c.in_err-check.ensures))

pub float_cells-needed-requires : goal.float_cells-needed-requires
float_cells-needed-requires c = rw (back-first (goal.at.float_cells-needed-requires c).Start, back_count (goal.at.float_cells-needed-requires c).Start) (taken c).sizes

pub slice_bounds-solve-end : goal.slice_bounds-solve-end
slice_bounds-solve-end c = omega (arith, cells_is (goal.at.slice_bounds-solve-end c).After-float_cells-needed, (taken (goal.at.slice_bounds-solve-end c).In_ok-check).float-cells)

pub solve-requires : goal.solve-requires
solve-requires c =
    let n = c.float_cells-needed.result in
    let a = taken (goal.at.solve-requires c).In_ok-check in
    let e = cells_is (goal.at.solve-requires c).After-float_cells-needed in
    record {
      fits = fitted c.args.left.now c.args.left_w c.args.left_h c.args.right.now c.args.right_w c.args.right_h c.args.opts _ _ (length c.args.float_room.now) a (λ i. omega (arith, c.type_inv.left i)) (λ i. omega (arith, c.type_inv.right i));
      cells = rw (sub-zero n) (length-take-le n c.args.float_room.now (omega (arith, a.float-cells)))
          ∙ e ∙ needed c.args.left.now c.args.left_w c.args.left_h c.args.right.now c.args.right_w c.args.right_h c.args.opts 0 0 0;
    }

pub returns : goal.returns
returns c =
    let n = c.float_cells-needed.result in
    let s = c.solve in
    let a = taken (goal.at.returns c).In_ok-check in
    let e = cells_is (goal.at.returns c).After-float_cells-needed in
    let long : length (take (n - 0) c.args.float_room.now) ≡ n = rw (sub-zero n) (length-take-le n c.args.float_room.now (omega (arith, a.float-cells))) in
    made (call (goal.at.returns c).Start) c.args.opts c.args.left.now c.args.right.now c.args.out.now c.args.whole_room.now c.args.float_room.now
    _ _ s.new.room n (fine (goal.at.returns c).In_ok-check) s.ensures.map s.ensures.wholes e (s.ensures.rooms ∙ ap (λ k. replicate k (fin false 0 (pos 0))) long)
