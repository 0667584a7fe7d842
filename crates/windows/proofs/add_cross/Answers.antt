-- `windows::add_cross` meets its contract: the row of products in its three parts. Assumes nothing.
use Rattle.std.proofs.Common.{rules, length, arith, w64}
use Rattle.std.proofs.lemmas.Int.{to_z-of_z}
use Rattle.windows.proofs.Shifts.{Meets, meets-of, cross-small}
use Rattle.windows.proofs.Crossed.{both, run_small, third-ready, row_made}
use Rattle.windows.proofs.add_cross.Goals.{After-overlap_of-both}
use Rattle.windows.proofs.add_cross.Goals as goal

-- the columns that both rows have, of the shift itself, which is read back from its bits
met : (c : After-overlap_of-both) → Meets (length c.args.a.now) (length c.args.b.now) c.args.shift c.overlap_of-both.result
met c = meets-of _ _ _ _ (rw (to_z-of_z w64 c.args.shift c.ranges.shift) at c.overlap_of-both.ensures.is)

pub add_run-requires-2 : goal.add_run-requires-2
add_run-requires-2 c =
    let m = met (goal.at.add_run-requires-2 c).After-overlap_of-both in
    let told = c.add_values-run.ensures (both c.args.a.now c.args.b.now _ _ m) (λ i v l e. search rules) in
    let small = cross-small c.args.a.now c.args.b.now c.args.shift (λ i. omega (arith, c.type_inv.a i)) (λ i. omega (arith, c.type_inv.b i)) in (
      third-ready c.args.a.now c.args.b.now _ _ m _ c.requires.0 _ told.0 _ _ _ c.requires.1 c.add_run.ensures told.1,
      run_small c.args.a.now c.args.b.now _ _ m _ c.requires.0 _ told.0 small,
    )

pub returns : goal.returns
returns c =
    let m = met (goal.at.returns c).After-overlap_of-both in
    let told = c.add_values-run.ensures (both c.args.a.now c.args.b.now _ _ m) (λ i v l e. search rules) in
    row_made c.args.a.now c.args.b.now _ _ m _ c.requires.0 _ told.0 _ _ _ c.requires.1 c.add_run.ensures told.1 _ c.add_run-2.ensures
