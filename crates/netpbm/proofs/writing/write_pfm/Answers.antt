-- `netpbm::writing::write_pfm` meets its contract. Assumes nothing.
use mathlib.Core.Path.{refl}
use native.Mathlib.Omega.{arith}
use Rattle.std.proofs.lemmas.Result.{err_from_is_err_and}
use Rattle.texts.proofs.Pens.{writes_then, writes_length}
use Rattle.std.proofs.Common.{rules}
use Rattle.std.specs.Prelude.{Ok}
use Rattle.refusals.specs.Writes.{WriteOutcome}
use Rattle.netpbm.specs.Pfm.{pfm_of}
use Rattle.refusals.proofs.Writes.{measured, count-refused, done_refused, done-short, done-wrote}
use Rattle.netpbm.proofs.PfmWritings.{pfm-measured}
use Rattle.netpbm.proofs.writing.write_pfm.Goals as goal

pub returns-in_err-n : goal.returns-in_err-n
returns-in_err-n c =
    let p = err_from_is_err_and c.from_residual.result c.from_residual.ensures.1 in
    rw (p.1, p.2) (done_refused _ (count-refused _ c.in_err-n.ensures))

pub returns-then-out-n : goal.returns-then-out-n
returns-then-out-n c = done-short _ refl (measured _ c.in_ok-n.ensures) c.if-out-n.true

pub put_head-requires : goal.put_head-requires
put_head-requires c =
    let file = pfm-measured _ _ _ (measured _ c.in_ok-n.ensures) in
    omega arith

pub put_rows-requires : goal.put_rows-requires
put_rows-requires c =
    let file = pfm-measured _ _ _ (measured _ c.in_ok-n.ensures) in
    record { cells_len = file.long; height_in_bounds = omega (arith, c.put_head.ensures.wrote.place, writes_length c.put_head.ensures) }

pub returns : goal.returns
returns c =
    let file = pfm-measured _ _ _ (measured _ c.in_ok-n.ensures) in
    let all = writes_then c.put_head.ensures c.put_rows.ensures in
    let outcome : WriteOutcome 45 (Ok c.put_rows.new.pen.at) (pfm_of c.args.width c.args.height c.args.cells.now) c.args.out.now c.put_rows.new.pen.out.now = done-wrote file.whole (omega arith) all.wrote in
    search (rules, outcome, all.same_slice)
