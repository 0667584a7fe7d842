-- `sheets::writing::put_head` meets its contract: four numbers, one after another. Assumes nothing.
use Rattle.std.proofs.Common.{refl, arith, rules}
use Rattle.lists.proofs.Stores.{wrote_then}
use Rattle.sheets.specs.Code.{kind_number}
use Rattle.sheets.specs.Sheet.{head_bytes}
use Rattle.sheets.proofs.Writings.{number_small, head-sum}
use Rattle.sheets.proofs.writing.put_head.Goals as goal

pub put_number-a-requires : goal.put_number-a-requires
put_number-a-requires c =
    let s = c.args in
    record { n_bound = search rules; n_in_bounds = omega (arith, head-sum s.kind (kind_number s.kind) refl s.width s.height) }

pub put_number-b-requires : goal.put_number-b-requires
put_number-b-requires c =
    let s = c.args in
    let kind = c.from.ensures in
    record { n_bound = number_small s.kind _ kind; n_in_bounds = omega (arith, head-sum s.kind _ kind s.width s.height) }

pub put_number-c-requires : goal.put_number-c-requires
put_number-c-requires c =
    let s = c.args in
    record { n_bound = search rules; n_in_bounds = omega (arith, head-sum s.kind _ c.from.ensures s.width s.height) }

pub put_number-requires : goal.put_number-requires
put_number-requires c =
    let s = c.args in
    record { n_bound = search rules; n_in_bounds = omega (arith, head-sum s.kind _ c.from.ensures s.width s.height) }

pub returns : goal.returns
unfolding head_bytes
returns c =
    let kind = c.from.ensures in
    rw (← kind) (wrote_then (wrote_then (wrote_then c.put_number-a.ensures c.put_number-b.ensures) c.put_number-c.ensures) c.put_number.ensures)
