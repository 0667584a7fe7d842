-- `sheets::number::put_number` meets its contract: at each turn the groups passed stand. Assumes nothing.
use Rattle.std.proofs.Common.{◌+◌, ◌%◌, ◌<◌, [], ◌∷◌, ◌++◌, length, sym, refl, add-zero, arith, length-set}
use Rattle.lists.proofs.Stores.{wrote_then, wrote-length}
use Rattle.sheets.proofs.Numbers.{left-all, left-next, left-last, left-some}
use Rattle.sheets.proofs.number.put_number.Goals.{At-loop-rest}
use Rattle.sheets.proofs.number.put_number.Goals as goal

pub loop-rest-init : goal.loop-rest-init
loop-rest-init c = ([], left-all c.args.n c.requires.n_bound, record { bytes = refl; place = sym (add-zero c.args.at) })

-- a place is left for a group
room : (c : At-loop-rest) → c.loop-rest.next < length c.loop-rest.out
room c =
    let i = c.loop-rest.invariant in
    omega (arith, left-some i.1, wrote-length i.2, i.2.place, c.requires.n_in_bounds)

pub bounds-out-next : goal.bounds-out-next
bounds-out-next c = room (goal.at.bounds-out-next c).At-loop-rest

pub overflow_add-next : goal.overflow_add-next
overflow_add-next c = omega (arith, room (goal.at.overflow_add-next c).At-loop-rest, wrote-length c.loop-rest.invariant.2)

pub loop-rest-preserved : goal.loop-rest-preserved
loop-rest-preserved c =
    let i = c.loop-rest.invariant in
    (i.0 ++ (128 + c.loop-rest.rest % 128) ∷ [], left-next i.1 c.loop-rest-test.true, wrote_then i.2 (record { bytes = refl; place = refl }))

pub bounds-out-next-2 : goal.bounds-out-next-2
bounds-out-next-2 c = room (goal.at.bounds-out-next-2 c).At-loop-rest

pub overflow_add-result : goal.overflow_add-result
overflow_add-result c = omega (arith, room (goal.at.overflow_add-result c).At-loop-rest, wrote-length c.loop-rest.invariant.2)

pub shape_of-out : goal.shape_of-out
shape_of-out c = simp length-set (wrote-length c.loop-rest.invariant.2)

pub returns : goal.returns
returns c =
    let i = c.loop-rest.invariant in
    rw (left-last i.1 (omega arith)) (wrote_then i.2 (record { bytes = refl; place = refl }))
