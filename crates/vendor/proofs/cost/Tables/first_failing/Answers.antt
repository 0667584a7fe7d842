-- `Tables::first_failing` meets its contract: the pixels passed hold. Assumes nothing.
use Prim.Native.Nat.{◌≤◌, ◌<◌}
use native.Mathlib.Nat.{zero-mod, zero-div}
use native.Mathlib.Omega.{arith}
use mathlib.Core.Path.{◌≡◌, refl, sym, ◌∙◌}
use lib.ListN.{length, take}
use lib.Ieee.{nan}
use lib.Seq.{get_or-take, length-take-le}
use Rattle.lists.proofs.Rows.{mul-pos-left}
use Rattle.vendor.specs.Tests.{holds_at}
use Rattle.vendor.proofs.Asking.{placed-column, asked-placed, passed_none, passed-next, passed_here, passed-all}
use Rattle.vendor.proofs.cost.Tables.first_failing.Goals.{After-cell_holds, In-loop-v, Start}
use Rattle.vendor.proofs.cost.Tables.first_failing.Goals as goal

-- the cells that are looked at
seen : (z : Start) → length (take z.args.limit z.args.map.now) ≡ z.args.limit
seen z = length-take-le z.args.limit z.args.map.now (omega (arith, z.requires.1, z.requires.2))

-- the pixel is one of them
early : (c : In-loop-v) → c.loop-v.at.p < c.args.limit
early c = omega (arith, c.loop-v.invariant.0, c.loop-v-test.true, seen (goal.at.In-loop-v c).Start)

-- a row has a pixel
some : (c : In-loop-v) → 1 ≤ c.args.self.check.frame.w
some c =
    let f = c.args.self.check.frame in
    mul-pos-left c.loop-v.at.p f.w f.h (omega (arith, early c, c.requires.2))

-- what the cell answers is what its pixel is asked
answers : (c : After-cell_holds) →
    let a = c.args in
    c.cell_holds.result ≡ holds_at a.self.check a.self.left.now a.self.right.now a.question a.map.now c.loop-v.at.p
answers c =
    let a = c.args in
    asked-placed a.self.check a.self.left.now a.self.right.now a.question a.map.now c.loop-v.at _ _ c.loop-v.invariant.1 c.cell_holds.ensures
    (rw c.loop-v.invariant.0 (get_or-take a.limit a.map.now c.loop-v.v-index nan (omega (arith, c.loop-v-test.true, seen (goal.at.After-cell_holds c).Start))))

pub loop-v-init : goal.loop-v-init
loop-v-init c =
    let w = c.args.self.check.frame.w in
    (refl, record { column = sym (zero-mod w); row = sym (zero-div w) }, passed_none _ _)

pub cell_holds-requires : goal.cell_holds-requires
cell_holds-requires c = (c.requires.0, placed-column c.loop-v.invariant.1 (some (goal.at.cell_holds-requires c).In-loop-v))

pub returns-then-not-cell_holds : goal.returns-then-not-cell_holds
returns-then-not-cell_holds c =
    passed_here c.loop-v.invariant.2 (early (goal.at.returns-then-not-cell_holds c).In-loop-v)
    (sym (answers (goal.at.returns-then-not-cell_holds c).After-cell_holds) ∙ c.if-not-cell_holds.true)

pub next-at-requires : goal.next-at-requires
next-at-requires c =
    let z = (goal.at.next-at-requires c).In-loop-v in
    (c.loop-v.invariant.1, some z, omega (arith, early z, c.ranges.limit))

pub loop-v-preserved : goal.loop-v-preserved
loop-v-preserved c =
    let next = passed-next c.loop-v.invariant.2 (early (goal.at.loop-v-preserved c).In-loop-v) (sym (answers (goal.at.loop-v-preserved c).After-cell_holds) ∙ c.if-not-cell_holds.false) in
    (omega (arith, c.next-at.ensures.0, c.loop-v.invariant.0), c.next-at.ensures.1, rw c.next-at.ensures.0 next)

pub returns : goal.returns
returns c =
    passed-all c.loop-v.invariant.2 (omega (arith, c.loop-v.invariant.0, c.loop-v-test.false, seen (goal.at.returns c).Start))
