-- `vendor::cost::row_products` meets its contract: `sum` is the sum of the products seen. Assumes nothing.
use Prim.Native.Nat.{◌*◌, ◌<◌}
use mathlib.Core.Path.{◌≡◌, refl, ap, ◌∙◌}
use native.Mathlib.Omega.{arith}
use lib.ListN.{length}
use Rattle.std.proofs.lemmas.List.{length_push}
use Rattle.std.proofs.lemmas.Slice.Zip.{length-zip}
use Rattle.std.proofs.lemmas.Iterator.{YieldsList-from_slice, YieldsList-from_zip}
use Rattle.std.proofs.lemmas.Iterator.Consumers.{YieldsList-turn, YieldsList-end}
use Rattle.lists.specs.Sums.{sum_to}
use Rattle.windows.specs.Parts.{product_in}
use Rattle.windows.proofs.Parts.{products-most, product-most, sum-next}
use Rattle.vendor.proofs.Products.{pair-product}
use Rattle.vendor.proofs.cost.row_products.Goals.{In-Some}
use Rattle.vendor.proofs.cost.row_products.Goals as goal

-- this turn's product is the next, of a column of the row
here : (c : In-Some) → (length c.loop-x.yielded < length c.args.a.now) × (c.in-Some.x.now * c.in-Some.y.now ≡ product_in c.args.a.now c.args.b.now (length c.loop-x.yielded))
here c =
    let turn = YieldsList-turn {s = c.into_iter-x-iterator.result} (YieldsList-from_zip (YieldsList-from_slice c.args.a.now cc) (YieldsList-from_slice c.args.b.now cc)) c.loop-x.yielded c.loop-x.x-iterator c.loop-x.yielded_by _ c.next.new.self (c.in-Some.x, c.in-Some.y) c.in-Some.is c.next.ensures.steps in
    pair-product c.args.a.now c.args.b.now c.requires.0 (length c.loop-x.yielded) (c.in-Some.x.now, c.in-Some.y.now) turn.0 turn.1

pub loop-x-init : goal.loop-x-init
unfolding sum_to
loop-x-init c = refl

pub overflow_add-sum : goal.overflow_add-sum
overflow_add-sum c =
    let n = length c.loop-x.yielded in
    let spot = here (goal.at.overflow_add-sum c).In-Some in
    omega (arith, spot, c.product-sum.ensures, c.loop-x.invariant, c.requires.1, product-most c.args.a.now c.args.b.now (λ i. omega (arith, c.type_inv.a i)) (λ i. omega (arith, c.type_inv.b i)) n, products-most c.args.a.now c.args.b.now (λ i. omega (arith, c.type_inv.a i)) (λ i. omega (arith, c.type_inv.b i)) n)

pub loop-x-preserved : goal.loop-x-preserved
loop-x-preserved c =
    rw (length_push c.loop-x.yielded (c.in-Some.x, c.in-Some.y))
    (sum-next (product_in c.args.a.now c.args.b.now) (length c.loop-x.yielded) _ _ c.loop-x.invariant (c.product-sum.ensures ∙ (here (goal.at.loop-x-preserved c).In-Some).1))

pub returns : goal.returns
returns c =
    let end = YieldsList-end {s = c.into_iter-x-iterator.result} (YieldsList-from_zip (YieldsList-from_slice c.args.a.now cc) (YieldsList-from_slice c.args.b.now cc)) c.loop-x.yielded c.loop-x.x-iterator c.loop-x.yielded_by _ c.next.new.self c.in-None.is c.next.ensures.steps in
    let all : length c.loop-x.yielded ≡ length c.args.a.now = omega (arith, end.1, length-zip c.args.a.now c.args.b.now, c.requires.0) in
    c.loop-x.invariant ∙ ap (λ k. sum_to k (product_in c.args.a.now c.args.b.now)) all
