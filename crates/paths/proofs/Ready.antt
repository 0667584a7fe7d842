-- What a visit needs of the pixel before: in its slot its path costs stand, which are in their range. Assumes nothing.
use Prim.Native.Nat.{◌-◌, ◌<◌, ℕ}
use mathlib.Core.Path.{◌≡◌, ap, ◌∙◌}
use mathlib.Core.Bool.{cond}
use mathlib.Core.List.{List}
use native.Mathlib.Omega.{arith}
use lib.Dec.{T}
use lib.ListN.{length}
use lib.Ieee.{Float, binary32, fits}
use Rattle.paths.specs.declared.direction.Walk.{Walk}
use Rattle.paths.specs.Bounds.{Bounded}
use Rattle.paths.specs.Walk.{SlotReady, pixels_in, cells_in, is_forward, Direction}
use Rattle.paths.proofs.Places.{rank, previous-in, previous-earlier, previous-near, turn_in, rank-turn}
use Rattle.paths.proofs.Walks.{Visited}
use Rattle.paths.proofs.Bounded.{path-range}
use Rattle.paths.proofs.Ranges.{adds}

-- at the turn of pixel p the pixel before is done, and no pixel took its slot since
pub visit-ready : (k : Walk) {c s₀ l s : List Float} {t : ℕ} → Direction k.dx k.dy → 0 < k.count → length c ≡ cells_in k
    → Bounded k.p1 k.p2 c → T (fits binary32 k.p1) → T (fits binary32 k.p2) → Visited k c s₀ l s t → t < pixels_in k
    → (p : ℕ) → p ≡ cond (is_forward k.dx k.dy) t (pixels_in k - 1 - t) → SlotReady k l p
visit-ready k {c} {s₀} {l} {s} {t} dir some size b f1 f2 v ht p ep q e =
    let forward = is_forward k.dx k.dy in
    let hp : p < pixels_in k = rw ep (turn_in forward (pixels_in k) t ht) in
    let hq = previous-in k dir p hp q e in
    let turn : rank k p ≡ t = ap (rank k) ep ∙ rank-turn forward (pixels_in k) t ht in
    rw (v.kept q hq (omega (arith, previous-earlier k dir p hp q e)) (omega (arith, previous-near k dir p hp q e)))
    (path-range k c dir (adds k.p1 f1 b.p1-in) (adds k.p2 f2 b.p2-in) some size b.costs-in q hq)
