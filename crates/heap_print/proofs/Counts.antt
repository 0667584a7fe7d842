-- How many disparities a request that is matched has.
use Prim.Native.Nat.{ℕ, ◌+◌, ◌*◌, ◌≤◌}
use mathlib.Core.Path.{◌≡◌, refl}
use mathlib.Core.Bool.{Bool, true, false, cond, ◌||◌}
use mathlib.Core.List.{List}
use native.Mathlib.Omega.{arith}
use lib.ListN.{length}
use lib.Dec.{ltb, eqb}
use borrow.Author.Tests.{ltb-false}
use Rattle.lists.proofs.Tests.{or-false}
use Rattle.std.proofs.Common.{Ok, Err}
use Rattle.heap_text.specs.declared.head.Request.{Request}
use Rattle.heap_text.specs.declared.plan.TurnedDown.TheVariants.{TooBig, BadInput}
use Rattle.heap_text.specs.Plan.{plan_of}
use Rattle.heap_text.proofs.Plans.{plan-bounds}

-- a request that is matched has at most 8 disparities
pub plan-count : (s : List ℕ) (q : Request) → plan_of s ≡ Ok q → q.count ≤ 8
unfolding plan_of
plan-count s q e = go (ltb 24 q.width || ltb 16 q.height || ltb 8 q.count) refl (rw (plan-bounds s q e).line at e)
  where
    go : (t : Bool) → (ltb 24 q.width || ltb 16 q.height || ltb 8 q.count) ≡ t
        → cond t (Err TooBig) (cond (eqb (length s) (q.start + 2 * (q.width * q.height))) (Ok q) (Err BadInput)) ≡ Ok q → q.count ≤ 8
    go true f m = let z : ◌≡◌ {A = ℕ} 0 1 = cc in absurd (omega arith)
    go false f m = ltb-false 8 q.count (or-false (ltb 24 q.width || ltb 16 q.height) (ltb 8 q.count) f).1
