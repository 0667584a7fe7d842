-- Laws of two indices, tested by their difference for being more than 1 apart. Assumes nothing.
use Rattle.std.proofs.Common.{◌≡◌, ℕ, ◌+◌, ◌-◌, ◌<◌, ◌≤◌, Bool, true, false, ltb, refl, arith, ltb-false, ltb-true, le-ltb, lt-ltb}
use Rattle.numbers.proofs.FloatOrder.{ltb-same}
use Rattle.choices.specs.Block.{away}

-- j is the smaller: they are more than 1 apart exactly where k - j is above 1
pub away-above : (j k : ℕ) → j < k → ltb 1 (k - j) ≡ away j k
away-above j k h = rw (le-ltb (k + 1) j (omega arith)) (ltb-same 1 (k - j) (j + 1) k (λ l. omega arith) (λ l. omega arith))

-- k is no greater: exactly where j - k is above 1
pub away-below : (j k : ℕ) → k ≤ j → ltb 1 (j - k) ≡ away j k
away-below j k h = go (ltb (k + 1) j) refl
  where
    go : (t : Bool) → ltb (k + 1) j ≡ t → ltb 1 (j - k) ≡ away j k
    go true e = let l = ltb-true (k + 1) j e in rw (e, lt-ltb 1 (j - k) (omega arith))
    go false e = let l = ltb-false (k + 1) j e in rw (e, le-ltb 1 (j - k) (omega arith), le-ltb (j + 1) k (omega arith))
