-- Indices as floats: their order is that of the indices, and the cast back gives the index. Assumes nothing.
use Rattle.std.proofs.Common.{◌≡◌, ℕ, ◌+◌, ◌-◌, ◌*◌, ◌^◌, ◌≤◌, true, false, ◌||◌, T, ltb, sym, ◌∙◌, ap₂, true≢false, mul-le-mul_right, mul-lt-mul_of_pos_right, mul-one, mul_right_comm, arith, le→leb}
use lib.Ieee.{Float, nan, inf, fin, binary32, lt, of_int, in_float, in_unsigned, to_unsigned, up, down}
use lib.Ieee.Exact.{HasValue}
use lib.Ieee.Back.{round_whole, unsigned_back}
use lib.Ieee.Fits.{down_pos}
use Rattle.choices.specs.Block.{away}
use Rattle.choices.specs.Leading.{index_float, far}
use Rattle.numbers.proofs.FloatOrder.{ltb-same}

whole-order : (x y : Float) (a b : ℕ) → HasValue x false a 1 → HasValue y false b 1 → lt x y ≡ ltb a b
unfolding lt
whole-order nan y a b v u = absurd v
whole-order (inf s) y a b v u = absurd v
whole-order (fin true m e) y a b v u = absurd (true≢false v.0)
whole-order (fin false m e) nan a b v u = absurd u
whole-order (fin false m e) (inf t) a b v u = absurd u
whole-order (fin false m e) (fin true n d) a b v u = absurd (true≢false u.0)
whole-order (fin false m e) (fin false n d) a b v u =
    let left : m * up e ≡ a * down e = sym (mul-one (m * up e)) ∙ v.1 in
    let right : n * up d ≡ b * down d = sym (mul-one (n * up d)) ∙ u.1 in
    rw (left, right, mul_right_comm b (down d) (down e))
    (ltb-same (a * down e * down d) (b * down e * down d) a b
    (λ l. mul-lt-mul_of_pos_right (mul-lt-mul_of_pos_right l (down_pos e)) (down_pos d))
    (λ l. mul-le-mul_right (down d) (mul-le-mul_right (down e) l)))

pub index-order : (a b : ℕ) → a ≤ 2 ^ 24 → b ≤ 2 ^ 24 → lt (index_float a) (index_float b) ≡ ltb a b
unfolding of_int
index-order a b la lb = whole-order _ _ a b (round_whole binary32 false a la) (round_whole binary32 false b lb)

-- the indices beside k tell what is more than 1 away from it
pub far-away : (j k : ℕ) → j ≤ 4096 → k ≤ 4096 → far (index_float j) k ≡ away j k
far-away j k lj lk =
    ap₂ (λ s t. s || t)
    (index-order (k + 1) j (omega arith) (omega arith))
    (index-order j (k - 1) (omega arith) (omega arith) ∙ ltb-same j (k - 1) (j + 1) k (λ l. omega arith) (λ l. omega arith))

-- the cast of an index's float is defined, and gives the index
pub index_back : (j : ℕ) → j ≤ 4096 → T (in_unsigned binary32 64 (index_float j)) × (to_unsigned 64 (index_float j) ≡ j)
unfolding in_float
index_back j l = unsigned_back binary32 64 j (le→leb j (2 ^ 24) (omega arith)) (omega arith)
