-- What it says that a window lies within a line of n pixels, and that it does not; a block that fits leaves an inner frame. Assumes nothing.
use Prim.Native.Nat.{ℕ, ◌+◌, ◌*◌, ◌/◌, ◌%◌, ◌≤◌, ◌<◌}
use mathlib.Core.Path.{◌≡◌, refl, sym}
use mathlib.Core.Bool.{Bool, true, false, ◌&&◌, ◌||◌, true≢false, and-false}
use native.Mathlib.Omega.{arith}
use borrow.Author.Tests.{lt-ltb, le-ltb, le-leb, lt-leb, leb-true, ltb-true, ltb-false, eqb-false}
use lib.Dec.{leb, ltb}
use Rattle.options.specs.Limits.{block_even, too_small}
use Rattle.options.specs.Frame.{within}

module _ (n r x : ℕ) where
  pub says-within : r ≤ x → x + r < n → within n r x ≡ true
  says-within l m = rw (le-leb r x l, lt-ltb (x + r) n m)

  pub off-before : x < r → within n r x ≡ false
  off-before l = rw (lt-leb r x l)

  pub off-past : n ≤ x + r → within n r x ≡ false
  off-past l = rw (le-ltb (x + r) n l) (and-false (leb r x))

  pub within-says : within n r x ≡ true → (r ≤ x) × (x + r < n)
  within-says = go (leb r x) refl (ltb (x + r) n) refl
    where
      go : (s : Bool) → leb r x ≡ s → (t : Bool) → ltb (x + r) n ≡ t → s && t ≡ true → (r ≤ x) × (x + r < n)
      go true s true t e = (leb-true r x s, ltb-true (x + r) n t)
      go true s false t e = absurd (true≢false (sym e))
      go false s t l e = absurd (true≢false (sym e))

  pub within-not : within n r x ≡ false → r ≤ x → n ≤ x + r
  within-not e l = ltb-false (x + r) n (rw (le-leb r x l) at e)

-- a frame of r pixels, and a pixel inside it
pub record Leaves (w h r : ℕ) : Type 0 where
  pub across : 2 * r < w
  pub down : 2 * r < h

-- an odd block that is no larger than the picture or the map leaves that
pub leaves : (w h block : ℕ) → block_even block ≡ false → too_small w h block ≡ false → Leaves w h (block / 2)
leaves w h block odd = go (ltb w block) refl (ltb h block) refl
  where
    go : (s : Bool) → ltb w block ≡ s → (t : Bool) → ltb h block ≡ t → s || t ≡ false → Leaves w h (block / 2)
    go true s t l e = absurd (true≢false e)
    go false s true l e = absurd (true≢false e)
    go false s false l e =
        let uneven : block % 2 ≡ 0 → ⊥ = eqb-false (block % 2) 0 odd in
        let half : 2 * (block / 2) < block = omega arith in
        record { across = omega (arith, ltb-false w block s); down = omega (arith, ltb-false h block l) }
