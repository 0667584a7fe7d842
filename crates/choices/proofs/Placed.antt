-- A disparity that is chosen is a finite number, whatever its costs or sums are. Assumes nothing.
use Rattle.std.proofs.Common.{◌≡◌, ℕ, ◌+◌, ◌^◌, ◌<◌, ◌≤◌, Bool, true, false, cond, ◌&&◌, List, pos, ◌+ℤ◌, nat_abs, refl, arith, lit<}
use lib.Ieee.{Float, binary32, add, lt}
use lib.Ieee.Scale.{finite}
use Rattle.lists.proofs.Tests.{and_both}
use Rattle.numbers.specs.Plain.{magnitude_of}
use Rattle.numbers.proofs.Sizes.{AtMost, at-most-finite, below_one, whole-at-most, either-finite, add-finite}
use Rattle.options.specs.Limits.{most_count, first_most, shift_most}
use Rattle.options.specs.Frame.{inner}
use Rattle.maps.specs.Cells.{in_buffer}
use Rattle.choices.specs.declared.subpixel.Search.{Search}
use Rattle.choices.specs.Subpixel.{one, millionth, denom, delta, refined, disparity, has_sides, placed}
use Rattle.choices.specs.SemiGlobal.{sums_of, least_of, semi_choice, semi_cell}
use Rattle.choices.proofs.Signed.{sum-nat_abs}

-- what is added is below 1 in size
refined-finite : (d cm best cp : Float) (n : ℕ) → AtMost n d → n + 1 < 2 ^ 24 → finite (refined d cm best cp) ≡ true
unfolding refined
refined-finite d cm best cp n h l = go (known && small) refl
  where
    known : Bool
    known = finite cm && finite cp && lt millionth (magnitude_of (denom cm best cp))

    small : Bool
    small = lt (magnitude_of (delta cm best cp)) one

    go : (t : Bool) → known && small ≡ t → finite (cond t (add binary32 d (delta cm best cp)) d) ≡ true
    go true e = add-finite d (delta cm best cp) n 1 h (below_one (delta cm best cp) (and_both known small e).1) l
    go false e = at-most-finite d n h

-- THEOREM: a placed disparity is finite, refined or not
pub placed-finite : (search : Search) (numbers : List Float) (k : ℕ) (best : Float)
    → nat_abs search.first ≤ first_most → k < most_count → finite (placed search numbers k best) ≡ true
unfolding placed
placed-finite search numbers k best near few =
    let d = disparity search k in
    let sum : nat_abs (search.first +ℤ pos k) ≤ shift_most = sum-nat_abs search.first k shift_most (omega arith) in
    let size : AtMost shift_most d = whole-at-most (search.first +ℤ pos k) shift_most sum (lit< tt) in
    either-finite (has_sides search k) _ _ (refined-finite d _ best _ shift_most size (lit< tt)) (at-most-finite d shift_most size)

-- THEOREM: so the semi-global choice at a pixel of the inner frame is finite
pub semi-cell-finite : (w h r : ℕ) (search : Search) (sums : List Float) (p : ℕ) → nat_abs search.first ≤ first_most
    → (least_of (sums_of sums search.count p)).k < most_count → inner w h r p ≡ true
    → finite (in_buffer (semi_cell w h r search sums p)) ≡ true
unfolding semi_cell semi_choice
semi-cell-finite w h r search sums p near few inside = rw inside (placed-finite search _ _ _ near few)
