-- Semi-global matching blanks no pixel of the inner frame. Assumes nothing.
use Prim.Native.Nat.{ℕ, ◌*◌, ◌≤◌, ◌<◌}
use mathlib.Core.Path.{◌≡◌}
use mathlib.Core.Bool.{true}
use mathlib.Core.List.{List}
use lib.Dec.{lit<}
use lib.ListN.{length, get_or}
use lib.Ieee.{nan}
use lib.Ieee.Scale.{finite}
use Rattle.lists.proofs.Lists.{list_of-length}
use Rattle.options.specs.Frame.{inner}
use Rattle.options.specs.Limits.{most_count}
use Rattle.options.specs.declared.BlockMatchOptions.{BlockMatchOptions}
use Rattle.options.specs.declared.Mode.TheVariants.{SemiGlobal}
use Rattle.options.specs.declared.Side.{Side}
use Rattle.calls.proofs.Rows.{accepted}
use Rattle.choices.specs.SemiGlobal.{sums_of}
use Rattle.choices.proofs.Placed.{semi-cell-finite}
use Rattle.choices.proofs.Smallest.{least-in}
use Rattle.matching.specs.Accepted.{AcceptedPair}
use Rattle.matching.specs.Maps.{half, count_of, search_of, volume_of, sums_from}
use Rattle.matching.proofs.SideMaps.{side_of, side-at}

-- THEOREM: a semi-global map of an accepted pair has a finite number at every pixel of the inner frame, before the left-right test
pub semi-finite : {w h : ℕ} {o : BlockMatchOptions} {left right : List ℕ} → AcceptedPair w h o left right → o.mode ≡ SemiGlobal
    → (side : Side) (p : ℕ) → p < w * h → inner w h (half o) p ≡ true
    → finite (get_or (side_of w h o side left right) p nan) ≡ true
unfolding sums_of
semi-finite {w} {h} {o} {left} {right} m semi side p l inside =
    let v = volume_of w h o side left right in
    let s = (accepted _ m.accepted).sizes in
    let sums = sums_from w h o v in
    let few : length (sums_of sums (count_of o) p) ≤ most_count = rw list_of-length s.few in
    rw (side-at w h o semi v p l)
    (semi-cell-finite w h (half o) (search_of o) sums p s.close (least-in most_count _ (lit< tt) few) inside)
