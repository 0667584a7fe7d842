-- The left map from what stays of the right volume. Assumes nothing.
use Prim.Native.Nat.{ℕ, ◌*◌, ◌≤◌}
use mathlib.Core.Path.{◌≡◌, sym, ap, ◌∙◌}
use mathlib.Core.Bool.{Bool, true, false, cond}
use mathlib.Core.List.{List, map}
use native.Mathlib.Nat.{mul_comm}
use native.Mathlib.Omega.{arith}
use lib.IntN.{ℤ}
use lib.Ieee.{Float, inf}
use lib.ListN.{length, take}
use lib.Seq.{take_all}
use Rattle.lists.specs.Turned.{turned}
use Rattle.options.specs.Options.{uses_paths}
use Rattle.options.specs.declared.BlockMatchOptions.{BlockMatchOptions}
use Rattle.options.specs.declared.Side.{Side}
use Rattle.options.specs.declared.Side.TheVariants.{Left, Right}
use Rattle.costs.specs.Rooms.{Picture}
use Rattle.costs.proofs.Turned.{left-turned}
use Rattle.maps.specs.Cells.{in_buffer}
use Rattle.choices.specs.declared.subpixel.Search.{Search}
use Rattle.choices.specs.SemiGlobal.{semi_map}
use Rattle.paths.specs.Bounds.{Bounded}
use Rattle.paths.specs.Walk.{path_sums}
use Rattle.paths.specs.Cost.{matching_costs, turned_costs}
use Rattle.paths.proofs.Ranges.{costs-range}
use Rattle.paths.proofs.Turned.{matching-turned}
use Rattle.matching.specs.Maps.{half, count_of, search_of, volume_of, sums_from}
use Rattle.matching.specs.Inner.{MatchFits, MapSizes, cells_in, VolumeRanged, RightKept}
use Rattle.matching.proofs.Ranged.{ranged}

-- what a fit says of sizes
pub sized : {left right : List ℕ} {w h : ℕ} {o : BlockMatchOptions} {outLength whole_length : ℕ} → MatchFits left right w h o outLength whole_length → MapSizes w h o outLength
sized z =
    let s = z.volume.sizes in
    record {
      wide = s.frame.w-most;
      high = s.frame.h-most;
      across = s.frame.across;
      down = s.frame.down;
      counted = record { whole = z.volume.whole; few = s.count_most };
      some = z.some;
      close = s.first-most;
      out-cells = z.out-cells;
    }

module _ {left right : List ℕ} {w h : ℕ} {o : BlockMatchOptions} {outLength whole_length : ℕ} (z : MatchFits left right w h o outLength whole_length) (pl : Picture w h left) (pr : Picture w h right) where
  pub volume-ranged : (side : Side) → VolumeRanged w h o (volume_of w h o side left right)
  volume-ranged side = ranged z.volume.sizes.frame.r-most pl pr side

  pub bounded : (side : Side) → uses_paths o.mode ≡ true → Bounded o.sgm_p1 o.sgm_p2 (matching_costs (w * h) (count_of o) (volume_of w h o side left right))
  bounded side semi = record {
    p1-in = (z.penalties semi).0;
    p2-in = (z.penalties semi).1;
    costs-in = costs-range (w * h) (count_of o) (volume_of w h o side left right) (λ i l. (volume-ranged side).cells i (omega (arith, mul_comm (w * h) (count_of o))));
  }

module _ {left right : List ℕ} {w h : ℕ} {o : BlockMatchOptions} {room : List Float} (k : RightKept left right w h o room) where
  -- THEOREM: in block mode the right volume stays, and turned it is the left one
  pub kept-volume : uses_paths o.mode ≡ false → take (cells_in w h o) room ≡ volume_of w h o Right left right
  kept-volume off = k.held ∙ ap (λ (t : Bool). cond t (matching_costs (w * h) (count_of o) (volume_of w h o Right left right)) (volume_of w h o Right left right)) off

  pub left-volume : turned (inf true) w h o.min_disparity (count_of o) (volume_of w h o Right left right) ≡ volume_of w h o Left left right
  left-volume = sym (left-turned w h (half o) o.min_disparity (count_of o) left right)

  -- THEOREM: in semi-global mode its matching costs stay, and turned they are the left one's
  pub kept-costs : uses_paths o.mode ≡ true → take (cells_in w h o) room ≡ matching_costs (w * h) (count_of o) (volume_of w h o Right left right)
  kept-costs on = k.held ∙ ap (λ (t : Bool). cond t (matching_costs (w * h) (count_of o) (volume_of w h o Right left right)) (volume_of w h o Right left right)) on

  pub left-costs : uses_paths o.mode ≡ true → half o ≤ 15
      → turned_costs w h o.min_disparity (count_of o) (take (cells_in w h o) room) ≡ matching_costs (w * h) (count_of o) (volume_of w h o Left left right)
  left-costs on few =
      ap (turned_costs w h o.min_disparity (count_of o)) (kept-costs on)
      ∙ sym (matching-turned w h (count_of o) o.min_disparity (volume_of w h o Right left right) (ranged {w = w} {h = h} {o = o} {left = left} {right = right} few k.first k.second Right).long)
      ∙ ap (matching_costs (w * h) (count_of o)) left-volume

  pub room-is : uses_paths o.mode ≡ false → length room ≡ cells_in w h o → room ≡ volume_of w h o Right left right
  room-is off long = sym (take_all (cells_in w h o) room (omega arith)) ∙ kept-volume off

  -- the left map, by the sums that take the place of the first volume
  pub turned-done : (s : Search) (first : ℤ) (out : List Float) → s ≡ search_of o → first ≡ o.min_disparity → uses_paths o.mode ≡ true → half o ≤ 15
      → out ≡ map in_buffer (semi_map w h (half o) s (path_sums w h s.count o.sgm_p1 o.sgm_p2 (turned_costs w h first s.count (take (s.count * (w * h)) room))))
      → out ≡ map in_buffer (semi_map w h (half o) (search_of o) (sums_from w h o (volume_of w h o Left left right)))
  turned-done s first out is ef on few chosen =
      chosen
      ∙ ap (λ (k : Search). map in_buffer (semi_map w h (half o) k (path_sums w h k.count o.sgm_p1 o.sgm_p2 (turned_costs w h first k.count (take (k.count * (w * h)) room))))) is
      ∙ ap (λ (f : ℤ). map in_buffer (semi_map w h (half o) (search_of o) (path_sums w h (count_of o) o.sgm_p1 o.sgm_p2 (turned_costs w h f (count_of o) (take (cells_in w h o) room))))) ef
      ∙ ap (λ l. map in_buffer (semi_map w h (half o) (search_of o) (path_sums w h (count_of o) o.sgm_p1 o.sgm_p2 l))) (left-costs on few)
