-- What holds of every accepted match: raw costs, path costs and sums lie in their ranges, and what is chosen is the largest or the least. Assumes nothing.
use Prim.Native.Nat.{ℕ, ◌+◌, ◌*◌, ◌<◌}
use mathlib.Core.Path.{◌≡◌, sym, subst}
use mathlib.Core.Bool.{true}
use mathlib.Core.List.{List, [], ◌∷◌}
use native.Mathlib.Nat.{mul_comm, le_refl}
use native.Mathlib.Omega.{arith}
use borrow.Author.Tests.{not-false}
use lib.Dec.{T}
use lib.IntN.{ℤ}
use lib.Ieee.{Float, nan}
use lib.ListN.{length, get_or}
use Rattle.lists.proofs.Tests.{and_both}
use Rattle.lists.proofs.Rows.{cell_in}
use Rattle.lists.proofs.Lists.{list_of-length, list_of-at}
use Rattle.options.specs.Limits.{is_penalty}
use Rattle.options.specs.Costs.{raw_of, InRange}
use Rattle.options.specs.Options.{uses_paths}
use Rattle.options.specs.declared.BlockMatchOptions.{BlockMatchOptions}
use Rattle.options.specs.declared.RawCost.{RawCost}
use Rattle.options.specs.declared.RawCost.TheVariants.{Blank}
use Rattle.options.specs.declared.Side.{Side}
use Rattle.calls.specs.Accepted.{Accepted}
use Rattle.calls.proofs.Rows.{accepted}
use Rattle.choices.specs.Block.{costs_of, best_of, away, competitor}
use Rattle.choices.specs.SemiGlobal.{sums_of, least_of}
use Rattle.choices.specs.Extremes.{AllInRange, AllFinite, Finds, Smallest}
use Rattle.choices.proofs.Largest.{best-largest, competitor-largest}
use Rattle.choices.proofs.Smallest.{least-smallest}
use Rattle.paths.specs.Bounds.{UpTo, All}
use Rattle.paths.specs.Cost.{matching_costs}
use Rattle.paths.specs.Walk.{Direction, walk_along, path_volume}
use Rattle.paths.proofs.Ranges.{path-costs-range, path-sums-range, path-sums-finite}
use Rattle.matching.specs.Maps.{count_of, volume_of, sums_from}
use Rattle.matching.specs.Outcome.{match_call}
use Rattle.matching.specs.Accepted.{AcceptedMatch}
use Rattle.matching.proofs.Ranged.{ranged}

module _ {w h : ℕ} {o : BlockMatchOptions} {left right : List ℕ} (m : AcceptedMatch w h o left right) where
  sizes : Accepted (match_call left w h right w h o m.pair.out m.pair.whole m.pair.float)
  sizes = accepted _ m.pair.accepted

  -- THEOREM: every cell of either side's raw volume is blank or lies from -1 to 1
  pub volume-range : (side : Side) (i : ℕ) → i < count_of o * (w * h) → InRange (raw_of (get_or (volume_of w h o side left right) i nan))
  volume-range side =
      (ranged {w = w} {h = h} {o = o} {left = left} {right = right} sizes.sizes.r-most (record { bytes = sizes.sizes.left-bytes; small = m.pair.left-levels })
      (record { bytes = sizes.sizes.right-bytes; small = m.pair.right-levels }) side).cells

  -- a pixel's raw costs
  abbrev costs_at : Side → ℕ → List RawCost
  costs_at side p = costs_of (volume_of w h o side left right) (w * h) p (count_of o)

  pixel-range : (side : Side) (p : ℕ) → p < w * h → AllInRange (costs_at side p)
  unfolding costs_of
  pixel-range side p l j lj =
      let inside : j < count_of o = rw list_of-length at lj in
      rw (list_of-at (count_of o) _ j Blank inside) (volume-range side (j * (w * h) + p) (cell_in j (count_of o) p (w * h) _ inside l (le_refl _)))

  -- THEOREM: block choice takes the largest raw cost, ties to the smaller k
  pub block-takes-largest : (side : Side) (p : ℕ) → p < w * h → Finds (λ j. j < length (costs_at side p)) (costs_at side p) (best_of (costs_at side p))
  block-takes-largest side p l = best-largest (costs_at side p) (pixel-range side p l)

  -- THEOREM: and its competitor is the largest at indices more than 1 away
  pub competitor-is-largest : (side : Side) (p k : ℕ) → p < w * h
      → Finds (λ j. (j < length (costs_at side p)) × (away k j ≡ true)) (costs_at side p) (competitor k (costs_at side p))
  competitor-is-largest side p k l = competitor-largest k (costs_at side p) (pixel-range side p l)

  -- ---- semi-global mode
  module _ (semi : uses_paths o.mode ≡ true) where
    penalties : (is_penalty o.sgm_p1 ≡ true) × (is_penalty o.sgm_p2 ≡ true)
    penalties = and_both _ _ (not-false _ (rw semi at sizes.penalties))

    raw : (side : Side) (i : ℕ) → i < w * h * count_of o → InRange (raw_of (get_or (volume_of w h o side left right) i nan))
    raw side i l = volume-range side i (omega (arith, mul_comm (w * h) (count_of o)))

    -- THEOREM: each L lies from 0 to 1,027
    pub match-path-costs-range : (side : Side) (dx dy : ℤ) → Direction dx dy
        → All (UpTo 1027) (path_volume (walk_along w h (count_of o) o.sgm_p1 o.sgm_p2 (dx ∷ dy ∷ [])) (matching_costs (w * h) (count_of o) (volume_of w h o side left right)))
    match-path-costs-range side dx dy dir =
        path-costs-range w h (count_of o) _ _ (volume_of w h o side left right) sizes.sizes.some m.p1-fits m.p2-fits penalties.0 penalties.1 (raw side) dx dy dir

    -- THEOREM: each sum of the eight L lies from 0 to 8,216
    pub match-sums-range : (side : Side) → All (UpTo 8216) (sums_from w h o (volume_of w h o side left right))
    match-sums-range side =
        path-sums-range w h (count_of o) _ _ (volume_of w h o side left right) sizes.sizes.some m.p1-fits m.p2-fits penalties.0 penalties.1 (raw side)

    -- a pixel's sums
    abbrev sums_at : Side → ℕ → List Float
    sums_at side p = sums_of (sums_from w h o (volume_of w h o side left right)) (count_of o) p

    pixel-finite : (side : Side) (p : ℕ) → p < w * h → AllFinite (sums_at side p)
    unfolding sums_of
    pixel-finite side p l j lj =
        let inside : j < count_of o = rw list_of-length at lj in
        let among : p * count_of o + j < w * h * count_of o = cell_in p (w * h) j (count_of o) _ l inside (le_refl _) in
        rw (list_of-at (count_of o) _ j nan inside)
        (subst T (sym (path-sums-finite w h (count_of o) _ _ (volume_of w h o side left right) sizes.sizes.some m.p1-fits m.p2-fits penalties.0 penalties.1 (raw side) _ among)) tt)

    -- THEOREM: semi-global choice takes the least sum, ties to the smaller k
    pub semi-takes-least : (side : Side) (p : ℕ) → p < w * h → Smallest (sums_at side p) (least_of (sums_at side p)).k (least_of (sums_at side p)).sum
    unfolding sums_of
    semi-takes-least side p l = least-smallest (sums_at side p) (pixel-finite side p l) (rw list_of-length sizes.sizes.some)
