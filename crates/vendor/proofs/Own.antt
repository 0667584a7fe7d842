-- Our own block map passes. Assumes nothing.
use Prim.Native.Nat.{ℕ, ◌+◌, ◌*◌, ◌/◌, ◌%◌, ◌≤◌, ◌<◌}
use mathlib.Core.Path.{◌≡◌, refl, sym, ap, ◌∙◌, subst}
use mathlib.Core.Bool.{Bool, true, false, cond, not, ◌&&◌, true≢false}
use mathlib.Core.List.{List, map}
use Rattle.std.specs.Prelude.{Result, Ok, Option, Some, None}
use native.Mathlib.Nat.{mod-lt, div-add-mod'}
use lib.ListN.{length, get_or}
use lib.Ieee.{Float, nan, lt}
use lib.Ieee.Scale.{finite}
use Rattle.lists.proofs.Lists.{list_of-length, list_of-at}
use Rattle.lists.proofs.Rows.{mul-pos-left, row_below}
use Rattle.options.specs.declared.Mode.TheVariants.{Block}
use Rattle.options.specs.declared.BlockMatchOptions.{BlockMatchOptions}
use Rattle.options.specs.declared.RawCost.{RawCost}
use Rattle.options.specs.declared.RawCost.TheVariants.{Blank, Corr}
use Rattle.options.specs.declared.Side.TheVariants.{Left, Right}
use Rattle.options.specs.Costs.{stored, raw_of, InRange}
use Rattle.options.proofs.Stored.{stored_back}
use Rattle.refusals.specs.Answered.{first_of}
use Rattle.refusals.specs.declared.Refusal.{Refusal}
use Rattle.refusals.specs.Steps.{is}
use Rattle.refusals.proofs.Numbers.{known_by}
use Rattle.refusals.proofs.Cases.{answer-made}
use Rattle.calls.specs.Refusals.{picture_rows, search_rows, pair_rows, whole_cells_of}
use Rattle.calls.specs.Accepted.{Sizes}
use Rattle.calls.proofs.Rows.{none, accepted}
use Rattle.costs.proofs.Laws.{raw-cost-bound, volume-cell}
use Rattle.maps.specs.declared.Cell.TheVariants.{Mark, At}
use Rattle.maps.specs.Cells.{in_buffer}
use Rattle.choices.specs.declared.block.Best.{Best}
use Rattle.choices.specs.declared.block.Gates.{Gates}
use Rattle.choices.specs.declared.subpixel.Search.{Search}
use Rattle.options.specs.Frame.{inner}
use Rattle.choices.specs.Block.{costs_of, best_of, competitor, too_close, gated, block_choice, block_cell}
use Rattle.choices.specs.LeftRight.{confirms, tested_cell, left_right}
use Rattle.choices.specs.Subpixel.{disparity, placed}
use Rattle.choices.specs.Extremes.{AllInRange, Finds}
use Rattle.choices.proofs.Largest.{best-largest}
use Rattle.matching.specs.Maps.{half, count_of, search_of, gates_of, volume_of, side_map, map_of}
use Rattle.matching.specs.Outcome.{match_call, MatchOutcome}
use Rattle.matching.specs.Accepted.{Levels, AcceptedPair}
use Rattle.matching.proofs.SideMaps.{cell_from, side-length, side-at}
use Rattle.vendor.specs.declared.Verdict.{Verdict}
use Rattle.vendor.specs.declared.Verdict.TheVariants.{Yes}
use Rattle.vendor.specs.Verdict.{check_of, cost_at, verdict_of}
use Rattle.vendor.specs.Outcome.{vendor_call, CheckOutcome}
use Rattle.vendor.specs.Meaning.{Choice, Good}
use Rattle.vendor.proofs.Disparities.{disparity-self}
use Rattle.vendor.proofs.Outcomes.{nothing}
use Rattle.vendor.proofs.Meaning.{means-yes}

-- ---- what block choice takes
-- the mark is no number
no_number : finite nan ≡ true → ⊥
no_number e = true≢false (sym e)

-- a valid cell v is the disparity whose raw cost passes the gate, and none is above it
record Taken (search : Search) (least : Float) (costs : List RawCost) (v : Float) : Type 0 where
  pub k : ℕ
  pub searched : k < length costs
  pub is : v ≡ disparity search k
  pub cost : Float
  pub there : get_or costs k Blank ≡ Corr cost
  pub enough : lt cost least ≡ false
  pub unbeaten : (j : ℕ) (u : Float) → j < length costs → get_or costs j Blank ≡ Corr u → lt cost u ≡ false

module _ (search : Search) (gates : Gates) (costs : List RawCost) (whole : search.subpixel ≡ false) where
  -- with sub-pixel off a disparity is a whole number
  placed-whole : (numbers : List Float) (k : ℕ) (best : Float) → placed search numbers k best ≡ disparity search k
  unfolding placed
  placed-whole numbers k best = rw whole

  -- what the gates let pass was taken
  gated-taken : (b : Option Best) → Finds (λ j. j < length costs) costs b → finite (in_buffer (gated search gates costs b)) ≡ true
      → Taken search gates.min_correlation costs (in_buffer (gated search gates costs b))
  unfolding gated
  gated-taken None f valid = absurd (no_number valid)
  gated-taken (Some b) f valid = go (lt b.cost gates.min_correlation) refl (too_close b.cost (competitor b.k costs) gates.uniqueness_ratio) valid
    where
      cell : Bool → Bool → Float
      cell s t = in_buffer (cond s Mark (cond t Mark (At (placed search (map stored costs) b.k b.cost))))

      go : (s : Bool) → lt b.cost gates.min_correlation ≡ s → (t : Bool) → finite (cell s t) ≡ true → Taken search gates.min_correlation costs (cell s t)
      go true e t v = absurd (no_number v)
      go false e true v = absurd (no_number v)
      go false e false v = record {
        k = b.k;
        searched = f.counts;
        is = placed-whole (map stored costs) b.k b.cost;
        cost = b.cost;
        there = f.there;
        enough = e;
        unbeaten = f.none_above;
      }

-- of a pixel, by a raw volume
cell-taken : (w h r : ℕ) (search : Search) (gates : Gates) (raw : List Float) (p : ℕ) → search.subpixel ≡ false → AllInRange (costs_of raw (w * h) p search.count)
    → finite (in_buffer (block_cell w h r search gates raw p)) ≡ true
    → Taken search gates.min_correlation (costs_of raw (w * h) p search.count) (in_buffer (block_cell w h r search gates raw p))
unfolding block_cell block_choice
cell-taken w h r search gates raw p whole range = go (inner w h r p)
  where
    costs : List RawCost
    costs = costs_of raw (w * h) p search.count

    cell : Bool → Float
    cell t = in_buffer (cond t (gated search gates costs (best_of costs)) Mark)

    go : (t : Bool) → finite (cell t) ≡ true → Taken search gates.min_correlation costs (cell t)
    go true v = gated-taken search gates costs whole (best_of costs) (best-largest costs range) v
    go false v = absurd (no_number v)

-- ---- the map, cell by cell
-- what the left-right test leaves of a number: itself, or no number
tested-valid : (w : ℕ) (limit : Float) (right : List Float) (p : ℕ) (d : Float) → finite (tested_cell w limit right p d) ≡ true → tested_cell w limit right p d ≡ d
unfolding tested_cell
tested-valid w limit right p d = go (finite d && not (confirms w limit right p d))
  where
    go : (t : Bool) → finite (cond t nan d) ≡ true → cond t nan d ≡ d
    go true v = absurd (no_number v)
    go false v = refl

module _ (w h : ℕ) (o : BlockMatchOptions) (block : o.mode ≡ Block) (left right : List ℕ) where
  -- the left map before the test, and the right one
  abbrev left_map : List Float
  left_map = side_map w h o (volume_of w h o Left left right)

  abbrev right_map : List Float
  right_map = side_map w h o (volume_of w h o Right left right)

  -- the test keeps the length
  map-length : length (map_of w h o left right) ≡ w * h
  unfolding map_of left_right
  map-length = go o.lr_consistency
    where
      go : (t : Bool) → length (cond t (left_right w o.lr_max_diff left_map right_map) left_map) ≡ w * h
      go true = list_of-length (length left_map) _ ∙ side-length w h o block (volume_of w h o Left left right)
      go false = side-length w h o block (volume_of w h o Left left right)

  -- a valid cell is that of the left map
  map_at : (p : ℕ) → p < w * h → finite (get_or (map_of w h o left right) p nan) ≡ true → get_or (map_of w h o left right) p nan ≡ cell_from w h o (volume_of w h o Left left right) p
  unfolding map_of left_right
  map_at p l = λ valid. go o.lr_consistency valid ∙ side-at w h o block (volume_of w h o Left left right) p l
    where
      cell : Float
      cell = get_or left_map p nan

      after : get_or (left_right w o.lr_max_diff left_map right_map) p nan ≡ tested_cell w o.lr_max_diff right_map p cell
      after = list_of-at (length left_map) _ p nan (rw (side-length w h o block (volume_of w h o Left left right)) l)

      go : (t : Bool) → finite (get_or (cond t (left_right w o.lr_max_diff left_map right_map) left_map) p nan) ≡ true
          → get_or (cond t (left_right w o.lr_max_diff left_map right_map) left_map) p nan ≡ cell
      go true v = after ∙ tested-valid w o.lr_max_diff right_map p cell (subst (λ c. finite c ≡ true) after v)
      go false v = refl

-- ---- an accepted pair
module _ {w h : ℕ} {o : BlockMatchOptions} {left right : List ℕ} (a : AcceptedPair w h o left right) where
  -- rows 1 to 9 do not apply
  sizes : Sizes (match_call left w h right w h o a.out a.whole a.float)
  sizes = (accepted _ a.accepted).sizes

  -- a raw cost is blank or lies from -1 to 1
  bound : (x y k : ℕ) → InRange (cost_at (check_of w h o) left right x y k)
  bound x y k =
      raw-cost-bound Left w h (half o) o.min_disparity left right x y k sizes.r-most (record { bytes = sizes.left-bytes; small = a.left-levels })
      (record { bytes = sizes.right-bytes; small = a.right-levels })

  -- what block choice reads at pixel p is its raw costs
  abbrev costs_at : ℕ → List RawCost
  costs_at p = costs_of (volume_of w h o Left left right) (w * h) p (count_of o)

  costs-length : (p : ℕ) → length (costs_at p) ≡ count_of o
  unfolding costs_of
  costs-length p = list_of-length (count_of o) _

  cost-at : (p k : ℕ) → p < w * h → k < count_of o → get_or (costs_at p) k Blank ≡ cost_at (check_of w h o) left right (p % w) (p / w) k
  unfolding costs_of
  cost-at p k l lk =
      list_of-at (count_of o) _ k Blank lk
      ∙ ap (λ i. raw_of (get_or (volume_of w h o Left left right) (k * (w * h) + i) nan)) (sym (div-add-mod' p w))
      ∙ ap raw_of (volume-cell Left w h (half o) o.min_disparity (count_of o) left right (p % w) (p / w) k nan (mod-lt p (mul-pos-left p w h l)) (row_below w h p l) lk)
      ∙ stored_back _ (bound (p % w) (p / w) k)

  -- so they are in range
  costs-range : (p : ℕ) → p < w * h → AllInRange (costs_at p)
  costs-range p l k lk =
      let inside : k < count_of o = rw (costs-length p) at lk in
      rw (cost-at p k l inside) (bound (p % w) (p / w) k)

  -- a cell that block choice took is a choice
  taken-choice : (p : ℕ) → p < w * h → (v : Float) → Taken (search_of o) o.min_correlation (costs_at p) v → Choice (check_of w h o) left right (p % w) (p / w) v
  taken-choice p l v t =
      let inside : t.k < count_of o = rw (costs-length p) at t.searched in
      record {
        k = t.k;
        searched = inside;
        is = rw t.is (disparity-self (search_of o) (record { few = sizes.few; close = sizes.close }) t.k inside);
        cost = t.cost;
        there = sym (cost-at p t.k l inside) ∙ t.there;
        enough = t.enough;
        unbeaten = λ j u lj e. t.unbeaten j u (rw (costs-length p) lj) (cost-at p j l lj ∙ e);
      }

  -- every valid cell is one
  own-good : o.mode ≡ Block → o.subpixel ≡ false → (p : ℕ) → p < w * h → Good (check_of w h o) left right (map_of w h o left right) p
  own-good block whole p l valid =
      let is = map_at w h o block left right p l valid in
      taken-choice p l _
      (rw is (cell-taken w h (half o) (search_of o) (gates_of o) (volume_of w h o Left left right) p whole (costs-range p l) (rw is at valid)))

-- THEOREM: with sub-pixel off the block map of every accepted pair passes, with every option, left-right on or off
pub own-passes : (w h : ℕ) (o : BlockMatchOptions) (left right : List ℕ) → AcceptedPair w h o left right → o.mode ≡ Block → o.subpixel ≡ false
    → verdict_of (check_of w h o) left right (map_of w h o left right) ≡ Yes
own-passes w h o left right a block whole = means-yes (check_of w h o) left right (map_of w h o left right) (own-good a block whole)

-- ---- the calls
-- rows 1 to 9 are of the same fields
same_rows : (left right : List ℕ) (w h : ℕ) (o : BlockMatchOptions) (out whole float room : ℕ)
    → first_of (pair_rows (match_call left w h right w h o out whole float)) ≡ 0 → first_of (pair_rows (vendor_call left w h right w h o room)) ≡ 0
unfolding picture_rows search_rows
same_rows left right w h o out whole float room e = e

-- THEOREM: of the calls: a map that a match has made is answered with yes, whatever the room that is lent for it holds
pub own-call : (w h : ℕ) (o : BlockMatchOptions) (left right : List ℕ) (out out' : List Float) (whole whole' : List ℕ) (float float' : List Float)
    → Levels left → Levels right → o.mode ≡ Block → o.subpixel ≡ false
    → MatchOutcome 0 (match_call left w h right w h o (length out) (length whole) (length float)) o left right out out' whole whole' float float'
    → (answer : Result Verdict Refusal) (room room' : List ℕ) → whole_cells_of (vendor_call left w h right w h o (length room)) ≤ length room
    → CheckOutcome answer (vendor_call left w h right w h o (length room)) o left right w h out' room room'
    → answer ≡ Ok Yes
own-call w h o left right out out' whole whole' float float' ll lr block noSub done answer room room' long check =
    let a : AcceptedPair w h o left right = record {
      out = length out;
      whole = length whole;
      float = length float;
      accepted = sym done.answer;
      left-levels = ll;
      right-levels = lr;
    } in
    let is_map : out' ≡ map_of w h o left right = done.output in
    let size : length out' ≡ w * h = rw is_map (map-length w h o block left right) in
    let pair = (none (match_call left w h right w h o (length out) (length whole) (length float)) (sym done.answer)).pair in
    let zero = nothing (vendor_call left w h right w h o (length room)) w h (length out') (same_rows left right w h o _ _ _ (length room) pair) refl refl size long in
    known_by answer (Ok Yes)
    (check.answers
    ∙ sym (answer-made (verdict_of (check_of w h o) left right out') zero)
    ∙ ap is (ap (verdict_of (check_of w h o) left right) is_map ∙ own-passes w h o left right a block noSub))
