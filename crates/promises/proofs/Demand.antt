-- DEMAND 3, and what its words on rows come to. Assumes nothing.
use Prim.Native.Nat.{ℕ, ◌+◌, ◌-◌, ◌*◌, ◌≤◌, ◌<◌, max}
use mathlib.Core.Path.{◌≡◌, sym, ap, ap₂, ◌∙◌}
use mathlib.Core.Bool.{Bool, true, false, cond}
use mathlib.Core.Logic.{◌⊎◌, inl, inr, ⊎_elim}
use mathlib.Core.List.{List}
use native.Mathlib.Omega.{arith}
use lib.ListN.{length, get_or, replicate}
use lib.Ieee.{Float, nan}
use Rattle.lists.specs.Rows.{row_of}
use Rattle.lists.proofs.Tests.{lt-or-le}
use Rattle.lists.proofs.Rows.{pixel-in, in-row, row_below}
use Rattle.options.specs.Costs.{stored}
use Rattle.options.specs.declared.BlockMatchOptions.{BlockMatchOptions}
use Rattle.options.specs.declared.Side.{Side}
use Rattle.options.specs.declared.Side.TheVariants.{Left, Right}
use Rattle.calls.specs.declared.Call.{Call}
use Rattle.calls.specs.Refusals.{refusal}
use Rattle.choices.specs.LeftRight.{left_right}
use Rattle.costs.proofs.Laws.{volume-cell}
use Rattle.matching.specs.Maps.{half, count_of, volume_of, side_map, map_from, map_of}
use Rattle.refusals.proofs.Cases.{after_none}
use Rattle.matching.specs.Outcome.{MatchOutcome}
use Rattle.promises.specs.Changes.{Misses, Inside, NoRows, OneLevel, Changed}
use Rattle.promises.specs.Demand.{BlockMode, Kept}
use Rattle.promises.proofs.Pairs.{sizes, raw_same, volumes-same}
use Rattle.promises.proofs.Blank.{raw-blank}
use Rattle.matching.proofs.SideMaps.{side_of, side-length, side-at}
use Rattle.promises.proofs.Maps.{cell_same, cell-blank}
use Rattle.promises.proofs.Rows.{row_same, row-of}
use Rattle.promises.proofs.Agreeing.{tested-length, mark-stays, tested-rows}

-- ---- rows whose window rows miss p to q
module _ {w h : ℕ} {o : BlockMatchOptions} {p q : ℕ} {left right left' right' : List ℕ} (c : Changed w h o p q left right left' right') (b : BlockMode o) (y : ℕ) (m : Misses h p q (half o) y) where
  side-rows : (side : Side) → row_of w (side_of w h o side left right) y ≡ row_of w (side_of w h o side left' right') y
  side-rows side =
      let v = volume_of w h o side left right in
      let v' = volume_of w h o side left' right' in
      row_same w (side_map w h o v) (side_map w h o v') y nan (side-length w h o b v ∙ sym (side-length w h o b v'))
      (λ x lx l.
      let inside : y * w + x < w * h = rw (side-length w h o b) at l in
      let ly : y < h = rw (in-row w x y lx) at (row_below w h (y * w + x) inside) in
      side-at w h o b v (y * w + x) inside
      ∙ cell_same w h o v v' (y * w + x)
      (λ i li.
      volume-cell side w h (half o) o.min_disparity (count_of o) left right x y i nan lx ly li
      ∙ ap stored (raw_same c side o.min_disparity x y i m)
      ∙ sym (volume-cell side w h (half o) o.min_disparity (count_of o) left' right' x y i nan lx ly li))
      ∙ sym (side-at w h o b v' (y * w + x) inside))

  map_rows : row_of w (map_of w h o left right) y ≡ row_of w (map_of w h o left' right') y
  unfolding map_of
  map_rows = go o.lr_consistency
    where
      l : List Float
      l = side_of w h o Left left right

      r : List Float
      r = side_of w h o Right left right

      l' : List Float
      l' = side_of w h o Left left' right'

      r' : List Float
      r' = side_of w h o Right left' right'

      go : (t : Bool) → row_of w (cond t (left_right w o.lr_max_diff l r) l) y ≡ row_of w (cond t (left_right w o.lr_max_diff l' r') l') y
      go true =
          tested-rows w o.lr_max_diff l r l' r' y (sizes c.first).w-most
          (side-length w h o b _ ∙ sym (side-length w h o b _)) (side-rows Left) (side-rows Right)
      go false = side-rows Left

-- ---- rows whose window rows lie inside rows of one level
module _ {w h : ℕ} (o : BlockMatchOptions) {p q : ℕ} {left right : List ℕ} (c : OneLevel w h p q left ⊎ OneLevel w h p q right) (b : BlockMode o) (y : ℕ) (ly : y < h) (m : Inside h p q (half o) y) where
  side-mark : (side : Side) (x : ℕ) → x < w → get_or (side_of w h o side left right) (y * w + x) nan ≡ nan
  side-mark side x lx =
      let v = volume_of w h o side left right in
      side-at w h o b v (y * w + x) (pixel-in w h x y lx ly)
      ∙ cell-blank w h o v (y * w + x)
      (λ i li.
      volume-cell side w h (half o) o.min_disparity (count_of o) left right x y i nan lx ly li
      ∙ ap stored (raw-blank (half o) c side o.min_disparity x y i m))

  blank-row : row_of w (map_of w h o left right) y ≡ replicate w nan
  unfolding map_of
  blank-row = go o.lr_consistency
    where
      l : List Float
      l = side_of w h o Left left right

      r : List Float
      r = side_of w h o Right left right

      long : length l ≡ w * h
      long = side-length w h o b (volume_of w h o Left left right)

      go : (t : Bool) → row_of w (cond t (left_right w o.lr_max_diff l r) l) y ≡ replicate w nan
      go true =
          row-of w h (left_right w o.lr_max_diff l r) y nan (tested-length w o.lr_max_diff l r ∙ long) ly
          (λ x lx. mark-stays w o.lr_max_diff l r (y * w + x) (rw long (pixel-in w h x y lx ly)) (side-mark Left x lx))
      go false = row-of w h l y nan long ly (side-mark Left)

-- ---- THEOREM: demand 3
pub demand-three : {w h : ℕ} {o : BlockMatchOptions} {p q : ℕ} {left right left' right' : List ℕ} → Changed w h o p q left right left' right' → Kept w h o p q left right left' right'
unfolding map_of
demand-three {w} {h} {o} c = record {
  rows = λ b y m. map_rows c b y m;
  blank = λ b e y l m. blank-row o e b y l m;
  whole = λ none. ap₂ (map_from w h o) (volumes-same c none Left) (volumes-same c none Right);
}

-- ---- the output of an accepted match is THE map: demand 3 is of what the calls leave
pub output-is-map : (n : ℕ) (q : Call) (o : BlockMatchOptions) (left right : List ℕ) (out out' : List Float) (whole whole' : List ℕ) (float float' : List Float)
    → MatchOutcome n q o left right out out' whole whole' float float' → refusal q ≡ 0 → out' ≡ map_of q.left_w q.left_h o left right
output-is-map n q o left right out out' whole whole' float float' d e = d.output ∙ after_none n _ out (d.answer ∙ e)

-- ---- the window rows miss p to q where y + r < p or q < y - r, and only there for a row y of the inner frame
pub misses-above : (h p q r y : ℕ) → y + r < p → Misses h p q r y
misses-above h p q r y l i _ o = inl (omega arith)

pub misses-below : (h p q r y : ℕ) → q < y - r → Misses h p q r y
misses-below h p q r y l i _ o = inr (omega arith)

pub misses-means : (h p q r y : ℕ) → p ≤ q → r ≤ y → y + r < h → Misses h p q r y → (y + r < p) ⊎ (q < y - r)
misses-means h p q r y some top bottom o =
    ⊎_elim
    (λ (l : y + r < p). inl l)
    (λ (l : p ≤ y + r).
    inr
    (⊎_elim
    (λ (a : max p (y - r) < p). absurd (omega arith))
    (λ (b : q < max p (y - r)). omega arith)
    (o (max p (y - r)) (omega arith) (omega arith, omega arith))))
    (lt-or-le (y + r) p)

-- ---- they lie inside p to q where p ≤ y - r and y + r ≤ q
pub inside-rows : (h p q r y : ℕ) → p + r ≤ y → y + r ≤ q → Inside h p q r y
inside-rows h p q r y l l' i _ o = (omega arith, omega arith)

-- ---- and with q below p no row is left out
pub no_rows : (h p q : ℕ) → q < p → NoRows h p q
no_rows h p q l i _ = ⊎_elim (λ (k : i < p). inl k) (λ (k : p ≤ i). inr (omega arith)) (lt-or-le i p)
