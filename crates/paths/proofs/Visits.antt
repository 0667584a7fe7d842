-- Where the cells of a visit lie, and what it makes of them. Assumes nothing.
use Prim.Native.Nat.{ℕ, ◌+◌, ◌-◌, ◌*◌, ◌<◌, ◌≤◌}
use mathlib.Core.Path.{◌≡◌, refl, sym, ap, ◌∙◌, subst}
use mathlib.Core.List.{List, ◌++◌}
use native.Mathlib.Nat.{le-mul_of_pos_right}
use native.Mathlib.Omega.{arith}
use lib.ListN.{length, take, drop}
use lib.Ieee.{Float}
use Rattle.std.specs.Prelude.{None, Some}
use Rattle.lists.proofs.Rows.{pixel-in}
use Rattle.paths.specs.declared.direction.Walk.{Walk}
use Rattle.paths.specs.Path.{step_vec, add_vec}
use Rattle.paths.specs.Room.{run, put, Runs}
use Rattle.paths.specs.Walk.{previous_of, path_from, path_cells, slot_of, slot_in, slot_path, pixels_in, cells_in, Direction}
use Rattle.paths.proofs.Parts.{length_run, run-put}
use Rattle.paths.proofs.Places.{previous-in}
use Rattle.paths.proofs.Slots.{slot-in, slot-other, OfSlot, of-slot, no_slot}
use Rattle.paths.proofs.Steps.{length-sum}
use Rattle.paths.proofs.Walks.{cells-end, cells-apart, slot-length}
use Rattle.paths.proofs.Blocks.{lent, same-part}

-- the pixel in column x of row y, and its slot r
module _ (k : Walk) (x y : ℕ) (hx : x < k.w) (hy : y < k.h) where
  abbrev p : ℕ
  p = y * k.w + x

  pub pixel_inside : y * k.w + x < pixels_in k
  pixel_inside = pixel-in k.w k.h x y hx hy

  pub pixels_few : 0 < k.count → pixels_in k ≤ cells_in k
  pixels_few some = le-mul_of_pos_right (pixels_in k) some

  pub pixel_end : (y * k.w + x) * k.count + k.count ≤ cells_in k
  pixel_end = cells-end (pixels_in k) k.count p pixel_inside

  slot-inside : slot_of k.w p < pixels_in k
  slot-inside = slot-in k.w k.h p pixel_inside

  pub slot_end : (r : ℕ) → r ≡ slot_of k.w (y * k.w + x) → r * k.count + k.count ≤ cells_in k
  slot_end r e = rw e (cells-end (pixels_in k) k.count (slot_of k.w p) slot-inside)

  cost-length : (c : List Float) → length c ≡ cells_in k → length (path_cells k.count c p) ≡ k.count
  cost-length c hc = length_run k.count (p * k.count) c (omega (arith, pixel_end))

  -- the matching costs as they were lent
  pub cost-is : (c : List Float)
      → take ((y * k.w + x) * k.count + k.count - (y * k.w + x) * k.count) (drop ((y * k.w + x) * k.count) c) ≡ path_cells k.count c (y * k.w + x)
  cost-is c = same-part (p * k.count) k.count c

  -- the slot that a step reads
  module _ (dir : Direction k.dx k.dy) (q : ℕ) (e : Some q ≡ slot_in k.w (previous_of k (y * k.w + x))) where
    of : OfSlot k.w (previous_of k p) q
    of = of-slot k.w (previous_of k p) q (sym e)

    q-inside : q < pixels_in k
    q-inside = subst (λ (i : ℕ). i < pixels_in k) of.slot (slot-in k.w k.h of.q (previous-in k dir p pixel_inside of.q of.pixel))

    pub read_end : q * k.count + k.count ≤ cells_in k
    read_end = cells-end (pixels_in k) k.count q q-inside

    pub read_runs : (l : List Float) → length l ≡ cells_in k → (r n : ℕ) → r ≡ slot_of k.w (y * k.w + x) → n ≡ k.count → Runs l (q * k.count) (r * k.count) n
    read_runs l hl r n er en =
        rw (er, en)
        (record {
          a_in = omega (arith, read_end);
          b-in = omega (arith, slot_end (slot_of k.w p) refl);
          apart = cells-apart k.count (slot_of k.w p) q (λ z. slot-other k dir p pixel_inside of.q of.pixel (of.slot ∙ z));
        })

    read-path : (l c : List Float) → length c ≡ cells_in k → step_vec k.p1 k.p2 (run (length (path_cells k.count c (y * k.w + x))) (q * k.count) l) (path_cells k.count c (y * k.w + x)) ≡ slot_path k l c (y * k.w + x)
    read-path l c hc =
        ap (λ (n : ℕ). step_vec k.p1 k.p2 (run n (q * k.count) l) (path_cells k.count c p)) (cost-length c hc)
        ∙ ap (λ (s : ℕ). step_vec k.p1 k.p2 (path_cells k.count l s) (path_cells k.count c p)) (sym of.slot)
        ∙ ap (path_from k (λ s. path_cells k.count l (slot_of k.w s)) (path_cells k.count c p)) (sym of.pixel)

    -- a step from it
    pub visit-step : (l c : List Float) → length c ≡ cells_in k → (r : ℕ) → r ≡ slot_of k.w (y * k.w + x) → (l' : List Float)
        → (let cost = take ((y * k.w + x) * k.count + k.count - (y * k.w + x) * k.count) (drop ((y * k.w + x) * k.count) c) in l' ≡ put l (r * k.count) (step_vec k.p1 k.p2 (run (length cost) (q * k.count) l) cost))
        → l' ≡ put l (slot_of k.w (y * k.w + x) * k.count) (slot_path k l c (y * k.w + x))
    visit-step l c hc r er l' e =
        e
        ∙ ap (λ (z : List Float). put l (r * k.count) (step_vec k.p1 k.p2 (run (length z) (q * k.count) l) z)) (cost-is c)
        ∙ ap (put l (r * k.count)) (read-path l c hc)
        ∙ ap (λ (i : ℕ). put l (i * k.count) (slot_path k l c p)) er

  start-path : None ≡ slot_in k.w (previous_of k (y * k.w + x)) → (l c : List Float) → path_cells k.count c (y * k.w + x) ≡ slot_path k l c (y * k.w + x)
  start-path e l c = ap (path_from k (λ s. path_cells k.count l (slot_of k.w s)) (path_cells k.count c p)) (sym (no_slot k.w (previous_of k p) (sym e)))

  -- a path start
  pub visit-start : None ≡ slot_in k.w (previous_of k (y * k.w + x)) → (l c : List Float) → length c ≡ cells_in k → (r : ℕ) → r ≡ slot_of k.w (y * k.w + x) → (z : List Float)
      → z ≡ take ((y * k.w + x) * k.count + k.count - (y * k.w + x) * k.count) (drop ((y * k.w + x) * k.count) c) → (l' : List Float)
      → l' ≡ take (r * k.count) l ++ (z ++ drop (r * k.count + k.count - r * k.count) (drop (r * k.count) l)) → l' ≡ put l (slot_of k.w (y * k.w + x) * k.count) (slot_path k l c (y * k.w + x))
  visit-start e l c hc r er z ez l' el =
      let same : z ≡ slot_path k l c p = ez ∙ cost-is c ∙ start-path e l c in
      el
      ∙ lent (r * k.count) (r * k.count + k.count - r * k.count) l z (omega (arith, ap length (ez ∙ cost-is c), cost-length c hc))
      ∙ ap (put l (r * k.count)) same
      ∙ ap (λ (i : ℕ). put l (i * k.count) (slot_path k l c p)) er

  -- the sums, where the path costs are in their slot
  pub visit-sum : (l c s l' s' : List Float) (r : ℕ) → length l ≡ cells_in k → length c ≡ cells_in k → length s ≡ cells_in k → r ≡ slot_of k.w (y * k.w + x)
      → l' ≡ put l (slot_of k.w (y * k.w + x) * k.count) (slot_path k l c (y * k.w + x))
      → s' ≡ add_vec (take ((y * k.w + x) * k.count + k.count - (y * k.w + x) * k.count) (drop ((y * k.w + x) * k.count) s)) (take (r * k.count + k.count - r * k.count) (drop (r * k.count) l'))
      → take ((y * k.w + x) * k.count) s ++ (s' ++ drop ((y * k.w + x) * k.count + k.count - (y * k.w + x) * k.count) (drop ((y * k.w + x) * k.count) s))
      ≡ put s ((y * k.w + x) * k.count) (add_vec (path_cells k.count s (y * k.w + x)) (slot_path k l c (y * k.w + x)))
  visit-sum l c s l' s' r hl hc hs er el es =
      let vec = slot_path k l c p in
      let long : length vec ≡ k.count = slot-length k c hc l p pixel_inside in
      let there : take (r * k.count + k.count - r * k.count) (drop (r * k.count) l') ≡ vec =
      same-part (r * k.count) k.count l'
      ∙ ap (λ (i : ℕ). run k.count (i * k.count) l') er
      ∙ ap (run k.count (slot_of k.w p * k.count)) el
      ∙ run-put l (slot_of k.w p * k.count) vec (omega (arith, slot_end (slot_of k.w p) refl)) k.count (sym long) in
      let made : s' ≡ add_vec (path_cells k.count s p) vec =
      es ∙ ap (λ (z : List Float). add_vec z (take (r * k.count + k.count - r * k.count) (drop (r * k.count) l'))) (same-part (p * k.count) k.count s) ∙ ap (add_vec (path_cells k.count s p)) there in
      ap (λ (z : List Float). take (p * k.count) s ++ (z ++ drop (p * k.count + k.count - p * k.count) (drop (p * k.count) s))) made
      ∙ lent (p * k.count) (p * k.count + k.count - p * k.count) s (add_vec (path_cells k.count s p) vec) (omega (arith, length-sum (path_cells k.count s p) vec, cost-length s hs))
