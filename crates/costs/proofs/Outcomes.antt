-- The outcome of a raw volume. Assumes nothing.
use Prim.Native.Nat.{ℕ, ◌*◌, ◌/◌, ◌≤◌}
use mathlib.Core.Path.{◌≡◌, refl, sym, ◌∙◌}
use mathlib.Core.List.{List}
use lib.IntN.{ℤ, nat_abs}
use lib.Ieee.{Float}
use lib.ListN.{length}
use Rattle.options.specs.declared.Side.{Side}
use Rattle.lists.specs.Lists.{cleared}
use Rattle.calls.specs.declared.Call.{Call}
use Rattle.calls.specs.Refusals.{whole_cells_of, table, refusal}
use Rattle.calls.specs.Accepted.{Sizes}
use Rattle.calls.proofs.Rows.{table-numbered}
use Rattle.refusals.specs.declared.Refusal.{Refusal}
use Rattle.refusals.specs.Numbers.{number_of}
use Rattle.refusals.specs.Answered.{ByPlace}
use Rattle.refusals.proofs.Cases.{after-refused}
use Rattle.refusals.proofs.Answering.{answers-by-place}
use Rattle.refusals.proofs.Outcomes.{same_outcome, same_after}
use Rattle.costs.specs.Raw.{reference_of, target_of, raw_cost}
use Rattle.costs.specs.Rooms.{WindowFits, VolumeSizes}
use Rattle.costs.specs.Volume.{planes_of, raw_volume}
use Rattle.costs.specs.Outcome.{volume_for, RawOutcome}

-- the planes of the side's reference and target are the raw volume
pub planes-volume : (side : Side) (w h r : ℕ) (first : ℤ) (count : ℕ) (left right : List ℕ)
    → planes_of side w h r first count (reference_of side left right) (target_of side left right) ≡ raw_volume side w h r first count left right
unfolding planes_of raw_volume raw_cost
planes-volume side w h r first count left right = refl

-- a call that rows 1 to 9 do not refuse has the sizes that a volume needs
module _ (q : Call) (z : Sizes q) where
  pub frame : WindowFits q.left_w q.left_h (q.block / 2)
  frame = record { w-most = z.w-most; h-most = z.h-most; r-most = z.r-most; across = z.across; down = z.down }

  pub sized : (left right : List ℕ) (outLength roomLength : ℕ) → length left ≡ q.left_bytes → length right ≡ q.right_bytes
      → outLength ≡ nat_abs q.count * (q.left_w * q.left_h) → whole_cells_of q ≤ roomLength
      → VolumeSizes outLength roomLength left right q.left_w q.left_h (q.block / 2) q.first (nat_abs q.count)
  sized left right outLength roomLength el er eo lr = record {
    frame = frame;
    a-bytes = el ∙ z.left-bytes;
    b-bytes = er ∙ z.right-bytes;
    first-most = z.close;
    count_most = z.few;
    out-cells = eo;
    room-cells = lr;
  }

-- the sizes with the pictures in the other order
pub swapped : {outLength roomLength : ℕ} {a b : List ℕ} {w h r : ℕ} {first : ℤ} {count : ℕ} → VolumeSizes outLength roomLength a b w h r first count → VolumeSizes outLength roomLength b a w h r first count
swapped z = record {
  frame = z.frame;
  a-bytes = z.b-bytes;
  b-bytes = z.a-bytes;
  first-most = z.first-most;
  count_most = z.count_most;
  out-cells = z.out-cells;
  room-cells = z.room-cells;
}

-- a refused call leaves everything as it was
pub refused : (q : Call) (side : Side) (left right : List ℕ) (out : List Float) (room : List ℕ) (e : Refusal) → number_of e ≡ refusal q
    → RawOutcome (number_of e) q side left right out out room room
refused q side left right out room e same =
    record { answer = same; output = sym (after-refused e (volume_for q side left right) out refl); rooms = sym (after-refused e (cleared 0 (whole_cells_of q) room) room refl) }

-- one that is not has made the volume and cleared the room
pub made : (q : Call) (side : Side) (left right : List ℕ) (out out' : List Float) (room room' : List ℕ) → 0 ≡ refusal q
    → out' ≡ volume_for q side left right → room' ≡ cleared 0 (whole_cells_of q) room → RawOutcome 0 q side left right out out' room room'
made q side left right out out' room room' e o m = record { answer = e; output = o; rooms = m }

-- THEOREM: the statement leaves one outcome
pub one-outcome : (q : Call) (side : Side) (left right : List ℕ) (out : List Float) (room : List ℕ) (n m : ℕ) (out₁ out₂ : List Float) (room₁ room₂ : List ℕ)
    → RawOutcome n q side left right out out₁ room room₁ → RawOutcome m q side left right out out₂ room room₂ → (n ≡ m) × (out₁ ≡ out₂) × (room₁ ≡ room₂)
one-outcome q side left right out room n m out₁ out₂ room₁ room₂ x y =
    let same = same_outcome x.answer y.answer in
    (same, same_after (volume_for q side left right) out same x.output y.output, same_after (cleared 0 (whole_cells_of q) room) room same x.rooms y.rooms)

-- THEOREM: the answer is n exactly when row n of the table applies and no row that stands before it does, 0 exactly when none applies
pub raw-by-place : {n : ℕ} {q : Call} {side : Side} {left right : List ℕ} {out out' : List Float} {room room' : List ℕ} → RawOutcome n q side left right out out' room room' → ByPlace (table q) n
unfolding refusal
raw-by-place {q = q} x = answers-by-place (table-numbered q) x.answer
