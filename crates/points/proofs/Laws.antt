-- What ties the definitions together: a record of the list holds the formula's point, and there are as many records as cells that give a point. Assumes nothing.
use Rattle.std.proofs.Common.{◌≡◌, ℕ, suc, ◌+◌, ◌*◌, ◌/◌, ◌%◌, ◌^◌, ◌≤◌, Bool, true, false, cond, T, Some, List, [], ◌∷◌, length, refl, ◌∙◌, sym, arith}
use native.Mathlib.Nat.{mod-le, div-le_self, le_trans}
use lib.Dec.{le→leb}
use lib.IntN.{pos}
use lib.Ieee.{Float, nan, inf, fin, in_unsigned, in_float, binary64}
use lib.Ieee.Back.{unsigned_back}
use lib.Ieee.Scale.{finite}
use Rattle.std.proofs.lemmas.List.Sums.{sum_by-cons}
use Rattle.options.specs.Limits.{side_most}
use Rattle.points.specs.declared.Intrinsics.{Intrinsics}
use Rattle.points.specs.declared.PointRecord.{PointRecord}
use Rattle.numbers.specs.Operators.{float}
use Rattle.points.specs.Point.{is_positive, point_of}
use Rattle.points.specs.Records.{points_in, point_record, records_from}

-- a whole number of a map's size is a finite f64
small_float : (n : ℕ) → n ≤ side_most * side_most → T (in_float binary64 (pos n))
unfolding in_float
small_float n h = le→leb n (2 ^ 53) (omega arith)

float-finite : (n : ℕ) → n ≤ side_most * side_most → finite (float n) ≡ true
float-finite n h = counted (float n) (unsigned_back binary64 64 n (small_float n h) (omega arith)).0
  where
    counted : (x : Float) → T (in_unsigned binary64 64 x) → finite x ≡ true
    counted nan t = unfold in_unsigned in absurd t
    counted (inf s) t = unfold in_unsigned in absurd t
    counted (fin s m e) t = refl

-- THEOREM: the record of a cell that gives a point holds the formula's point of its pixel and disparity
pub record-is-point : (w : ℕ) (k : Intrinsics) (i : ℕ) (d : Float) → i ≤ side_most * side_most → is_positive d ≡ true
    → point_of k (float (i % w)) (float (i / w)) d ≡ Some (record { x = (point_record w k i d).x; y = (point_record w k i d).y; z = (point_record w k i d).z })
unfolding point_of point_record
record-is-point w k i d h p = rw (p, float-finite (i % w) (le_trans (mod-le i w) h), float-finite (i / w) (le_trans (div-le_self i w) h))

-- THEOREM: there are as many records as cells that give a point
pub records-length : (w : ℕ) (k : Intrinsics) (i : ℕ) (cells : List Float) → length (records_from w k i cells) ≡ points_in cells
unfolding records_from
records-length w k i [] = refl
records-length w k i (c ∷ cs) = one (is_positive c) (point_record w k i c) (records_from w k (suc i) cs) (points_in cs) (records-length w k (suc i) cs) ∙ sym (sum_by-cons (λ x. cond (is_positive x) 1 0) c cs)
  where
    one : (t : Bool) (r : PointRecord) (rs : List PointRecord) (m : ℕ) → length rs ≡ m → length (cond t (r ∷ rs) rs) ≡ cond t 1 0 + m
    one true r rs m h = omega arith
    one false r rs m h = omega arith
