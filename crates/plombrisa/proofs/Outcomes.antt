-- What a host is told is one outcome: two that a statement allows are equal. Lent numbers that belong together are one value, equal in each of its fields. Assumes nothing.
use Prim.Native.Nat.{ℕ}
use mathlib.Core.Path.{◌≡◌}
use mathlib.Core.Bool.{Bool}
use Rattle.std.specs.Prelude.{Option}
use mathlib.Core.List.{List}
use lib.Ieee.{Float}
use Rattle.refusals.specs.Steps.{Or}
use Rattle.refusals.proofs.Outcomes.{same_outcome}
use Rattle.points.specs.declared.Intrinsics.{Intrinsics}
use Rattle.points.specs.declared.PointRecord.{PointRecord}
use Rattle.points.specs.declared.Point3.{Point3}
use Rattle.sheets.specs.Sheet.{Sheet}
use Rattle.sheets.specs.Given.{SheetIs}
use Rattle.netpbm.specs.Raster.{Raster}
use Rattle.netpbm.specs.declared.raster.Size.{Size}
use Rattle.options.specs.declared.BlockMatchOptions.{BlockMatchOptions}
use Rattle.calls.specs.declared.Call.{Call}
use Rattle.volume.specs.declared.site.Site.{Site}
use Rattle.volume.specs.declared.heap.Figures.{Figures}
use Rattle.plombrisa.specs.Host.{HostTold, LentVerdict, HostPoint, HostPoints, HostWritten, HostSheet, HostRaster, HostHeap, HostCheck}

-- THEOREM: of a pixel, a reading between pixels, a number of valid cells, a cover figure, the least and the greatest, a byte count, what a sheet is, the size of a
-- picture or of a map, the shape of a site's grid: the number given back, and the lent value
pub one_told : {A : Type 0} {answer : Or A} {lent : A} {n m : ℕ} {lent₁ lent₂ : A}
    → HostTold n answer lent lent₁ → HostTold m answer lent lent₂ → (n ≡ m) × (lent₁ ≡ lent₂)
one_told x y = (same_outcome x.number y.number, same_outcome x.value y.value)

-- THEOREM: of the point of a pixel and a disparity
pub one-point : {p : Option Point3} {lent : Point3} {there there' : Bool} {lent₁ lent₂ : Point3}
    → HostPoint there p lent lent₁ → HostPoint there' p lent lent₂ → (there ≡ there') × (lent₁ ≡ lent₂)
one-point x y = (same_outcome x.answer y.answer, same_outcome x.value y.value)

-- THEOREM: of a map's points
pub one_list : {w h : ℕ} {cells : List Float} {k : Intrinsics} {list : List PointRecord} {count n m : ℕ} {list₁ list₂ : List PointRecord} {count₁ count₂ : ℕ}
    → HostPoints n w h cells k list list₁ count count₁ → HostPoints m w h cells k list list₂ count count₂ → ((n ≡ m) × (count₁ ≡ count₂)) × (list₁ ≡ list₂)
one_list x y = (one_told x.told y.told, same_outcome x.lists y.lists)

-- THEOREM: of a text that is written
pub one_written : {short : ℕ} {text : Or (List ℕ)} {out : List ℕ} {count n m : ℕ} {out₁ out₂ : List ℕ} {count₁ count₂ : ℕ}
    → HostWritten short n text out out₁ count count₁ → HostWritten short m text out out₂ count count₂ → ((n ≡ m) × (count₁ ≡ count₂)) × (out₁ ≡ out₂)
one_written x y = (one_told x.told y.told, same_outcome x.outs y.outs)

-- THEOREM: of a sheet that is read
pub one-read : {sheet : Or Sheet} {out : List Float} {lent : SheetIs} {n m : ℕ} {out₁ out₂ : List Float} {lent₁ lent₂ : SheetIs}
    → HostSheet n sheet out out₁ lent lent₁ → HostSheet m sheet out out₂ lent lent₂ → ((n ≡ m) × (lent₁ ≡ lent₂)) × (out₁ ≡ out₂)
one-read x y = (one_told x.told y.told, same_outcome x.outs y.outs)

-- THEOREM: of a picture or a map that is read
pub one-raster : {A : Type 0} {raster : Or (Raster A)} {out : List A} {lent : Size} {n m : ℕ} {out₁ out₂ : List A} {lent₁ lent₂ : Size}
    → HostRaster n raster out out₁ lent lent₁ → HostRaster m raster out out₂ lent lent₂ → ((n ≡ m) × (lent₁ ≡ lent₂)) × (out₁ ≡ out₂)
one-raster x y = (one_told x.told y.told, same_outcome x.outs y.outs)

-- THEOREM: of a heap's figures, and of its grid
pub one-heap : {s : Site} {xs ys zs : List Float} {grid : List ℕ} {four : Figures} {n m : ℕ} {grid₁ grid₂ : List ℕ} {four₁ four₂ : Figures}
    → HostHeap n s xs ys zs grid grid₁ four four₁ → HostHeap m s xs ys zs grid grid₂ four four₂ → ((n ≡ m) × (four₁ ≡ four₂)) × (grid₁ ≡ grid₂)
one-heap x y = (one_told x.told y.told, same_outcome x.grids y.grids)

-- THEOREM: of a check on a vendor's map, and of its room
pub one-check : {q : Call} {o : BlockMatchOptions} {left right : List ℕ} {w h : ℕ} {map : List Float} {room : List ℕ} {lent : LentVerdict} {n m : ℕ}
    {room₁ room₂ : List ℕ} {lent₁ lent₂ : LentVerdict}
    → HostCheck n q o left right w h map room room₁ lent lent₁ → HostCheck m q o left right w h map room room₂ lent lent₂ → ((n ≡ m) × (lent₁ ≡ lent₂)) × (room₁ ≡ room₂)
one-check x y = (one_told x.told y.told, same_outcome x.rooms y.rooms)
