-- An answer as a host gets it: the number given back, and what each lent value is afterwards. A refusal leaves it as it was. Definitions only.
use Rattle.std.specs.Prelude.{ℕ, ◌≡◌, Bool, true, false, List, length, Option, Some, None, unwrap_or, Float}
use Rattle.lists.specs.Lists.{cleared}
use Rattle.refusals.specs.Steps.{Or, is, and_then}
use Rattle.refusals.specs.Outcome.{after}
use Rattle.refusals.specs.Writes.{room_for, byte_count, out_after}
use Rattle.refusals.specs.Given.{number_back, value_after}
use Rattle.maps.specs.declared.Span.{Span}
use Rattle.points.specs.declared.Intrinsics.{Intrinsics}
use Rattle.points.specs.declared.PointRecord.{PointRecord}
use Rattle.points.specs.Records.{filled_for, list_after}
use Rattle.points.specs.declared.Point3.{Point3}
use Rattle.sheets.specs.Sheet.{Sheet}
use Rattle.sheets.specs.Outcome.{cells_for, size_said, cells_after}
use Rattle.sheets.specs.Given.{SheetIs, said_given}
use Rattle.netpbm.specs.Raster.{Raster}
use Rattle.netpbm.specs.Outcome as netpbm
use Rattle.netpbm.specs.declared.raster.Size.{Size}
use Rattle.options.specs.declared.BlockMatchOptions.{BlockMatchOptions}
use Rattle.calls.specs.declared.Call.{Call}
use Rattle.calls.specs.Refusals.{whole_cells_of}
use Rattle.vendor.specs.Outcome.{vendor_refusal, verdict_for}
use Rattle.vendor.specs.declared.Verdict.{Verdict}
use Rattle.vendor.specs.declared.Verdict.TheVariants.{Yes, No}
use Rattle.volume.specs.declared.site.Site.{Site}
use Rattle.volume.specs.declared.heap.Figures.{Figures}
use Rattle.volume.specs.Outcome.{heap_of, grid_after}
use Rattle.volume.specs.declared.site.Shape.{Shape}

-- the number given back, and the lent value afterwards
pub record HostTold {A : Type 0} (n : ℕ) (answer : Or A) (lent lent' : A) : Type 0 where
  pub number : n ≡ number_back answer
  pub value : lent' ≡ value_after answer lent

-- ---- lent numbers that belong together, as one value
abbrev pub sides_in : ℕ → ℕ → Size
sides_in width height = record { width = width; height = height }

abbrev pub sheet_in : ℕ → ℕ → ℕ → SheetIs
sheet_in kind width height = record { kind = kind; width = width; height = height }

abbrev pub grid_in : ℕ → ℕ → Shape
grid_in columns rows = record { columns = columns; rows = rows }

abbrev pub figures_in : ℕ → ℕ → ℕ → ℕ → Figures
figures_in volume inside outside empty = record { volume = volume; inside = inside; outside = outside; empty = empty }

abbrev pub point_in : Float → Float → Float → Point3
point_in x y z = record { x = x; y = y; z = z }

-- of a map: whether a cell is valid, 1 or 0, and the least and the greatest
pub record LentRange : Type 0 where
  pub valid : ℕ
  pub least : Float
  pub greatest : Float

abbrev pub span_in : ℕ → Float → Float → LentRange
span_in valid least greatest = record { valid = valid; least = least; greatest = greatest }

-- a range in it: least and greatest are as they were where no cell is valid
abbrev pub range_after : LentRange → Option Span → LentRange
range_after lent None = span_in 0 lent.least lent.greatest
range_after lent (Some ends) = span_in 1 ends.least ends.greatest

-- a host is told a range so
abbrev pub HostRange : ℕ → Or (Option Span) → LentRange → LentRange → Type 0
HostRange n answer lent lent' = HostTold n (and_then answer (λ ends. is (range_after lent ends))) lent lent'

-- of a vendor's map: whether it passed, 1 or 0, and column and row of the first bad cell
pub record LentVerdict : Type 0 where
  pub passed : ℕ
  pub column : ℕ
  pub row : ℕ

abbrev pub verdict_in : ℕ → ℕ → ℕ → LentVerdict
verdict_in passed column row = record { passed = passed; column = column; row = row }

-- a verdict in it: column and row are as they were where there is no bad cell
abbrev pub verdict_after : LentVerdict → Verdict → LentVerdict
verdict_after lent Yes = verdict_in 1 lent.column lent.row
verdict_after lent (No column row) = verdict_in 0 column row

-- a host is told a verdict so
abbrev pub HostVerdict : ℕ → Or Verdict → LentVerdict → LentVerdict → Type 0
HostVerdict n answer lent lent' = HostTold n (and_then answer (λ verdict. is (verdict_after lent verdict))) lent lent'

-- ---- where no number is given back

-- whether there is one
abbrev pub is_there : {A : Type 0} → Option A → Bool
is_there None = false
is_there (Some a) = true

-- of a pixel and a disparity: whether there is a point, and its three numbers, which are as they were where there is none
pub record HostPoint (there : Bool) (point : Option Point3) (lent lent' : Point3) : Type 0 where
  pub answer : there ≡ is_there point
  pub value : lent' ≡ unwrap_or point lent

-- ---- where lists are lent too

-- of a map's points: how many records are written, and the list
pub record HostPoints (n w h : ℕ) (cells : List Float) (k : Intrinsics) (list list' : List PointRecord) (count count' : ℕ) : Type 0 where
  pub told : HostTold n (filled_for w h cells k (length list)) count count'
  pub lists : list' ≡ list_after w h cells k list

-- of a text that is written, where `short` refuses an output that is too short: the byte count, and the output
pub record HostWritten (short n : ℕ) (text : Or (List ℕ)) (out out' : List ℕ) (count count' : ℕ) : Type 0 where
  pub told : HostTold n (byte_count (room_for short (length out) text)) count count'
  pub outs : out' ≡ out_after (room_for short (length out) text) out

-- of a sheet that is read: what it is, and the cells
pub record HostSheet (n : ℕ) (sheet : Or Sheet) (out out' : List Float) (lent lent' : SheetIs) : Type 0 where
  pub told : HostTold n (said_given (size_said (cells_for (length out) sheet))) lent lent'
  pub outs : out' ≡ cells_after (cells_for (length out) sheet) out

-- of a picture or a map that is read: width and height, and the cells
pub record HostRaster {A : Type 0} (n : ℕ) (raster : Or (Raster A)) (out out' : List A) (lent lent' : Size) : Type 0 where
  pub told : HostTold n (netpbm.size_of (netpbm.cells_for (length out) raster)) lent lent'
  pub outs : out' ≡ netpbm.cells_after (netpbm.cells_for (length out) raster) out

-- of a heap: its four figures, and the grid
pub record HostHeap (n : ℕ) (s : Site) (xs ys zs : List Float) (grid grid' : List ℕ) (four four' : Figures) : Type 0 where
  pub told : HostTold n (heap_of s xs ys zs (length grid)) four four'
  pub grids : grid' ≡ grid_after s xs ys zs grid

-- of a check on a vendor's map: the verdict, and the room
pub record HostCheck (n : ℕ) (q : Call) (o : BlockMatchOptions) (left right : List ℕ) (w h : ℕ) (map : List Float) (room room' : List ℕ) (lent lent' : LentVerdict) : Type 0 where
  pub told : HostVerdict n (verdict_for q o left right w h map) lent lent'
  pub rooms : room' ≡ after (vendor_refusal q w h (length map)) (cleared 0 (whole_cells_of q) room) room
