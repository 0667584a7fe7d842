-- OUTCOMES ARE DETERMINED: for every public call any two outcomes that its statement allows are equal; where the answer is an enum, so are the number and the values that it gives back. Each theorem has its call's name. Assumes nothing.
use Prim.Native.Nat.{ℕ}
use mathlib.Core.Path.{◌≡◌, ap}
use mathlib.Core.List.{List}
use lib.ListN.{length}
use lib.Ieee.{Float, binary32, binary64}
use Rattle.std.specs.Prelude.{Result, Option, Bool}
use Rattle.refusals.specs.declared.Refusal.{Refusal}
use Rattle.refusals.specs.Given.{given_back, number_in}
use Rattle.refusals.proofs.Numbers.{known_by_number}
use Rattle.maps.specs.declared.Cell.{Cell}
use Rattle.maps.specs.declared.Span.{Span}
use Rattle.sheets.specs.declared.reading.SheetSize.{SheetSize}
use Rattle.netpbm.specs.declared.raster.Size.{Size}
use Rattle.volume.specs.declared.site.Shape.{Shape}
use Rattle.volume.specs.declared.heap.Figures.{Figures}
use Rattle.numbers.specs.Root.{root_of}
use Rattle.numbers.specs.Narrow.{narrowed}
use Rattle.numbers.specs.Away.{rounded_away}
use Rattle.options.specs.declared.BlockMatchOptions.{BlockMatchOptions}
use Rattle.options.specs.declared.Side.{Side}
use Rattle.options.specs.Options.{default_options}
use Rattle.calls.specs.declared.Call.{Call}
use Rattle.calls.specs.Refusals as calls
use Rattle.pictures.specs.Picture.{pixel_of}
use Rattle.pictures.specs.Bilinear.{sample_of}
use Rattle.maps.specs.Map.{got_at, valid_at, valid_count, valid_range, cover_of}
use Rattle.points.specs.declared.Intrinsics.{Intrinsics}
use Rattle.points.specs.declared.Point3.{Point3}
use Rattle.points.specs.declared.PointRecord.{PointRecord}
use Rattle.points.specs.Point.{point_of}
use Rattle.points.specs.Records.{PointsOutcome}
use Rattle.rows.specs.declared.RowRecord.{RowRecord}
use Rattle.rows.specs.declared.Edit.{Edit}
use Rattle.rows.specs.Index.{range_in, FreshOutcome, EditOutcome}
use Rattle.costs.specs.Outcome.{raw_call, RawOutcome}
use Rattle.costs.proofs.Outcomes as costs
use Rattle.matching.specs.Outcome.{match_call, MatchOutcome}
use Rattle.matching.proofs.Outcomes as matching
use Rattle.vendor.specs.declared.Verdict.{Verdict}
use Rattle.vendor.specs.Outcome.{vendor_call, CheckOutcome}
use Rattle.vendor.proofs.Outcomes as vendor
use Rattle.refusals.proofs.Outcomes.{same_outcome, same-given}
use Rattle.sheets.specs.Sheet.{sheet_of, read_sheet}
use Rattle.refusals.specs.Writes.{byte_count, WriteOutcome}
use Rattle.sheets.specs.Outcome.{size_said, ReadOutcome}
use Rattle.volume.specs.declared.site.Site.{Site}
use Rattle.volume.specs.Outcome.{grid_shape, HeapOutcome}
use Rattle.netpbm.specs.Pgm.{read_pgm}
use Rattle.netpbm.specs.Pfm.{pfm_of, read_pfm}
use Rattle.netpbm.specs.Outcome as netpbm

-- a match: its number, the output and same_outcome rooms afterwards
pub match-block : (left : List ℕ) (w h : ℕ) (right : List ℕ) (w' h' : ℕ) (o : BlockMatchOptions) (out : List Float) (whole : List ℕ) (float : List Float)
    (n n' : ℕ) (out₁ out₂ : List Float) (whole₁ whole₂ : List ℕ) (float₁ float₂ : List Float)
    → MatchOutcome n (match_call left w h right w' h' o (length out) (length whole) (length float)) o left right out out₁ whole whole₁ float float₁
    → MatchOutcome n' (match_call left w h right w' h' o (length out) (length whole) (length float)) o left right out out₂ whole whole₂ float float₂
    → (n ≡ n') × (out₁ ≡ out₂) × (whole₁ ≡ whole₂) × (float₁ ≡ float₂)
match-block left w h right w' h' o out whole float n n' out₁ out₂ whole₁ whole₂ float₁ float₂ =
    matching.one-outcome (match_call left w h right w' h' o (length out) (length whole) (length float)) o left right out whole float n n' out₁ out₂ whole₁ whole₂ float₁ float₂

-- a raw volume: its number, the output and the room afterwards
pub raw-volume : (left : List ℕ) (w h : ℕ) (right : List ℕ) (w' h' : ℕ) (o : BlockMatchOptions) (side : Side) (out : List Float) (room : List ℕ)
    (n n' : ℕ) (out₁ out₂ : List Float) (room₁ room₂ : List ℕ)
    → RawOutcome n (raw_call left w h right w' h' o (length out) (length room)) side left right out out₁ room room₁
    → RawOutcome n' (raw_call left w h right w' h' o (length out) (length room)) side left right out out₂ room room₂
    → (n ≡ n') × (out₁ ≡ out₂) × (room₁ ≡ room₂)
raw-volume left w h right w' h' o side out room n n' out₁ out₂ room₁ room₂ =
    costs.one-outcome (raw_call left w h right w' h' o (length out) (length room)) side left right out room n n' out₁ out₂ room₁ room₂

-- a check on a vendor's map: its verdict, and the room afterwards
pub check-vendor : (left : List ℕ) (w h : ℕ) (right : List ℕ) (w' h' : ℕ) (o : BlockMatchOptions) (map : List Float) (mapWidth mapHeight : ℕ) (room : List ℕ)
    (v v' : Result Verdict Refusal) (room₁ room₂ : List ℕ)
    → CheckOutcome v (vendor_call left w h right w' h' o (length room)) o left right mapWidth mapHeight map room room₁
    → CheckOutcome v' (vendor_call left w h right w' h' o (length room)) o left right mapWidth mapHeight map room room₂
    → ((v ≡ v') × (given_back v ≡ given_back v')) × (room₁ ≡ room₂)
check-vendor left w h right w' h' o map mapWidth mapHeight room v v' room₁ room₂ e e' =
    let one = vendor.one-outcome (vendor_call left w h right w' h' o (length room)) o left right mapWidth mapHeight map room v v' room₁ room₂ e e' in
    ((one.0, ap given_back one.0), one.1)

-- of a match, a raw volume, a fresh index and an edit the number is enough: answers without a value that have one number are one
pub known : (r r' : Result Unit Refusal) → number_in r ≡ number_in r' → r ≡ r'
known = known_by_number

-- the refusal of a call
pub refusal : (q : Call) (n n' : ℕ) → n ≡ calls.refusal q → n' ≡ calls.refusal q → n ≡ n'
refusal q n n' = same_outcome

-- the options where none are given
pub defaults : (o o' : BlockMatchOptions) → o ≡ default_options → o' ≡ default_options → o ≡ o'
defaults o o' = same_outcome

-- root, rounding and narrowing
pub root : (n : ℕ) (r r' : Float) → r ≡ root_of n → r' ≡ root_of n → r ≡ r'
root n r r' = same_outcome

pub round-half-away : (x r r' : Float) → r ≡ rounded_away binary32 x → r' ≡ rounded_away binary32 x → r ≡ r'
round-half-away x r r' = same_outcome

pub round-half-away-wide : (x r r' : Float) → r ≡ rounded_away binary64 x → r' ≡ rounded_away binary64 x → r ≡ r'
round-half-away-wide x r r' = same_outcome

pub narrow : (x r r' : Float) → r ≡ narrowed x → r' ≡ narrowed x → r ≡ r'
narrow x r r' = same_outcome

-- the grey picture
pub pixel : (pic : List ℕ) (w h x y : ℕ) (r r' : Result ℕ Refusal) → given_back r ≡ pixel_of pic w h x y → given_back r' ≡ pixel_of pic w h x y → (r ≡ r') × (given_back r ≡ given_back r')
pixel pic w h x y r r' = same-given

pub bilinear : (pic : List ℕ) (w h : ℕ) (xf yf : Float) (r r' : Result Float Refusal) → given_back r ≡ sample_of pic w h xf yf → given_back r' ≡ sample_of pic w h xf yf → (r ≡ r') × (given_back r ≡ given_back r')
bilinear pic w h xf yf r r' = same-given

-- a view of a map: its three fields
pub new : {Cells : Type 0} (w h : ℕ) (cells : Cells) (w₁ w₂ h₁ h₂ : ℕ) (cells₁ cells₂ : Cells) → (w₁ ≡ w) × ((h₁ ≡ h) × (cells₁ ≡ cells)) → (w₂ ≡ w) × ((h₂ ≡ h) × (cells₂ ≡ cells))
    → (w₁ ≡ w₂) × (h₁ ≡ h₂) × (cells₁ ≡ cells₂)
new w h cells w₁ w₂ h₁ h₂ cells₁ cells₂ e e' = (same_outcome e.0 e'.0, same_outcome e.1.0 e'.1.0, same_outcome e.1.1 e'.1.1)

-- the map, by its view: `get`, `valid`, `valid_count` and `valid_range` answer what the definitions say of its size and cells
pub get : (w h : ℕ) (cells : List Float) (x y : ℕ) (r r' : Result Cell Refusal) → given_back r ≡ got_at w h cells x y → given_back r' ≡ got_at w h cells x y → (r ≡ r') × (given_back r ≡ given_back r')
get w h cells x y r r' = same-given

pub valid : (w h : ℕ) (cells : List Float) (x y : ℕ) (r r' : Result Bool Refusal) → given_back r ≡ valid_at w h cells x y → given_back r' ≡ valid_at w h cells x y → (r ≡ r') × (given_back r ≡ given_back r')
valid w h cells x y r r' = same-given

pub valid-count : (w h : ℕ) (cells : List Float) (r r' : Result ℕ Refusal) → given_back r ≡ valid_count w h cells → given_back r' ≡ valid_count w h cells → (r ≡ r') × (given_back r ≡ given_back r')
valid-count w h cells r r' = same-given

pub valid-range : (w h : ℕ) (cells : List Float) (r r' : Result (Option Span) Refusal) → given_back r ≡ valid_range w h cells → given_back r' ≡ valid_range w h cells → (r ≡ r') × (given_back r ≡ given_back r')
valid-range w h cells r r' = same-given

-- the cover figure
pub cover : (w h : ℕ) (cells : List Float) (block : ℕ) (r r' : Result ℕ Refusal) → given_back r ≡ cover_of w h cells block → given_back r' ≡ cover_of w h cells block → (r ≡ r') × (given_back r ≡ given_back r')
cover w h cells block r r' = same-given

-- one point, and the list of points: its answer and the list afterwards
pub rectified-point : (k : Intrinsics) (x y d : Float) (r r' : Option Point3) → r ≡ point_of k x y d → r' ≡ point_of k x y d → r ≡ r'
rectified-point k x y d r r' = same_outcome

pub points : (w h : ℕ) (cells : List Float) (k : Intrinsics) (list : List PointRecord) (r r' : Result ℕ Refusal) (list₁ list₂ : List PointRecord)
    → PointsOutcome r w h cells k list list₁ → PointsOutcome r' w h cells k list list₂
    → ((r ≡ r') × (given_back r ≡ given_back r')) × (list₁ ≡ list₂)
points w h cells k list r r' list₁ list₂ e e' = (same-given e.answer e'.answer, same_outcome e.lists e'.lists)

-- a row's record: its range; a fresh index, and an edit, with the map and the index afterwards
pub range : (record-of-row : RowRecord) (r r' : Option Span) → r ≡ range_in record-of-row → r' ≡ range_in record-of-row → r ≡ r'
range record-of-row r r' = same_outcome

pub fresh-index : (w h : ℕ) (cells : List Float) (index : List RowRecord) (n n' : ℕ) (index₁ index₂ : List RowRecord)
    → FreshOutcome n w h cells index index₁ → FreshOutcome n' w h cells index index₂ → (n ≡ n') × (index₁ ≡ index₂)
fresh-index w h cells index n n' index₁ index₂ e e' = (same_outcome e.answer e'.answer, same_outcome e.records e'.records)

pub edit-cell : (w h : ℕ) (change : Edit) (cells : List Float) (index : List RowRecord) (n n' : ℕ) (cells₁ cells₂ : List Float) (index₁ index₂ : List RowRecord)
    → EditOutcome n w h change cells cells₁ index index₁ → EditOutcome n' w h change cells cells₂ index index₂ → (n ≡ n') × (cells₁ ≡ cells₂) × (index₁ ≡ index₂)
edit-cell w h change cells index n n' cells₁ cells₂ index₁ index₂ e e' = (same_outcome e.answer e'.answer, same_outcome e.map e'.map, same_outcome e.records e'.records)

-- a map's sheet: how long it is, and written, with the output afterwards
pub sheet-length : (kind w h : ℕ) (cells : List Float) (r r' : Result ℕ Refusal) → given_back r ≡ byte_count (sheet_of kind w h cells) → given_back r' ≡ byte_count (sheet_of kind w h cells) → (r ≡ r') × (given_back r ≡ given_back r')
sheet-length kind w h cells r r' = same-given

pub write-sheet : (kind w h : ℕ) (cells : List Float) (out : List ℕ) (r r' : Result ℕ Refusal) (out₁ out₂ : List ℕ)
    → WriteOutcome 33 r (sheet_of kind w h cells) out out₁ → WriteOutcome 33 r' (sheet_of kind w h cells) out out₂ → ((r ≡ r') × (given_back r ≡ given_back r')) × (out₁ ≡ out₂)
write-sheet kind w h cells out r r' out₁ out₂ e e' = (same-given e.answers e'.answers, same_outcome e.outs e'.outs)

-- what a sheet is, and read, with the output afterwards
pub sheet-size : (s : List ℕ) (r r' : Result SheetSize Refusal) → given_back r ≡ size_said (read_sheet s) → given_back r' ≡ size_said (read_sheet s) → (r ≡ r') × (given_back r ≡ given_back r')
sheet-size s r r' = same-given

pub read-sheet : (s : List ℕ) (out : List Float) (r r' : Result SheetSize Refusal) (out₁ out₂ : List Float)
    → ReadOutcome r (read_sheet s) out out₁ → ReadOutcome r' (read_sheet s) out out₂ → ((r ≡ r') × (given_back r ≡ given_back r')) × (out₁ ≡ out₂)
read-sheet s out r r' out₁ out₂ e e' = (same-given e.answers e'.answers, same_outcome e.outs e'.outs)

-- a PGM picture: its size, and read, with the output afterwards
pub pgm-size : (s : List ℕ) (r r' : Result Size Refusal) → given_back r ≡ netpbm.size_of (read_pgm s) → given_back r' ≡ netpbm.size_of (read_pgm s) → (r ≡ r') × (given_back r ≡ given_back r')
pgm-size s r r' = same-given

pub read-pgm : (s : List ℕ) (out : List ℕ) (r r' : Result Size Refusal) (out₁ out₂ : List ℕ)
    → netpbm.ReadOutcome r (read_pgm s) out out₁ → netpbm.ReadOutcome r' (read_pgm s) out out₂ → ((r ≡ r') × (given_back r ≡ given_back r')) × (out₁ ≡ out₂)
read-pgm s out r r' out₁ out₂ e e' = (same-given e.answers e'.answers, same_outcome e.outs e'.outs)

-- a map's PFM file: how long it is, and written, with the output afterwards
pub pfm-length : (w h : ℕ) (cells : List Float) (r r' : Result ℕ Refusal) → given_back r ≡ byte_count (pfm_of w h cells) → given_back r' ≡ byte_count (pfm_of w h cells) → (r ≡ r') × (given_back r ≡ given_back r')
pfm-length w h cells r r' = same-given

pub write-pfm : (w h : ℕ) (cells : List Float) (out : List ℕ) (r r' : Result ℕ Refusal) (out₁ out₂ : List ℕ)
    → WriteOutcome 45 r (pfm_of w h cells) out out₁ → WriteOutcome 45 r' (pfm_of w h cells) out out₂ → ((r ≡ r') × (given_back r ≡ given_back r')) × (out₁ ≡ out₂)
write-pfm w h cells out r r' out₁ out₂ e e' = (same-given e.answers e'.answers, same_outcome e.outs e'.outs)

-- a PFM map: its size, and read, with the output afterwards
pub pfm-size : (s : List ℕ) (r r' : Result Size Refusal) → given_back r ≡ netpbm.size_of (read_pfm s) → given_back r' ≡ netpbm.size_of (read_pfm s) → (r ≡ r') × (given_back r ≡ given_back r')
pfm-size s r r' = same-given

pub read-pfm : (s : List ℕ) (out : List Float) (r r' : Result Size Refusal) (out₁ out₂ : List Float)
    → netpbm.ReadOutcome r (read_pfm s) out out₁ → netpbm.ReadOutcome r' (read_pfm s) out out₂ → ((r ≡ r') × (given_back r ≡ given_back r')) × (out₁ ≡ out₂)
read-pfm s out r r' out₁ out₂ e e' = (same-given e.answers e'.answers, same_outcome e.outs e'.outs)

-- a heap: the shape of its grid, and its figures, with the grid afterwards
pub heap-shape : (s : Site) (r r' : Result Shape Refusal) → given_back r ≡ grid_shape s → given_back r' ≡ grid_shape s → (r ≡ r') × (given_back r ≡ given_back r')
heap-shape s r r' = same-given

pub heap-volume : (s : Site) (xs ys zs : List Float) (grid : List ℕ) (r r' : Result Figures Refusal) (grid₁ grid₂ : List ℕ)
    → HeapOutcome r s xs ys zs grid grid₁ → HeapOutcome r' s xs ys zs grid grid₂
    → ((r ≡ r') × (given_back r ≡ given_back r')) × (grid₁ ≡ grid₂)
heap-volume s xs ys zs grid r r' grid₁ grid₂ e e' = (same-given e.answer e'.answer, same_outcome e.grids e'.grids)
