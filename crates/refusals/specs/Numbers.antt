-- The number of each refusal (docs/SPECIFICATION.md, "Numbers given back"). Definitions only.
use Rattle.std.specs.Prelude.{ℕ}
use Rattle.refusals.specs.declared.Refusal.{Refusal}
use Rattle.refusals.specs.declared.Refusal.TheVariants as refusal

-- the number that hosts are given for a reason
abbrev pub number_of : Refusal → ℕ
number_of refusal.SizeOutOfRange = 1
number_of refusal.ByteCount = 2
number_of refusal.SizesDiffer = 3
number_of refusal.BlockEven = 4
number_of refusal.BlockTooLarge = 5
number_of refusal.CountNotPositive = 6
number_of refusal.CountTooLarge = 7
number_of refusal.PictureSmallerThanBlock = 8
number_of refusal.FirstOutOfRange = 9
number_of refusal.PenaltyOutOfRange = 10
number_of refusal.PenaltiesReversed = 13
number_of refusal.OutputLength = 11
number_of refusal.RoomTooShort = 12
number_of refusal.CameraOutOfRange = 21
number_of refusal.BaselineOutOfRange = 22
number_of refusal.MapSize = 23
number_of refusal.ListTooShort = 24
number_of refusal.CoordinateNan = 25
number_of refusal.PixelOutside = 26
number_of refusal.IndexLength = 28
number_of refusal.CellInfinite = 31
number_of refusal.CellNotWhole = 32
number_of refusal.OutputTooShort = 33
number_of refusal.NumberUnfit = 34
number_of refusal.VersionOrKindUnknown = 35
number_of refusal.SheetSize = 36
number_of refusal.CellNumber = 37
number_of refusal.BytesLeftOver = 38
number_of refusal.FileHeader = 41
number_of refusal.FileMaximum = 42
number_of refusal.FileSize = 43
number_of refusal.FileData = 44
number_of refusal.FileOutput = 45
number_of refusal.CellSide = 51
number_of refusal.DistanceOutOfRange = 52
number_of refusal.RectangleSides = 53
number_of refusal.TooManyCells = 54
number_of refusal.GridLength = 55
