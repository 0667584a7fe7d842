-- The numbers of refusals: each is above 0, and no two reasons have one number; so an answer is known by what it gives back. Assumes nothing.
use Prim.Native.Nat.{ℕ, ◌<◌}
use native.Mathlib.Omega.{arith}
use mathlib.Core.Path.{◌≡◌, refl, sym, ap, ◌∙◌}
use mathlib.Core.Bool.{cond}
use lib.Dec.{eqb}
use Rattle.std.specs.Prelude.{Result, Ok, Err}
use Rattle.refusals.specs.declared.Refusal.{Refusal}
use Rattle.refusals.specs.declared.Refusal.TheVariants as refusal
use Rattle.refusals.specs.Numbers.{number_of}
use Rattle.refusals.specs.Given.{given_back, number_in}

pub some : (e : Refusal) → 0 < number_of e
some refusal.SizeOutOfRange = omega arith
some refusal.ByteCount = omega arith
some refusal.SizesDiffer = omega arith
some refusal.BlockEven = omega arith
some refusal.BlockTooLarge = omega arith
some refusal.CountNotPositive = omega arith
some refusal.CountTooLarge = omega arith
some refusal.PictureSmallerThanBlock = omega arith
some refusal.FirstOutOfRange = omega arith
some refusal.PenaltyOutOfRange = omega arith
some refusal.PenaltiesReversed = omega arith
some refusal.OutputLength = omega arith
some refusal.RoomTooShort = omega arith
some refusal.CameraOutOfRange = omega arith
some refusal.BaselineOutOfRange = omega arith
some refusal.MapSize = omega arith
some refusal.ListTooShort = omega arith
some refusal.CoordinateNan = omega arith
some refusal.PixelOutside = omega arith
some refusal.IndexLength = omega arith
some refusal.CellInfinite = omega arith
some refusal.CellNotWhole = omega arith
some refusal.OutputTooShort = omega arith
some refusal.NumberUnfit = omega arith
some refusal.VersionOrKindUnknown = omega arith
some refusal.SheetSize = omega arith
some refusal.CellNumber = omega arith
some refusal.BytesLeftOver = omega arith
some refusal.FileHeader = omega arith
some refusal.FileMaximum = omega arith
some refusal.FileSize = omega arith
some refusal.FileData = omega arith
some refusal.FileOutput = omega arith
some refusal.CellSide = omega arith
some refusal.DistanceOutOfRange = omega arith
some refusal.RectangleSides = omega arith
some refusal.TooManyCells = omega arith
some refusal.GridLength = omega arith

-- the reason with a number, for a number that one has
refusal_of : ℕ → Refusal
refusal_of n =
    cond (eqb n 1) refusal.SizeOutOfRange (
    cond (eqb n 2) refusal.ByteCount (
    cond (eqb n 3) refusal.SizesDiffer (
    cond (eqb n 4) refusal.BlockEven (
    cond (eqb n 5) refusal.BlockTooLarge (
    cond (eqb n 6) refusal.CountNotPositive (
    cond (eqb n 7) refusal.CountTooLarge (
    cond (eqb n 8) refusal.PictureSmallerThanBlock (
    cond (eqb n 9) refusal.FirstOutOfRange (
    cond (eqb n 10) refusal.PenaltyOutOfRange (
    cond (eqb n 13) refusal.PenaltiesReversed (
    cond (eqb n 11) refusal.OutputLength (
    cond (eqb n 12) refusal.RoomTooShort (
    cond (eqb n 21) refusal.CameraOutOfRange (
    cond (eqb n 22) refusal.BaselineOutOfRange (
    cond (eqb n 23) refusal.MapSize (
    cond (eqb n 24) refusal.ListTooShort (
    cond (eqb n 25) refusal.CoordinateNan (
    cond (eqb n 26) refusal.PixelOutside (
    cond (eqb n 28) refusal.IndexLength (
    cond (eqb n 31) refusal.CellInfinite (
    cond (eqb n 32) refusal.CellNotWhole (
    cond (eqb n 33) refusal.OutputTooShort (
    cond (eqb n 34) refusal.NumberUnfit (
    cond (eqb n 35) refusal.VersionOrKindUnknown (
    cond (eqb n 36) refusal.SheetSize (
    cond (eqb n 37) refusal.CellNumber (
    cond (eqb n 38) refusal.BytesLeftOver (
    cond (eqb n 41) refusal.FileHeader (
    cond (eqb n 42) refusal.FileMaximum (
    cond (eqb n 43) refusal.FileSize (
    cond (eqb n 44) refusal.FileData (
    cond (eqb n 45) refusal.FileOutput (
    cond (eqb n 51) refusal.CellSide (
    cond (eqb n 52) refusal.DistanceOutOfRange (
    cond (eqb n 53) refusal.RectangleSides (
    cond (eqb n 54) refusal.TooManyCells (
    refusal.GridLength)))))))))))))))))))))))))))))))))))))

there : (e : Refusal) → refusal_of (number_of e) ≡ e
unfolding refusal_of
there refusal.SizeOutOfRange = refl
there refusal.ByteCount = refl
there refusal.SizesDiffer = refl
there refusal.BlockEven = refl
there refusal.BlockTooLarge = refl
there refusal.CountNotPositive = refl
there refusal.CountTooLarge = refl
there refusal.PictureSmallerThanBlock = refl
there refusal.FirstOutOfRange = refl
there refusal.PenaltyOutOfRange = refl
there refusal.PenaltiesReversed = refl
there refusal.OutputLength = refl
there refusal.RoomTooShort = refl
there refusal.CameraOutOfRange = refl
there refusal.BaselineOutOfRange = refl
there refusal.MapSize = refl
there refusal.ListTooShort = refl
there refusal.CoordinateNan = refl
there refusal.PixelOutside = refl
there refusal.IndexLength = refl
there refusal.CellInfinite = refl
there refusal.CellNotWhole = refl
there refusal.OutputTooShort = refl
there refusal.NumberUnfit = refl
there refusal.VersionOrKindUnknown = refl
there refusal.SheetSize = refl
there refusal.CellNumber = refl
there refusal.BytesLeftOver = refl
there refusal.FileHeader = refl
there refusal.FileMaximum = refl
there refusal.FileSize = refl
there refusal.FileData = refl
there refusal.FileOutput = refl
there refusal.CellSide = refl
there refusal.DistanceOutOfRange = refl
there refusal.RectangleSides = refl
there refusal.TooManyCells = refl
there refusal.GridLength = refl

-- THEOREM: reasons with one number are one
pub apart : (a b : Refusal) → number_of a ≡ number_of b → a ≡ b
apart a b e = sym (there a) ∙ (ap refusal_of e ∙ there b)

-- THEOREM: answers that give back the same are the same
pub known_by : {A : Type 0} (a b : Result A Refusal) → given_back a ≡ given_back b → a ≡ b
known_by (Ok x) (Ok y) e = let same : x ≡ y = cc in ap (λ z. Ok z) same
known_by (Ok x) (Err f) e = cc
known_by (Err d) (Ok y) e = cc
known_by (Err d) (Err f) e = let same : number_of d ≡ number_of f = cc in ap (λ z. Err z) (apart d f same)

-- THEOREM: of an answer without a value its number is enough
pub known_by_number : (a b : Result Unit Refusal) → number_in a ≡ number_in b → a ≡ b
known_by_number (Ok x) (Ok y) e = refl
known_by_number (Ok x) (Err f) e = absurd (omega (arith, some f))
known_by_number (Err d) (Ok y) e = absurd (omega (arith, some d))
known_by_number (Err d) (Err f) e = ap (λ z. Err z) (apart d f e)
