-- The point formula, each operation once in binary64, and its checks (docs/SPECIFICATION.md, "Points"). Definitions only.
use Rattle.std.specs.Prelude.{Bool, false, ◌&&◌, cond, pos, Option, None, Some, Float}
use Rattle.std.specs.Float.{fin, binary64}
use Rattle.std.specs.Float.Ieee.{lt, of_bits}
use Rattle.std.specs.Float.Ieee.Scale.{finite}
use Rattle.numbers.specs.Operators.{◌⊖◌, ◌⊗◌, ◌⊘◌}
use Rattle.points.specs.declared.Intrinsics.{Intrinsics}
use Rattle.points.specs.declared.Point3.{Point3}

-- z = (fx · baseline) / d
abbrev pub depth_of : Intrinsics → Float → Float
depth_of k d = (k.fx ⊗ k.baseline) ⊘ d

-- ((x - cx) · z) / fx
abbrev pub across_of : Intrinsics → Float → Float → Float
across_of k x z = ((x ⊖ k.cx) ⊗ z) ⊘ k.fx

-- ((y - cy) · z) / fy
abbrev pub down_of : Intrinsics → Float → Float → Float
down_of k y z = ((y ⊖ k.cy) ⊗ z) ⊘ k.fy

-- finite and positive
unfoldable pub is_positive : Float → Bool
is_positive x = finite x && lt (fin false 0 (pos 0)) x

-- the point of a pixel and a disparity, whatever they are
abbrev pub point_at : Intrinsics → Float → Float → Float → Point3
point_at k x y d = let z = depth_of k d in record { x = across_of k x z; y = down_of k y z; z = z }

-- the same, and none if the disparity is not finite and positive, or x or y is not finite
unfoldable pub point_of : Intrinsics → Float → Float → Float → Option Point3
point_of k x y d = cond (is_positive d && finite x && finite y) (Some (point_at k x y d)) None

-- fx and fy finite and positive, cx and cy finite
unfoldable pub good_camera : Intrinsics → Bool
good_camera k = is_positive k.fx && is_positive k.fy && finite k.cx && finite k.cy

-- 1e-12 as an f64
abbrev pub least_baseline : Float
least_baseline = of_bits binary64 0x3d71_9799_812d_ea11

-- the baseline finite and over that
unfoldable pub good_baseline : Intrinsics → Bool
good_baseline k = finite k.baseline && lt least_baseline k.baseline
