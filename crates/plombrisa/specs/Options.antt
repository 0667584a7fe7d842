-- A host's plain parameters as the library's records. Definitions only.
use Rattle.std.specs.Prelude.{ℕ, Bool, true, false, ℤ, Float}
use Rattle.options.specs.declared.BlockMatchOptions.{BlockMatchOptions}
use Rattle.options.specs.declared.Side.{Side}
use Rattle.options.specs.declared.Side.TheVariants.{Left, Right}
use Rattle.options.specs.Options.{mode_of, default_options}
use Rattle.maps.specs.Cells.{cell_of}
use Rattle.points.specs.declared.Intrinsics.{Intrinsics}
use Rattle.rows.specs.declared.Edit.{Edit}
use Rattle.volume.specs.declared.site.Site.{Site}

-- which picture is the reference
abbrev pub side_of : Bool → Side
side_of true = Right
side_of false = Left

-- the options of a match, one parameter each
abbrev pub match_options : ℤ → ℤ → ℕ → Float → Float → Bool → Float → Bool → Bool → Float → Float → BlockMatchOptions
match_options first count block least margin left_right apart subpixel semiGlobal p1 p2 = record {
  min_disparity = first;
  num_disparities = count;
  block_size = block;
  min_correlation = least;
  uniqueness_ratio = margin;
  lr_consistency = left_right;
  lr_max_diff = apart;
  subpixel = subpixel;
  mode = mode_of semiGlobal;
  sgm_p1 = p1;
  sgm_p2 = p2;
}

-- the options of a raw volume, which reads these three
abbrev pub raw_options : ℤ → ℤ → ℕ → BlockMatchOptions
raw_options first count block = record {
  min_disparity = first;
  num_disparities = count;
  block_size = block;
  min_correlation = default_options.min_correlation;
  uniqueness_ratio = default_options.uniqueness_ratio;
  lr_consistency = default_options.lr_consistency;
  lr_max_diff = default_options.lr_max_diff;
  subpixel = default_options.subpixel;
  mode = default_options.mode;
  sgm_p1 = default_options.sgm_p1;
  sgm_p2 = default_options.sgm_p2;
}

-- the options of a check on a vendor's map, which reads these four
abbrev pub check_options : ℤ → ℤ → ℕ → Float → BlockMatchOptions
check_options first count block least = record {
  min_disparity = first;
  num_disparities = count;
  block_size = block;
  min_correlation = least;
  uniqueness_ratio = default_options.uniqueness_ratio;
  lr_consistency = default_options.lr_consistency;
  lr_max_diff = default_options.lr_max_diff;
  subpixel = default_options.subpixel;
  mode = default_options.mode;
  sgm_p1 = default_options.sgm_p1;
  sgm_p2 = default_options.sgm_p2;
}

-- the camera's numbers and the baseline, one parameter each
abbrev pub intrinsics_of : Float → Float → Float → Float → Float → Intrinsics
intrinsics_of fx fy cx cy baseline = record { fx = fx; fy = fy; cx = cx; cy = cy; baseline = baseline }

-- the rectangle, the side of a cell and the floor's depth, one parameter each
abbrev pub site_of : ℤ → ℤ → ℤ → ℤ → ℕ → ℤ → Site
site_of left right top bottom cell floor = record { left = left; right = right; top = top; bottom = bottom; cell = cell; floor = floor }

-- the edit of a pixel to a number, whose NaN is the mark
abbrev pub edit_of : ℕ → ℕ → Float → Edit
edit_of x y v = record { x = x; y = y; value = cell_of v }
