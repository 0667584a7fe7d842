-- What the inner functions ask of an accepted match, and what they leave. Definitions only.
use Rattle.std.specs.Prelude.{ℕ, ◌+◌, ◌*◌, ◌≤◌, ◌<◌, ◌≡◌, true, false, cond, List, pos, nat_abs, Float, length, get_or, take, replicate}
use Rattle.std.specs.Float.{nan, inf, fin}
use Rattle.lists.specs.Lists.{cleared}
use Rattle.options.specs.Limits.{side_most, most_count, first_most, is_penalty}
use Rattle.options.specs.Options.{uses_paths}
use Rattle.options.specs.Costs.{raw_of, InRange}
use Rattle.options.specs.declared.Side.{Side}
use Rattle.options.specs.declared.Side.TheVariants.{Left, Right}
use Rattle.options.specs.declared.BlockMatchOptions.{BlockMatchOptions}
use Rattle.windows.specs.Window.{cells}
use Rattle.costs.specs.Rooms.{VolumeAccepted, Picture}
use Rattle.paths.specs.Cost.{matching_costs}
use Rattle.matching.specs.Maps.{half, count_of, volume_of, side_map}

-- the count is no negative number
pub record CountFits (o : BlockMatchOptions) : Type 0 where
  pub whole : o.num_disparities ≡ pos (count_of o)
  pub few : count_of o ≤ most_count

-- V = count·w·h
abbrev pub cells_in : ℕ → ℕ → BlockMatchOptions → ℕ
cells_in w h o = count_of o * (w * h)

-- what one side's map needs of the float room: V cells for a block map, 3V for one along paths
abbrev pub side_cells : ℕ → ℕ → BlockMatchOptions → ℕ
side_cells w h o = cond (uses_paths o.mode) (3 * cells_in w h o) (cells_in w h o)

-- two pictures and options that are accepted, a map's cells, and the whole-number room
pub record MatchFits (left right : List ℕ) (w h : ℕ) (o : BlockMatchOptions) (outLength whole_length : ℕ) : Type 0 where
  pub volume : VolumeAccepted left right w h o (cells_in w h o) whole_length
  pub first : Picture w h left
  pub second : Picture w h right
  pub some : 1 ≤ count_of o
  pub out-cells : outLength ≡ w * h
  pub penalties : uses_paths o.mode ≡ true → (is_penalty o.sgm_p1 ≡ true) × (is_penalty o.sgm_p2 ≡ true)

-- the sizes of a map and of what is searched
pub record MapSizes (w h : ℕ) (o : BlockMatchOptions) (outLength : ℕ) : Type 0 where
  pub wide : w ≤ side_most
  pub high : h ≤ side_most
  pub across : 2 * half o < w
  pub down : 2 * half o < h
  pub counted : CountFits o
  pub some : 1 ≤ count_of o
  pub close : nat_abs o.min_disparity ≤ first_most
  pub out-cells : outLength ≡ w * h

-- a raw volume whose cells are blank or from -1 to 1, and blank where a window has one pixel
pub record VolumeRanged (w h : ℕ) (o : BlockMatchOptions) (volume : List Float) : Type 0 where
  pub long : length volume ≡ cells_in w h o
  pub cells : (i : ℕ) → i < cells_in w h o → InRange (raw_of (get_or volume i nan))
  pub none : half o ≡ 0 → (i : ℕ) → i < cells_in w h o → get_or volume i nan ≡ inf true

-- ---- one side's map

-- what stays of a side's raw volume once its map is made: its matching costs where paths are used, else the volume itself
abbrev pub kept_of : ℕ → ℕ → BlockMatchOptions → List Float → List Float
kept_of w h o volume = cond (uses_paths o.mode) (matching_costs (w * h) (count_of o) volume) volume

-- a match that is accepted, and so much of the float room as a side's map needs
pub record SideRoom (left right : List ℕ) (w h : ℕ) (o : BlockMatchOptions) (outLength whole_length roomLength : ℕ) : Type 0 where
  pub fits : MatchFits left right w h o outLength whole_length
  pub cells : roomLength ≡ side_cells w h o

-- a side's map is in the output, and what stays of its raw volume is at the beginning of the room
pub record SideMade (w h : ℕ) (o : BlockMatchOptions) (side : Side) (left right : List ℕ) (out' : List Float) (whole whole' : List ℕ) (room' : List Float) : Type 0 where
  pub map : out' ≡ side_map w h o (volume_of w h o side left right)
  pub wholes : whole' ≡ cleared 0 (5 * cells w h) whole
  pub kept : take (cells_in w h o) room' ≡ kept_of w h o (volume_of w h o side left right)

-- a room begins with what stays of the right picture's volume
pub record RightKept (left right : List ℕ) (w h : ℕ) (o : BlockMatchOptions) (room : List Float) : Type 0 where
  pub first : Picture w h left
  pub second : Picture w h right
  pub held : take (cells_in w h o) room ≡ kept_of w h o (volume_of w h o Right left right)

-- that of some two accepted pictures
pub record TurningFits (w h : ℕ) (o : BlockMatchOptions) (outLength : ℕ) (room : List Float) : Type 0 where
  pub left : List ℕ
  pub right : List ℕ
  pub whole_length : ℕ
  pub fits : MatchFits left right w h o outLength whole_length
  pub kept : RightKept left right w h o room

-- the same in so much of the float room as a side's map needs
pub record TurningRoom (w h : ℕ) (o : BlockMatchOptions) (outLength : ℕ) (room : List Float) : Type 0 where
  pub turning : TurningFits w h o outLength room
  pub cells : length room ≡ side_cells w h o

-- the left map is in the output, of whichever pictures the room kept the right volume
abbrev pub LeftMade : ℕ → ℕ → BlockMatchOptions → List Float → List Float → Type 0
LeftMade w h o room out' = (left right : List ℕ) → RightKept left right w h o room → out' ≡ side_map w h o (volume_of w h o Left left right)

-- ---- both sides' maps

-- a match that is accepted, and all that it needs of the float room
pub record MatchRoom (left right : List ℕ) (w h : ℕ) (o : BlockMatchOptions) (outLength whole_length roomLength : ℕ) : Type 0 where
  pub fits : MatchFits left right w h o outLength whole_length
  pub cells : roomLength ≡ side_cells w h o + w * h

-- a map is in the output, and both rooms are zero where they were needed
pub record MapMade (w h : ℕ) (made out' : List Float) (whole whole' : List ℕ) (room room' : List Float) : Type 0 where
  pub map : out' ≡ made
  pub wholes : whole' ≡ cleared 0 (5 * cells w h) whole
  pub rooms : room' ≡ replicate (length room) (fin false 0 (pos 0))
