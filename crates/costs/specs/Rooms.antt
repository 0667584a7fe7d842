-- What the whole-number room holds while a volume is made. Definitions only.
use Rattle.std.specs.Prelude.{ℕ, ◌+◌, ◌*◌, ◌/◌, ◌≤◌, ◌<◌, ◌≡◌, List, ◌++◌, ℤ, pos, nat_abs, ◌+ℤ◌, length, get_or, take}
use Rattle.options.specs.declared.BlockMatchOptions.{BlockMatchOptions}
use Rattle.options.specs.Limits.{side_most, block_most, most_count, first_most}
use Rattle.lists.specs.Rows.{level_at}
use Rattle.windows.specs.Table.{square_at, cross_at, table_of}
use Rattle.windows.specs.Window.{Inside, cells, TableFrom, window_sum}
use Rattle.costs.specs.Roots.{picture_tables}

-- the sizes of two pictures and of a window that fits in them
pub record WindowFits (w h r : ℕ) : Type 0 where
  pub w-most : w ≤ side_most
  pub h-most : h ≤ side_most
  pub r-most : r ≤ block_most / 2
  pub across : 2 * r < w
  pub down : 2 * r < h

-- the bytes of a picture of w columns and h rows
pub record Picture (w h : ℕ) (pic : List ℕ) : Type 0 where
  pub bytes : length pic ≡ w * h
  pub small : (i : ℕ) → get_or pic i 0 ≤ 255

-- the tables of a picture's levels and squares stand one after the other, each from its cell i on
pub record TablesFrom (pair : List ℕ) (w h i : ℕ) (pic : List ℕ) : Type 0 where
  pub picture : Picture w h pic
  pub levels : TableFrom pair 0 i w h (level_at w pic)
  pub squares : TableFrom pair (cells w h) i w h (square_at w pic)

-- those of some picture, while sums and roots take their place
pub record TablesTurned (pair : List ℕ) (w h r i : ℕ) : Type 0 where
  pub pic : List ℕ
  pub frame : WindowFits w h r
  pub among : i < cells w h
  pub held : TablesFrom pair w h i pic

-- a room begins with the tables of the pictures a and b
pub record TablesOf (room : List ℕ) (w h r : ℕ) (a b : List ℕ) : Type 0 where
  pub rest : List ℕ
  pub frame : WindowFits w h r
  pub first : Picture w h a
  pub second : Picture w h b
  pub is : room ≡ picture_tables w h r a ++ picture_tables w h r b ++ rest

-- the tables of two pictures one after the other, and the table of the products of a's levels by b's, s columns further right
unfoldable pub five_parts : ℕ → ℕ → ℕ → List ℕ → List ℕ → ℤ → List ℕ
five_parts w h r a b s = picture_tables w h r a ++ picture_tables w h r b ++ table_of w h (cross_at w a b s)

-- a room begins with the five parts of the pictures a and b
pub record RoomOf (room : List ℕ) (w h r : ℕ) (s : ℤ) (a b : List ℕ) : Type 0 where
  pub rest : List ℕ
  pub frame : WindowFits w h r
  pub first : Picture w h a
  pub second : Picture w h b
  pub is : room ≡ five_parts w h r a b s ++ rest

-- a room begins with the five parts of some two pictures
pub record RoomReady (room : List ℕ) (w h r : ℕ) (s : ℤ) : Type 0 where
  pub a : List ℕ
  pub b : List ℕ
  pub held : RoomOf room w h r s a b

-- what a pair of windows is read from: a room of some two pictures, with the window at (x, y) in the one and at (x', y) in the other
pub record Pair (room : List ℕ) (w h r x x' y : ℕ) : Type 0 where
  pub s : ℤ
  pub a : List ℕ
  pub b : List ℕ
  pub held : RoomOf room w h r s a b
  pub first : Inside w h x y r
  pub second : Inside w h x' y r
  pub apart : pos x +ℤ s ≡ pos x'

-- the same of a room with the tables of some two pictures, where the sum of the windows' products is known
pub record WindowsSummed (room : List ℕ) (w h r x x' y products : ℕ) : Type 0 where
  pub s : ℤ
  pub a : List ℕ
  pub b : List ℕ
  pub held : TablesOf room w h r a b
  pub first : Inside w h x y r
  pub second : Inside w h x' y r
  pub apart : pos x +ℤ s ≡ pos x'
  pub sum : products ≡ window_sum (cross_at w a b s) x y r

-- a pair of windows in each of n columns, from x and from x' on
pub record WindowsInLine (room : List ℕ) (w h r x x' y n : ℕ) : Type 0 where
  pub s : ℤ
  pub a : List ℕ
  pub b : List ℕ
  pub held : RoomOf room w h r s a b
  pub apart : pos x +ℤ s ≡ pos x'
  pub left : r ≤ x
  pub left' : r ≤ x'
  pub right : x + n + r ≤ w
  pub right' : x' + n + r ≤ w
  pub top : r ≤ y
  pub bottom : y + r < h

-- the room for the two tables of a picture
pub record PictureRoom (pair pic : List ℕ) (w h r : ℕ) : Type 0 where
  pub frame : WindowFits w h r
  pub bytes : length pic ≡ w * h
  pub cells-of : length pair ≡ 2 * cells w h

-- the sizes of a raw volume, of its pictures and of its room
pub record VolumeSizes (outLength roomLength : ℕ) (a b : List ℕ) (w h r : ℕ) (first : ℤ) (count : ℕ) : Type 0 where
  pub frame : WindowFits w h r
  pub a-bytes : length a ≡ w * h
  pub b-bytes : length b ≡ w * h
  pub first-most : nat_abs first ≤ first_most
  pub count_most : count ≤ most_count
  pub out-cells : outLength ≡ count * (w * h)
  pub room-cells : 5 * cells w h ≤ roomLength

-- and the tables of the two pictures stand in the room
pub record VolumeTabled (outLength : ℕ) (room a b : List ℕ) (w h r : ℕ) (first : ℤ) (count : ℕ) : Type 0 where
  pub sizes : VolumeSizes outLength (length room) a b w h r first count
  pub tables : take (4 * cells w h) room ≡ picture_tables w h r a ++ picture_tables w h r b

-- the sizes of a call that is not refused: both pictures have one size, and the count is no negative number
pub record VolumeAccepted (left right : List ℕ) (w h : ℕ) (options : BlockMatchOptions) (outLength roomLength : ℕ) : Type 0 where
  pub sizes : VolumeSizes outLength roomLength left right w h (options.block_size / 2) options.min_disparity (nat_abs options.num_disparities)
  pub whole : options.num_disparities ≡ pos (nat_abs options.num_disparities)
