-- A PGM file and a PFM header as the Netpbm pages describe them, said of the bytes that are there
-- (docs/SPECIFICATION.md, "PGM", "PFM"). Definitions only.
use Rattle.std.specs.Prelude.{ℕ, ◌+◌, ◌*◌, ◌<◌, ◌≡◌, true, false, ◌&&◌, List, [], ◌∷◌, ◌++◌, length}
use Rattle.options.specs.Limits.{is_side}
use Rattle.texts.specs.Digits.{Numeral}
use Rattle.netpbm.specs.Header.{is_white, ends_line}
use Rattle.netpbm.specs.declared.order.Order.{Order}
use Rattle.netpbm.specs.declared.order.Order.TheVariants.{Little, Big}
use Rattle.netpbm.specs.Pgm.{pgm_magic}
use Rattle.netpbm.specs.Pfm.{pfm_magic, space, line_end, minus, plus, point}

-- bytes within a comment, none of which ends it
abbrev pub InLine : List ℕ → Type 0
InLine [] = Unit {0}
InLine (b ∷ s) = (ends_line b ≡ false) × InLine s

-- white space and comments, at least one byte: a white-space character, a comment from # (35) to its line end, and one of these after another
pub data Blanks : List ℕ → Type 0 where
  white : {b : ℕ} → is_white b ≡ true → Blanks (b ∷ [])
  comment : (text : List ℕ) (e : ℕ) → InLine text → ends_line e ≡ true → Blanks (35 ∷ (text ++ (e ∷ [])))
  more : {a b : List ℕ} → Blanks a → Blanks b → Blanks (a ++ b)

-- white space and a number
pub data Spaced : List ℕ → ℕ → Type 0 where
  spaced : {gap word : List ℕ} {n : ℕ} → Blanks gap → Numeral word n → Spaced (gap ++ word) n

-- ---- PGM

-- a PGM header and the bytes after it: the magic number; white space and a width; white space and a height; white space and a maximum; a single white-space character
pub record PgmHeader (s : List ℕ) (w h m : ℕ) (rest : List ℕ) : Type 0 where
  pub width : List ℕ
  pub height : List ℕ
  pub maximum : List ℕ
  pub last : ℕ
  pub text : s ≡ pgm_magic ++ width ++ height ++ maximum ++ last ∷ rest
  pub wide : Spaced width w
  pub high : Spaced height h
  pub most : Spaced maximum m
  pub white : is_white last ≡ true

-- a PGM picture as bytes: a header with sides from 1 to 2,048 and the maximum 255, and after it a level for each pixel
pub record PgmText (s : List ℕ) (w h : ℕ) (levels : List ℕ) : Type 0 where
  pub header : PgmHeader s w h 255 levels
  pub wide : is_side w ≡ true
  pub high : is_side h ≡ true
  pub long : length levels ≡ w * h

-- ---- what else bytes can be, each by the number that refuses it

-- 41: there is no header
abbrev pub NoHeader : List ℕ → Type 0
NoHeader s = (w h m : ℕ) (rest : List ℕ) → PgmHeader s w h m rest → ⊥

-- 42: there is one, and its maximum is not 255
pub record OtherMaximum (s : List ℕ) : Type 0 where
  pub width : ℕ
  pub height : ℕ
  pub maximum : ℕ
  pub rest : List ℕ
  pub header : PgmHeader s width height maximum rest
  pub other : maximum ≡ 255 → ⊥

-- 43: there is one with that maximum, and a side is not from 1 to 2,048
pub record SideOut (s : List ℕ) : Type 0 where
  pub width : ℕ
  pub height : ℕ
  pub rest : List ℕ
  pub header : PgmHeader s width height 255 rest
  pub out : is_side width && is_side height ≡ false

-- 44: there is one with that maximum and such sides, and the bytes after it are not as many as pixels
pub record DataOff (s : List ℕ) : Type 0 where
  pub width : ℕ
  pub height : ℕ
  pub rest : List ℕ
  pub header : PgmHeader s width height 255 rest
  pub sides : is_side width && is_side height ≡ true
  pub off : length rest ≡ width * height → ⊥

-- ---- PFM

-- a scale's sign: a minus says little-endian, a plus or none big-endian
pub data Sign : List ℕ → Order → Type 0 where
  negative : Sign minus Little
  positive : Sign plus Big
  unsigned : Sign [] Big

-- a point with a number, or neither, which is 0
pub data Fraction : List ℕ → ℕ → Type 0 where
  pointed : {word : List ℕ} {n : ℕ} → Numeral word n → Fraction (point ++ word) n
  whole : Fraction [] 0

-- a PFM scale's line: perhaps a sign; a number and perhaps a point with a number, not both zero; LF
pub record ScaleText (line : List ℕ) (o : Order) : Type 0 where
  pub sign : List ℕ
  pub units : List ℕ
  pub fraction : List ℕ
  pub before : ℕ
  pub after : ℕ
  pub text : line ≡ sign ++ units ++ fraction ++ line_end
  pub order : Sign sign o
  pub number : Numeral units before
  pub part : Fraction fraction after
  pub some : 0 < before + after

-- a PFM header and the bytes after it: `Pf` and LF; a width, one space, a height and LF; the scale's line
pub record PfmHeader (s : List ℕ) (o : Order) (w h : ℕ) (rest : List ℕ) : Type 0 where
  pub width : List ℕ
  pub height : List ℕ
  pub scale : List ℕ
  pub text : s ≡ pfm_magic ++ width ++ space ++ height ++ line_end ++ scale ++ rest
  pub wide : Numeral width w
  pub high : Numeral height h
  pub order : ScaleText scale o
